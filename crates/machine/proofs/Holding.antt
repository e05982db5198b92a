-- What the parts of a tick keep of the relation between the code's state, the places and the work left
use mathlib.Core.Path.{◌≡◌, refl, sym, ap, ◌∙◌}
use mathlib.Core.Bool.{Bool, true, false, cond, false≢true}
use mathlib.Core.Logic.{inl, inr, ◌≢◌}
use mathlib.Core.List.{List}
use Prim.Native.Nat.{ℕ, zero, suc, ◌+◌, ◌-◌, ◌≤◌, ◌<◌, min}
use native.Mathlib.Omega.{arith}
use native.Mathlib.Decide.{ℕ_discrete}
use lib.Dec.{eqb}
use lib.ListN.{length, get_or, set}
use lib.Seq.{get_or-set_same, get_or-set_other}
use borrow.Author.Tests.{eqb-true, eqb-false}
use Rattle.std.specs.declared.option.Option.{Option}
use Rattle.std.specs.declared.option.Option.TheVariants.{Some, None}
use Rattle.scope.specs.Limits.{most_tasks}
use Rattle.scope.specs.Tasks.{Task, task_at}
use Rattle.scope.specs.Jobs.{Job, job_at, release_of, task_of, work_of, deadline}
use Rattle.scope.specs.Machine.{chosen, worked, tick}
use Rattle.theory.specs.Numbers.{bool_cases}
use Rattle.jobs.specs.Legal.{Tasks, Jobs}
use Rattle.machine.specs.declared.places.Place.{Place}
use Rattle.machine.specs.Bits.{mem, added, removed}
use Rattle.machine.specs.Places.{left_at, due_at, held_at, put_at, served_at, ended_at}
use Rattle.machine.specs.State.{Whole, next_of, pending_of, feed, release_at}
use Rattle.machine.specs.Relation.{PlaceOf, Holds, Sound, Split, Ends}
use Rattle.machine.proofs.Sets.{added_same, added_other, removed_same, removed_other}
use Rattle.machine.proofs.PlaceLaws.{put_length, put_other, put_own, served_length, served_other, served_own}
use Rattle.machine.proofs.PlaceLaws.{ended_last, ended_more}
use Rattle.machine.proofs.Counting.{none_some, some_same}
use Rattle.machine.proofs.Pick.{Chosen}

-- the work left when the job of task i has got a tick
abbrev served : List Place → ℕ → List ℕ → List ℕ
served places i work = set work (held_at places i) (get_or work (held_at places i) 0 - 1)

module _ (ts : List Task) (js : List Job) (tasks : Tasks ts) (legal : Jobs ts js) (work : List ℕ) where
  -- ---- releasing a job

  -- where no job is late at instant k, the task of a job released at k has no pending job: the one before it was due T ticks after its release
  free_at_lem : (pending next : ℕ) (places : List Place) (k m : ℕ) → Holds ts js work pending next places → next ≤ m → m < length js → release_of js m ≡ k →
      ((j : ℕ) → j < length js → deadline ts js j ≤ k → get_or work j 0 ≡ 0) → mem pending (task_of js m) ≡ false
  free_at_lem pending next places k m h a b e ontime = elim (bool_cases (mem pending i)) [ inl q ↦ absurd (taken q) | inr q ↦ q ]
    where
      i : ℕ
      i = task_of js m

      taken : mem pending i ≡ true → ⊥
      taken q =
          let z = h.place i (omega (arith, legal.known m b, tasks.few)) q in
          let j : ℕ = held_at places i in
          let d : (task_at ts (task_of js j)).D ≡ (task_at ts i).D = ap (λ (x : ℕ). (task_at ts x).D) z.same in
          let due : deadline ts js j ≤ k =
          omega (arith, legal.apart j m (omega (arith, z.known)) b z.same, tasks.within i (legal.known m b), d) in
          omega (arith, ontime j (omega (arith, z.known)) due, z.left, z.some)

  -- job m, the next, takes its task's place, where that is free
  module _ (pending m : ℕ) (places : List Place) (h : Holds ts js work pending m places) (l : m < length js) (e : get_or work m 0 ≡ work_of js m)
      (f : mem pending (task_of js m) ≡ false) where
    abbrev i : ℕ
    i = task_of js m

    abbrev after : List Place
    after = put_at places i (work_of js m) (deadline ts js m) m

    low : i < most_tasks
    low = omega (arith, legal.known m l, tasks.few)

    -- the place of its own task
    own : PlaceOf ts js work (m + 1) after i
    own =
        let q = put_own places i (work_of js m) (deadline ts js m) m h.size low in
        record {
          known = omega (arith, q.2);
          same = ap (task_of js) q.2;
          due = q.1 ∙ sym (ap (deadline ts js) q.2);
          left = q.0 ∙ sym e ∙ sym (ap (λ (x : ℕ). get_or work x 0) q.2);
          some = omega (arith, q.0, legal.some m l);
        }

    -- the place of another task
    other : (x : ℕ) → x < most_tasks → x ≢ i → mem pending x ≡ true → PlaceOf ts js work (m + 1) after x
    other x a u q =
        let y = h.place x a q in
        let z = put_other places i (work_of js m) (deadline ts js m) m x u in
        record {
          known = omega (arith, z.2, y.known);
          same = ap (task_of js) z.2 ∙ y.same;
          due = z.1 ∙ y.due ∙ sym (ap (deadline ts js) z.2);
          left = z.0 ∙ y.left ∙ sym (ap (λ (x : ℕ). get_or work x 0) z.2);
          some = omega (arith, z.0, y.some);
        }

    put_holds : Holds ts js work (added pending i) (m + 1) after
    put_holds = record {
      size = put_length places i (work_of js m) (deadline ts js m) m ∙ h.size;
      place = λ x a q. elim (ℕ_discrete i x) [ yes z ↦ rw (← z) own | no z ↦ other x a (λ g. z (sym g)) (sym (added_other pending i x z) ∙ q) ];
      held = λ j a q. elim (ℕ_discrete j m) [
        | yes z ↦ rw z (added_same pending i, (put_own places i (work_of js m) (deadline ts js m) m h.size low).2)
        | no z ↦
            let y = h.held j (omega arith) q in
            let u : i ≢ task_of js j = λ g. false≢true (sym f ∙ ap (mem pending) g ∙ y.0) in
            (added_other pending i (task_of js j) u ∙ y.0, (put_other places i (work_of js m) (deadline ts js m) m (task_of js j) (λ g. u (sym g))).2 ∙ y.1)
      ];
    }

    put_sound : (soon : ℕ) → Sound pending places soon → Sound (added pending i) after (min soon (deadline ts js m))
    put_sound soon ok x a q = elim (ℕ_discrete i x) [
      | yes z ↦ rw (← z) (omega (arith, (put_own places i (work_of js m) (deadline ts js m) m h.size low).1))
      | no z ↦ omega (arith, (put_other places i (work_of js m) (deadline ts js m) m x (λ g. z (sym g))).1, ok x a (sym (added_other pending i x z) ∙ q))
    ]

  -- ---- releasing the jobs of tick k

  -- v is w after that
  pub record Fed (k : ℕ) (w v : Whole) : Type 0 where
    pub holds : Holds ts js work v.state.pending.bits v.state.next v.places
    pub soon : Sound v.state.pending.bits v.places v.state.soon
    pub split : Split js (k + 1) (k + 1) v.state.next
    pub backlog : v.state.backlog ≡ w.state.backlog
    pub instant : v.state.instant ≡ w.state.instant
    pub end : v.state.end ≡ w.state.end

  module _ (k : ℕ) (ontime : (j : ℕ) → j < length js → deadline ts js j ≤ k → get_or work j 0 ≡ 0)
      (new : (j : ℕ) → k ≤ release_of js j → get_or work j 0 ≡ work_of js j) where
    feed_holds : (f : ℕ) (w : Whole) → w.state.instant ≡ k → Holds ts js work w.state.pending.bits w.state.next w.places →
        Sound w.state.pending.bits w.places w.state.soon → Split js k (k + 1) w.state.next → f + w.state.next ≡ length js → Fed k w (feed ts js f w)
    unfolding feed
    feed_holds zero w at h ok sp e = record {
      holds = h;
      soon = ok;
      split = record { bound = sp.bound; early = sp.early; later = λ j a b. absurd (omega arith) };
      backlog = refl;
      instant = refl;
      end = refl;
    }
    feed_holds (suc f) w at h ok sp e = go (feed_holds f next at) (eqb (release_of js m) w.state.instant) refl
      where
        m : ℕ
        m = w.state.next

        next : Whole
        next = next_of ts (job_at js m) w

        l : m < length js
        l = omega arith

        go : (Holds ts js work next.state.pending.bits (m + 1) next.places → Sound next.state.pending.bits next.places next.state.soon →
            Split js k (k + 1) (m + 1) → f + (m + 1) ≡ length js → Fed k next (feed ts js f next)) →
            (t : Bool) → eqb (release_of js m) w.state.instant ≡ t → Fed k w (cond t (feed ts js f next) w)
        go more true q =
            let r : release_of js m ≡ k = eqb-true (release_of js m) w.state.instant q ∙ at in
            let free = free_at_lem w.state.pending.bits m w.places k m h (omega arith) l r ontime in
            let y = more (put_holds w.state.pending.bits m w.places h l (new m (omega arith)) free)
            (put_sound w.state.pending.bits m w.places h l (new m (omega arith)) free w.state.soon ok)
            (record {
              bound = omega (arith, l);
              early = λ j a. elim (ℕ_discrete j m) [ yes g ↦ omega (arith, ap (release_of js) g) | no g ↦ sp.early j (omega arith) ];
              later = λ j a b. sp.later j (omega arith) b;
            }) (omega arith) in
            record { holds = y.holds; soon = y.soon; split = y.split; backlog = y.backlog; instant = y.instant; end = y.end }
        go more false q =
            let u : release_of js m ≢ k = λ g. eqb-false (release_of js m) w.state.instant q (g ∙ sym at) in
            record {
              holds = h;
              soon = ok;
              split = record {
                bound = sp.bound;
                early = sp.early;
                later = λ j a b. omega (arith, sp.later m (omega arith) l, legal.rises m j a b);
              };
              backlog = refl;
              instant = refl;
              end = refl;
            }

    pub release_holds : (w : Whole) → w.state.instant ≡ k → Holds ts js work w.state.pending.bits w.state.next w.places →
        Sound w.state.pending.bits w.places w.state.soon → Split js k k w.state.next → Fed k w (release_at ts js w)
    unfolding release_at
    release_holds w at h ok sp =
        feed_holds (length js - w.state.next) w at h ok
        (record { bound = sp.bound; early = λ j l. omega (arith, sp.early j l); later = sp.later })
        (omega (arith, sp.bound))

  -- ---- one tick of work

  -- the job of task i
  module _ (pending next : ℕ) (places : List Place) (i : ℕ) (size : length work ≡ length js) (bound : next ≤ length js) (l : i < most_tasks)
      (h : Holds ts js work pending next places) (m : mem pending i ≡ true) where
    z : PlaceOf ts js work next places i
    z = h.place i l m

    -- its index, and the work left of it after the tick
    abbrev c : ℕ
    c = held_at places i

    abbrev v : ℕ
    v = left_at places i - 1

    -- it gets the tick, and no other job does
    at_c : get_or (served places i work) c 0 ≡ v
    at_c = get_or-set_same work c (get_or work c 0 - 1) 0 (omega (arith, z.known)) ∙ omega (arith, z.left)

    off_c : (j : ℕ) → j ≢ c → get_or (served places i work) j 0 ≡ get_or work j 0
    off_c j u = get_or-set_other work c j (get_or work c 0 - 1) 0 u

    -- the place of another task
    still : (x : ℕ) → x < most_tasks → x ≢ i → mem pending x ≡ true → PlaceOf ts js (served places i work) next (served_at (Some i) places) x
    still x a u q =
        let y = h.place x a q in
        let e = served_other places i x u in
        let w : held_at places x ≢ c = λ g. u (sym y.same ∙ ap (task_of js) g ∙ z.same) in
        record {
          known = omega (arith, e.2, y.known);
          same = ap (task_of js) e.2 ∙ y.same;
          due = e.1 ∙ y.due ∙ sym (ap (deadline ts js) e.2);
          left = e.0 ∙ y.left ∙ sym (off_c (held_at places x) w) ∙ sym (ap (λ (j : ℕ). get_or (served places i work) j 0) e.2);
          some = omega (arith, e.0, y.some);
        }

    -- the place of its own task, where work is left
    going : 0 < v → PlaceOf ts js (served places i work) next (served_at (Some i) places) i
    going p =
        let e = served_own places i h.size l in
        record {
          known = omega (arith, e.2, z.known);
          same = ap (task_of js) e.2 ∙ z.same;
          due = e.1 ∙ z.due ∙ sym (ap (deadline ts js) e.2);
          left = e.0 ∙ sym at_c ∙ sym (ap (λ (j : ℕ). get_or (served places i work) j 0) e.2);
          some = omega (arith, e.0);
        }

    -- what a task shows of its job stays
    shows : (x : ℕ) → held_at (served_at (Some i) places) x ≡ held_at places x
    shows x = elim (ℕ_discrete x i) [ yes g ↦ rw g (served_own places i h.size l).2 | no g ↦ (served_other places i x g).2 ]

    -- another job keeps its place
    kept : (j : ℕ) → j < next → j ≢ c → 0 < get_or (served places i work) j 0 →
        (task_of js j ≢ i) × (mem pending (task_of js j) ≡ true) × (held_at (served_at (Some i) places) (task_of js j) ≡ j)
    kept j a u q =
        let y = h.held j a (omega (arith, off_c j u)) in
        ((λ g. u (sym y.1 ∙ ap (held_at places) g)), y.0, shows (task_of js j) ∙ y.1)

    -- it ended with the tick
    work_last : left_at places i ≡ 1 → Holds ts js (served places i work) (removed pending i) next (served_at (Some i) places)
    work_last e = record {
      size = served_length places i ∙ h.size;
      place = λ x a q. elim (ℕ_discrete i x) [
        | yes g ↦ absurd (false≢true (sym (removed_same pending i) ∙ ap (mem (removed pending i)) g ∙ q))
        | no g ↦ still x a (λ y. g (sym y)) (sym (removed_other pending i x g) ∙ q)
      ];
      held = λ j a q. elim (ℕ_discrete j c) [
        | yes g ↦ absurd (omega (arith, ap (λ (x : ℕ). get_or (served places i work) x 0) g, at_c))
        | no g ↦ let y = kept j a g q in (removed_other pending i (task_of js j) (λ w. y.0 (sym w)) ∙ y.1, y.2)
      ];
    }

    -- it has work left
    work_more : left_at places i ≢ 1 → Holds ts js (served places i work) pending next (served_at (Some i) places)
    work_more u = record {
      size = served_length places i ∙ h.size;
      place = λ x a q. elim (ℕ_discrete i x) [ yes g ↦ rw (← g) (going (omega (arith, z.some))) | no g ↦ still x a (λ y. g (sym y)) q ];
      held = λ j a q. elim (ℕ_discrete j c) [
        | yes g ↦ (
          ap (λ (x : ℕ). mem pending (task_of js x)) g ∙ ap (mem pending) z.same ∙ m,
          ap (λ (x : ℕ). held_at (served_at (Some i) places) (task_of js x)) g ∙ ap (held_at (served_at (Some i) places)) z.same ∙ shows i ∙ sym g,
        )
        | no g ↦ let y = kept j a g q in (y.1, y.2)
      ];
    }

    work_holds : Holds ts js (served places i work) (pending_of (Some i) (ended_at (Some i) places) pending) next (served_at (Some i) places)
    work_holds = elim (ℕ_discrete (left_at places i) 1) [
      | yes e ↦ rw (ended_last places i e) (work_last e)
      | no u ↦ rw (ended_more places i u) (work_more u)
    ]

    -- it ends where no work is left
    work_ends : Ends work (served places i work) (length js) (ended_at (Some i) places)
    work_ends = elim (ℕ_discrete (left_at places i) 1) [
      | yes e ↦ rw (ended_last places i e) (record {
        other = λ j a u q. omega (arith, off_c j (λ g. u (ap Some (sym g))));
        this = λ j g. rw (← some_same g) (omega (arith, z.known), omega (arith, z.left, z.some), omega (arith, at_c));
      })
      | no n ↦ rw (ended_more places i n) (record {
        other = λ j a u q. elim (ℕ_discrete j c) [
          | yes g ↦ omega (arith, ap (λ (x : ℕ). get_or (served places i work) x 0) g, at_c, z.some)
          | no g ↦ omega (arith, off_c j g)
        ];
        this = λ j g. absurd (none_some g);
      })
    ]

    work_sound : (soon : ℕ) → Sound pending places soon → Sound (pending_of (Some i) (ended_at (Some i) places) pending) (served_at (Some i) places) soon
    work_sound soon ok x a q = elim (ℕ_discrete x i) [
      | yes g ↦ omega (arith, (served_own places i h.size l).1, ok i l m, ap (due_at (served_at (Some i) places)) g)
      | no g ↦ omega (arith, (served_other places i x g).1, ok x a (was x g (ended_at (Some i) places) q))
    ]
      where
        was : (x : ℕ) → x ≢ i → (d : Option ℕ) → mem (pending_of (Some i) d pending) x ≡ true → mem pending x ≡ true
        was x u (Some d) e = sym (removed_other pending i x (λ g. u (sym g))) ∙ e
        was x u None e = e

  -- ---- the work of tick k, under any rule of choice

  -- the tick goes to task i, or is not supplied and goes to none
  module _ (σ : ℕ → Bool) (before : ℕ → ℕ → Bool) (k pending next : ℕ) (places : List Place) (i : Option ℕ) (size : length work ≡ length js)
      (h : Holds ts js work pending next places) (bound : next ≤ length js) (is : Chosen before js k work pending places i) where
    -- to whom it goes
    abbrev to : Option ℕ
    to = cond (σ k) i None

    -- what the tick leaves: x is the work left, p the places, d the job that ended, s the pending tasks
    pub record Worked (x : List ℕ) (p : List Place) (d : Option ℕ) (s : ℕ) : Type 0 where
      pub holds : Holds ts js x s next p
      pub ends : Ends work x (length js) d
      pub soon : (soon : ℕ) → Sound pending places soon → Sound s p soon

    -- after a tick that goes to task i
    abbrev Left : List ℕ → Option ℕ → Type 0
    Left x i = Worked x (served_at i places) (ended_at i places) (pending_of i (ended_at i places) pending)

    idle : Left work None
    unfolding served_at ended_at
    idle = record { holds = h; ends = record { other = λ j a u q. q; this = λ j g. absurd (none_some g) }; soon = λ soon ok. ok }

    pub tick_worked : Left (tick σ before js k work) to
    unfolding tick
    tick_worked = go (σ k) i is
      where
        go : (t : Bool) (i : Option ℕ) → Chosen before js k work pending places i → Left (cond t (worked (chosen before js k work) work) work) (cond t i None)
        go false i p = idle
        go true None p = rw p idle
        go true (Some i) p = rw p.2 (record {
          holds = work_holds pending next places i size bound p.0 h p.1;
          ends = work_ends pending next places i size bound p.0 h p.1;
          soon = work_sound pending next places i size bound p.0 h p.1;
        })
