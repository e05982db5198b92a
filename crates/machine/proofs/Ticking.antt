-- The whole tick: the code's state, the places and the machine's work left keep their relation, under any rule by which the code's choice is the machine's
use mathlib.Core.Path.{◌≡◌, refl, sym, ap, ◌∙◌}
use mathlib.Core.Bool.{Bool, true, false, cond, false≢true}
use mathlib.Core.List.{List}
use Prim.Native.Nat.{ℕ, ◌+◌, ◌<◌}
use native.Mathlib.Omega.{arith}
use native.Mathlib.Numerals.{add-one}
use native.Mathlib.Decide.{ℕ_discrete}
use lib.Dec.{ltb}
use lib.ListN.{length}
use borrow.Author.Tests.{ltb-true, eq-eqb, eqb-true}
use Rattle.std.specs.declared.option.Option.{Option}
use Rattle.scope.specs.Limits.{most_tasks}
use Rattle.scope.specs.Numbers.{bit, sum, greatest}
use Rattle.scope.specs.Tasks.{Task}
use Rattle.scope.specs.Jobs.{Job, task_of}
use Rattle.scope.specs.Machine.{pending, work_left}
use Rattle.scope.specs.Run.{backlog_in, backlog}
use Rattle.theory.specs.Numbers.{sum_eq, sum_swap, sum_zero, sum_at, at, at_other, when_none}
use Rattle.theory.specs.Machine.{work_left_length, work_left_before}
use Rattle.tables.specs.declared.cursor.Cursor.{Cursor}
use Rattle.jobs.specs.Legal.{Tasks, Jobs}
use Rattle.machine.specs.declared.places.Place.{Place}
use Rattle.machine.specs.declared.state.RunState.{RunState}
use Rattle.machine.specs.declared.pending.Pending.{Pending}
use Rattle.machine.specs.Bits.{mem, members}
use Rattle.machine.specs.Places.{all_places, held_at, served_at, ended_at, soonest_of, late_to}
use Rattle.machine.specs.State.{Whole, whole, release_at, goes_to_of, counted_of, pending_of, end_of, worked_of, tested_of, tick_of}
use Rattle.machine.specs.Relation.{Holds, Sound, Split, At, OnTime, Ends}
use Rattle.machine.proofs.Pick.{Follows, pending_held, held_pending, soonest_sound}
use Rattle.machine.proofs.Holding.{Fed, release_holds, Worked, tick_worked}
use Rattle.machine.proofs.Finding.{early_none}

-- nothing is counted at i of what is not both at i and so
no_term : (a i : ℕ) (b : Bool) → (a ≡ i → b ≡ true → ⊥) → at a (bit b) i ≡ 0
no_term a i b h = when_none _ (bit b) (λ e. when_none b 1 (λ q. absurd (h (eqb-true a i e) q)))

module _ (ts : List Task) (js : List Job) (tasks : Tasks ts) (legal : Jobs ts js) where
  -- ---- the backlog: as many jobs are pending as tasks

  module _ (k : ℕ) (work : List ℕ) (pend next : ℕ) (places : List Place) (h : Holds ts js work pend next places) (sp : Split js (k + 1) (k + 1) next) where
    abbrev p : ℕ → Bool
    p = pending js k work

    -- a pending job stands at its task
    at_task : (j : ℕ) → j < length js → p j ≡ true → (mem pend (task_of js j) ≡ true) × (held_at places (task_of js j) ≡ j)
    at_task j l q = let y = pending_held ts js k work pend next sp j l q in h.held j y.0 y.1

    -- so task i has one pending job, or none
    of_task : (i : ℕ) → i < most_tasks → (t : Bool) → mem pend i ≡ t → sum (λ j. at (task_of js j) (bit (p j)) i) (length js) ≡ bit t
    of_task i l false e =
        sum_eq (λ j. at (task_of js j) (bit (p j)) i) (λ j. 0) (length js)
        (λ j a. no_term (task_of js j) i (p j) (λ g q. false≢true (sym e ∙ ap (mem pend) (sym g) ∙ (at_task j a q).0)))
        ∙ sum_zero (length js)
    of_task i l true e =
        let z = h.place i l e in
        let c : ℕ = held_at places i in
        let pc : p c ≡ true = held_pending ts js k work pend next sp c z.known (omega (arith, z.left, z.some)) in
        sum_eq (λ j. at (task_of js j) (bit (p j)) i) (at c 1) (length js)
        (λ j a. elim (ℕ_discrete j c) [
          | yes g ↦
              let u : task_of js j ≡ i = ap (task_of js) g ∙ z.same in
              let v : p j ≡ true = ap p g ∙ pc in
              rw (v, eq-eqb (task_of js j) i u, eq-eqb c j (sym g))
          | no g ↦
              no_term (task_of js j) i (p j) (λ u q. g (sym (at_task j a q).1 ∙ ap (held_at places) u)) ∙ sym (at_other c 1 j g)
        ])
        ∙ sum_at c 1 (length js) (omega (arith, z.known, sp.bound))

    pending_count : sum (λ j. bit (p j)) (length js) ≡ members pend
    pending_count =
        sum_eq (λ j. bit (p j)) (λ j. sum (at (task_of js j) (bit (p j))) most_tasks) (length js)
        (λ j a. sym (sum_at (task_of js j) (bit (p j)) most_tasks (omega (arith, legal.known j a, tasks.few))))
        ∙ sum_swap (λ j i. at (task_of js j) (bit (p j)) i) (length js) most_tasks
        ∙ sum_eq (λ i. sum (λ j. at (task_of js j) (bit (p j)) i) (length js)) (λ i. bit (mem pend i)) most_tasks
        (λ i l. of_task i l (mem pend i) refl)

  -- ---- the miss test

  -- what it keeps, and that the run's end moves to the instant exactly where the code finds a late job
  pub record Tested (p : List Place) (s t : RunState) : Type 0 where
    pub instant : t.instant ≡ s.instant
    pub next : t.next ≡ s.next
    pub pending : t.pending ≡ s.pending
    pub backlog : t.backlog ≡ s.backlog
    pub done : t.done ≡ s.done
    pub soon : Sound s.pending.bits p t.soon
    pub end : t.end ≡ end_of (late_to s.pending.bits p s.instant most_tasks) s.instant s.end

  test_is : (work : List ℕ) (p : List Place) (s : RunState) → Holds ts js work s.pending.bits s.next p → Split js s.instant s.instant s.next →
      Sound s.pending.bits p s.soon → Tested p s (tested_of p s)
  unfolding tested_of
  test_is work p s h sp ok = go (ltb s.instant s.soon) refl
    where
      go : (t : Bool) → ltb s.instant s.soon ≡ t → Tested p s (cond t s (record {
        instant = s.instant;
        end = end_of (late_to s.pending.bits p s.instant most_tasks) s.instant s.end;
        cursor = s.cursor;
        next = s.next;
        pending = s.pending;
        backlog = s.backlog;
        soon = soonest_of s.pending.bits p;
        done = s.done;
      }))
      go true e =
          let q = early_none ts js tasks legal work s.instant s.pending.bits s.next p h sp s.soon ok (ltb-true s.instant s.soon e) in
          record {
            instant = refl;
            next = refl;
            pending = refl;
            backlog = refl;
            done = refl;
            soon = ok;
            end = sym (ap (λ (o : Option ℕ). end_of o s.instant s.end) q);
          }
      go false e = record { instant = refl; next = refl; pending = refl; backlog = refl; done = refl; soon = soonest_sound s.pending.bits p; end = refl }

  -- ---- the whole tick

  module _ (σ : ℕ → Bool) (before : ℕ → ℕ → Bool) (s : RunState) (p : List Place)
      (is : At σ before ts js s.instant s p) (ontime : OnTime σ before ts js s.instant) where
    abbrev k : ℕ
    k = s.instant

    abbrev work : List ℕ
    work = work_left σ before js k

    -- the state when the jobs of tick k are released
    abbrev fed : Whole
    fed = release_at ts js (whole s p)

    released : Fed ts js tasks legal work k (whole s p) fed
    released = release_holds ts js tasks legal work k ontime (λ j l. work_left_before σ before js k j l) (whole s p) is.now is.holds is.soon is.split

    pub fed_holds : (length fed.places ≡ all_places) × (fed.state.instant ≡ s.instant)
    fed_holds = (released.holds.size, released.instant)

    module _ (onward : Cursor → Cursor) (choice : Follows before ts js) where
      -- the task that the tick goes to
      abbrev i : Option ℕ
      i = goes_to_of (σ s.instant) fed.state.pending.bits fed.places

      did : Worked ts js tasks legal work σ before k fed.state.pending.bits fed.state.next fed.places _ (work_left_length σ before js k) released.holds
          released.split.bound (choice k work fed.state.pending.bits fed.state.next fed.places released.split released.holds)
          (work_left σ before js (k + 1)) (served_at i fed.places) (ended_at i fed.places) (pending_of i (ended_at i fed.places) fed.state.pending.bits)
      unfolding goes_to_of work_left
      did = rw (add-one k) (tick_worked ts js tasks legal work σ before k
          fed.state.pending.bits fed.state.next fed.places _ (work_left_length σ before js k)
          released.holds released.split.bound (choice k work fed.state.pending.bits fed.state.next fed.places released.split released.holds))

      -- the state when the tick is done, before the miss test
      abbrev worked : RunState
      worked = worked_of i (ended_at i fed.places) (onward s.cursor) (counted_of fed.state)

      at_next : worked.instant ≡ k + 1
      at_next = omega (arith, released.instant, is.now)

      counted : worked.backlog ≡ backlog σ before js (k + 1)
      unfolding backlog greatest backlog_in
      counted = rw (add-one k) (omega (
        arith,
        released.backlog,
        is.backlog,
        pending_count k work fed.state.pending.bits fed.state.next fed.places released.holds released.split,
      ))

      tested : Tested (served_at i fed.places) worked (tested_of (served_at i fed.places) worked)
      tested = test_is (work_left σ before js (k + 1)) (served_at i fed.places) worked
          did.holds (rw at_next released.split) (did.soon fed.state.soon released.soon)

      -- the state and the places after the whole tick
      abbrev after : Whole
      after = tick_of σ onward ts js (whole s p)

      pub tick_at : At σ before ts js (k + 1) after.state after.places
      unfolding tick_of
      tick_at = record {
        now = tested.instant ∙ at_next;
        holds = rw (ap (λ (x : Pending). x.bits) tested.pending, tested.next) did.holds;
        soon = rw (ap (λ (x : Pending). x.bits) tested.pending) tested.soon;
        split = rw tested.next released.split;
        backlog = tested.backlog ∙ counted;
      }

      -- the job that the code says has ended is the one that has
      pub tick_ends : Ends work (work_left σ before js (k + 1)) (length js) after.state.done
      unfolding tick_of
      tick_ends = rw tested.done did.ends

      -- the run ends where a job is late
      pub tick_end : after.state.end ≡ end_of (late_to after.state.pending.bits after.places (k + 1) most_tasks) (k + 1) s.end
      unfolding tick_of
      tick_end = rw (ap (λ (x : Pending). x.bits) tested.pending) (tested.end ∙ rw (at_next, released.end))
