-- The run, tick by tick: what it keeps, and what it answers and writes in the end
use mathlib.Core.Path.{◌≡◌, refl, sym, ap, ◌∙◌, subst}
use mathlib.Core.Bool.{Bool, false≢true}
use mathlib.Core.Logic.{◌⊎◌, inl, inr}
use mathlib.Core.Option.{Option, none, some}
use mathlib.Core.List.{List}
use Prim.Native.Nat.{ℕ, suc, ◌+◌, ◌-◌, ◌/◌, ◌≤◌, ◌<◌}
use native.Mathlib.Omega.{arith}
use native.Mathlib.Numerals.{add-one}
use native.Mathlib.Decide.{dec_lt, le_ind}
use lib.ListN.{length, get_or}
use Rattle.std.specs.declared.option.Option as opt
use Rattle.std.specs.declared.option.Option.TheVariants.{Some, None}
use Rattle.scope.specs.Limits.{most_tasks, most_ticks}
use Rattle.scope.specs.Numbers.{greatest, first, listed, written}
use Rattle.scope.specs.Tasks.{Task}
use Rattle.scope.specs.Jobs.{Job, jobs_of, release_of, task_of, deadline}
use Rattle.scope.specs.Machine.{work_left}
use Rattle.scope.specs.Run.{Outcome, Outcome.met, Outcome.missed, late, judged, outcome, backlog, count, Ran, ran, counts}
use Rattle.theory.specs.Numbers.{bool_cases, fits_true, true_fits, first_none, none_first}
use Rattle.theory.specs.Machine.{work_left_before}
use Rattle.tables.specs.declared.cursor.Cursor.{Cursor}
use Rattle.jobs.specs.Legal.{Tasks, Jobs}
use Rattle.machine.specs.declared.places.Place.{Place}
use Rattle.machine.specs.declared.state.RunState.{RunState}
use Rattle.machine.specs.Places.{all_places, late_to}
use Rattle.machine.specs.State.{Whole, whole, begun, end_of, tick_of}
use Rattle.machine.specs.Relation.{At, OnTime, Ends, Kept, zeros, noted, Noting, Ready, Ticked, Begins, MissedAt, Going, Over}
use Rattle.machine.proofs.Sets.{mem_none}
use Rattle.machine.proofs.Pick.{Follows}
use Rattle.machine.proofs.Ticking.{tick_at, tick_ends, tick_end}
use Rattle.machine.proofs.Finding.{none_late, one_late}
use Rattle.machine.proofs.Buffer.{kept_all}
use Rattle.machine.proofs.Counting.{count_first, kept_noted, kept_written}

-- ---- the outcome, instant by instant, under any rule of choice

module _ (σ : ℕ → Bool) (before : ℕ → ℕ → Bool) (ts : List Task) (js : List Job) where
  -- the lowest late job at instant k
  abbrev late_at : ℕ → Option ℕ
  late_at k = first (late ts js k (work_left σ before js k)) (length js)

  outcome_suc : (k : ℕ) (o : Option ℕ) → outcome σ before ts js k ≡ met → late_at (suc k) ≡ o → outcome σ before ts js (suc k) ≡ judged (suc k) o
  unfolding outcome
  outcome_suc k o e q = rw (e, q)

  outcome_next : (k : ℕ) (o : Option ℕ) → outcome σ before ts js k ≡ met → late_at (k + 1) ≡ o → outcome σ before ts js (k + 1) ≡ judged (k + 1) o
  outcome_next k o e q = rw (add-one k) (outcome_suc k o e (rw (add-one k) at q))

  -- a miss stays
  outcome_stays : (m k j n : ℕ) → outcome σ before ts js m ≡ missed k j → m ≤ n → outcome σ before ts js n ≡ missed k j
  unfolding outcome
  outcome_stays m k j n e l = le_ind (λ (x : ℕ). outcome σ before ts js x ≡ missed k j) e (λ x a ih. rw ih) n l

  -- where none is late, a job that is due has no work left
  none_due : (k : ℕ) → late_at k ≡ none → (j : ℕ) → j < length js → deadline ts js j ≤ k → get_or (work_left σ before js k) j 0 ≡ 0
  unfolding late
  none_due k e j l d =
      let work : List ℕ = work_left σ before js k in
      elim (dec_lt 0 (get_or work j 0)) [
        | yes p ↦ absurd (false≢true (sym (first_none (late ts js k work) (length js) e j l) ∙ true_fits (deadline ts js j) k 1 (get_or work j 0) d p))
        | no p ↦ omega arith
      ]

  -- and where none is unfinished at its deadline, none is late
  ontime_none : (k : ℕ) → OnTime σ before ts js k → late_at k ≡ none
  unfolding late
  ontime_none k ok =
      let work : List ℕ = work_left σ before js k in
      none_first (late ts js k work) (length js) (λ j l. elim (bool_cases (late ts js k work j)) [
        | inl e ↦ let p = fits_true (deadline ts js j) k 1 (get_or work j 0) e in absurd (omega (arith, ok j l p.0, p.1))
        | inr e ↦ e
      ])

-- what a run answers
abbrev pub answers : Outcome → ℕ → Ran
answers o n = record { outcome = o; backlog = n }

-- it ends at instant k, with the counts of that instant in the buffer
module _ (σ : ℕ → Bool) (before : ℕ → ℕ → Bool) (ts : List Task) (js : List Job) (b : List ℕ) where
  ended_met : (k : ℕ) → outcome σ before ts js k ≡ met → (β : ℕ) (c : List ℕ) →
      β ≡ backlog σ before js k → c ≡ written (listed (count σ before js k) (length js)) b →
      (answers met β ≡ ran σ before ts js k) × (c ≡ written (counts σ before ts js k) b)
  unfolding ran counts
  ended_met k m β c e w = (rw m (ap (answers met) e), rw m w)

  ended_missed : (n k j : ℕ) → outcome σ before ts js k ≡ missed k j → k ≤ n → (β : ℕ) (c : List ℕ) → β ≡ backlog σ before js k →
      c ≡ written (listed (count σ before js k) (length js)) b →
      (answers (missed k j) β ≡ ran σ before ts js n) × (c ≡ written (counts σ before ts js n) b)
  unfolding ran counts
  ended_missed n k j m l β c e w =
      let q = outcome_stays σ before ts js k k j n m l in
      (rw q (ap (answers (missed k j)) e), rw q w)

module _ (σ : ℕ → Bool) (before : ℕ → ℕ → Bool) (ts : List Task) (js : List Job) (tasks : Tasks ts) (legal : Jobs ts js) where
  -- ---- before the first tick

  at_first : (n : ℕ) (p : List Place) → length p ≡ all_places → At σ before ts js 0 (begun n) p
  unfolding backlog greatest
  at_first n p e = record {
    now = refl;
    holds = record {
      size = e;
      place = λ i l q. absurd (false≢true (sym (mem_none i) ∙ q));
      held = λ j l q. absurd (omega arith);
    };
    soon = λ i l q. absurd (false≢true (sym (mem_none i) ∙ q));
    split = record { bound = omega arith; early = λ j l. absurd (omega arith); later = λ j a l. omega arith };
    backlog = refl;
  }

  -- ---- a tick

  module _ (onward : Cursor → Cursor) (choice : Follows before ts js) (s : RunState) (p : List Place)
      (is : At σ before ts js s.instant s p) (ontime : OnTime σ before ts js s.instant) where
    abbrev k : ℕ
    k = s.instant

    abbrev t : RunState
    t = (tick_of σ onward ts js (whole s p)).state

    abbrev q : List Place
    q = (tick_of σ onward ts js (whole s p)).places

    next : At σ before ts js (k + 1) t q
    next = tick_at ts js tasks legal σ before s p is ontime onward choice

    ends : Ends (work_left σ before js k) (work_left σ before js (k + 1)) (length js) t.done
    ends = tick_ends ts js tasks legal σ before s p is ontime onward choice

    -- the job that ended can be noted: it is released, for a job has all its work up to then
    pub can_note : (l : List ℕ) → length js ≤ length l → (j : ℕ) → t.done ≡ Some j → Noting js (k + 1) j l
    can_note l room j e =
        let p = ends.this j e in
        record {
          room = omega (arith, p.0);
          past = elim (dec_lt (k + 1) (release_of js j)) [
            | yes z ↦ absurd (omega (arith, p.2, work_left_before σ before js (k + 1) j (omega arith), legal.some j p.0))
            | no z ↦ omega arith
          ];
        }

    -- ---- what it leaves of the run, where c is the buffer before it

    module _ (n : ℕ) (d c : List ℕ) (g : Going σ before ts js n d s p c) (more : k < n) (same : s.end ≡ n) (met-so-far : outcome σ before ts js k ≡ met)
        (room : length js ≤ length d) where
      kept_next : Kept (count σ before js (k + 1)) (length js) d (noted js (k + 1) t.done c)
      kept_next = kept_noted σ before js k t.done d c room ends g.kept

      -- the late job that the code finds
      abbrev found : opt.Option ℕ
      found = late_to t.pending.bits q (k + 1) most_tasks

      end_is : t.end ≡ end_of found (k + 1) s.end
      end_is = tick_end ts js tasks legal σ before s p is ontime onward choice

      -- the run after it
      make : ((t.end ≡ n) × (outcome σ before ts js (k + 1) ≡ met) × OnTime σ before ts js (k + 1)) ⊎ MissedAt σ before ts js (k + 1) t.end →
          Going σ before ts js n d t q (noted js t.instant t.done c)
      make x = record { at = rw next.now next; kept = rw next.now kept_next; within = omega (arith, next.now); goes = rw next.now x }

      after_tick : Going σ before ts js n d t q (noted js t.instant t.done c) × (t.end - t.instant < s.end - s.instant)
      after_tick = go found refl
        where
          go : (o : opt.Option ℕ) → found ≡ o → Going σ before ts js n d t q (noted js t.instant t.done c) × (t.end - t.instant < s.end - s.instant)
          go (Some j) l =
              let z = one_late ts js tasks legal (work_left σ before js (k + 1)) (k + 1) t.pending.bits t.next q next.holds next.split j l in
              let e : t.end ≡ k + 1 = end_is ∙ ap (λ (o : opt.Option ℕ). end_of o (k + 1) s.end) l in (
                make (inr (record { job = j; lowest = z; is = outcome_next σ before ts js k (some j) met-so-far z; ended = e })),
                omega (arith, e, next.now),
              )
          go None l =
              let z = none_late ts js tasks legal (work_left σ before js (k + 1)) (k + 1) t.pending.bits t.next q next.holds next.split l in
              let e : t.end ≡ s.end = end_is ∙ ap (λ (o : opt.Option ℕ). end_of o (k + 1) s.end) l in
              (make (inl (e ∙ same, outcome_next σ before ts js k none met-so-far z, none_due σ before ts js (k + 1) z)), omega (arith, e, next.now))

-- what the run of a list of numbers begins with, where b is the buffer that is lent and d the cleared one
pub begins_run : (jobs b d : List ℕ) → length (jobs_of jobs) ≤ length b → Kept zeros (length jobs / 3) b d → Begins (jobs_of jobs) d
begins_run jobs b d roomy cleared =
    let all = kept_all zeros jobs b d cleared in
    record { room = omega (arith, roomy, all.same); clear = all.low }

-- ---- the run of n ticks, where the lent buffer is d when it begins

module _ (σ : ℕ → Bool) (before : ℕ → ℕ → Bool) (ts : List Task) (js : List Job) (tasks : Tasks ts) (legal : Jobs ts js) (n : ℕ) (few : n ≤ most_ticks)
    (d : List ℕ) (p₀ : List Place) (size : length p₀ ≡ all_places) (begins : Begins js d) where
  pub going_first : Going σ before ts js n d (begun n) p₀ d
  unfolding outcome
  going_first = record {
    at = at_first σ before ts js tasks legal n p₀ size;
    kept = record {
      same = refl;
      low = λ j a. begins.clear j a ∙ sym (count_first σ before js j (legal.some j a));
      high = λ j a. refl;
    };
    within = omega arith;
    goes = inl (refl, refl, λ j l e. absurd (omega (arith, (tasks.rules (task_of js j) (legal.known j l)).due)));
  }

  module _ (s : RunState) (p : List Place) (c : List ℕ) (g : Going σ before ts js n d s p c) where
    -- a run that is not at its end has no late job
    module _ (more : s.instant < s.end) where
      still : (s.end ≡ n) × (outcome σ before ts js s.instant ≡ met) × OnTime σ before ts js s.instant
      still = elim g.goes [ inl x ↦ x | inr x ↦ absurd (omega (arith, x.ended)) ]

      pub going_ready : Ready σ before ts js s p c
      going_ready = record {
        at = g.at;
        ontime = still.2;
        few = omega (arith, still.0, few);
        room = omega (arith, g.kept.same, begins.room);
      }

      pub going_next : (onward : Cursor → Cursor) → Follows before ts js →
          (s' : RunState) (p' : List Place) (c' : List ℕ) → Ticked σ onward ts js s p c s' p' c' →
          Going σ before ts js n d s' p' c' × (s'.end - s'.instant < s.end - s.instant)
      going_next onward choice s' p' c' tk =
          let y = after_tick σ before ts js tasks legal onward choice s p
          g.at still.2 n d c g (omega (arith, still.0)) still.0 still.1 begins.room in
          rw tk.counted
          (subst (λ (w : Whole). Going σ before ts js n d w.state w.places (noted js w.state.instant w.state.done c)
          × (w.state.end - w.state.instant < s.end - s.instant)) (sym tk.moved) y)

    -- ---- it is over; b is the buffer that was lent, d the cleared one

    module _ (over : s.end ≤ s.instant) (b : List ℕ) (cleared : Kept zeros (length js) b d) where
      -- the whole buffer, at the state's instant
      buffer : c ≡ written (listed (count σ before js s.instant) (length js)) b
      buffer =
          kept_written (count σ before js s.instant) (length js) b c (omega (arith, cleared.same, begins.room))
          (record { same = g.kept.same ∙ cleared.same; low = g.kept.low; high = λ j a. g.kept.high j a ∙ cleared.high j a })

      -- the late job that the code finds at the end
      abbrev last : opt.Option ℕ
      last = late_to s.pending.bits p s.instant most_tasks

      -- none: the n ticks are done
      run_met : last ≡ None → (answers met s.backlog ≡ ran σ before ts js n) × (c ≡ written (counts σ before ts js n) b)
      run_met l = elim g.goes [
        | inl x ↦
            let e : s.instant ≡ n = omega (arith, x.0, g.within) in
            subst (λ (k : ℕ). (answers met s.backlog ≡ ran σ before ts js k) × (c ≡ written (counts σ before ts js k) b)) e
            (ended_met σ before ts js b s.instant x.1 s.backlog c g.at.backlog buffer)
        | inr x ↦
            let q : none ≡ some x.job =
            sym (none_late ts js tasks legal (work_left σ before js s.instant)
            s.instant s.pending.bits s.next p g.at.holds g.at.split l) ∙ x.lowest in
            let z : ◌≡◌ {A = ℕ} 0 1 = cc in
            absurd (omega arith)
      ]

      run_missed : (j : ℕ) → last ≡ Some j →
          (answers (missed s.instant j) s.backlog ≡ ran σ before ts js n) × (c ≡ written (counts σ before ts js n) b)
      run_missed j l =
          let y = one_late ts js tasks legal (work_left σ before js s.instant)
          s.instant s.pending.bits s.next p g.at.holds g.at.split j l in
          elim g.goes [
            | inl x ↦
                let q : none ≡ some j = sym (ontime_none σ before ts js s.instant x.2) ∙ y in
                let z : ◌≡◌ {A = ℕ} 0 1 = cc in
                absurd (omega arith)
            | inr x ↦
                let q : some x.job ≡ some j = sym x.lowest ∙ y in
                let e : x.job ≡ j = cc in
                ended_missed σ before ts js b n s.instant j (x.is ∙ ap (missed s.instant) e) g.within s.backlog c g.at.backlog buffer
          ]

-- what the code answers and writes: o is the late job that it finds at the end, if there is one
module _ (σ : ℕ → Bool) (before : ℕ → ℕ → Bool) (ts : List Task) (jobs : List ℕ) (n : ℕ) (b d : List ℕ) (p₀ : List Place) where
  -- the outcome o and the greatest backlog β are the run's, and c has its counts
  abbrev pub Ended : List ℕ → Outcome → ℕ → Type 0
  Ended c o β = (answers o β ≡ ran σ before ts (jobs_of jobs) n) × (c ≡ written (counts σ before ts (jobs_of jobs) n) b)

  pub run_ends : Tasks ts → Jobs ts (jobs_of jobs) → n ≤ most_ticks → length (jobs_of jobs) ≤ length b →
      Kept zeros (length jobs / 3) b d → length p₀ ≡ all_places → (s : RunState) (p : List Place) (c : List ℕ) → Over σ before ts (jobs_of jobs) n d s p c →
      (o : opt.Option ℕ) → o ≡ late_to s.pending.bits p s.instant most_tasks →
      (o ≡ None → Ended c met s.backlog) × ((j : ℕ) → o ≡ Some j → Ended c (missed s.instant j) s.backlog)
  run_ends tasks legal few roomy cleared e s p c over o is =
      let begins = begins_run jobs b d roomy cleared in
      let all = kept_all zeros jobs b d cleared in (
        (λ l. run_met σ before ts (jobs_of jobs) tasks legal n few d p₀ e begins s p c over.going over.ended b all (sym is ∙ l)),
        (λ j l. run_missed σ before ts (jobs_of jobs) tasks legal n few d p₀ e begins s p c over.going over.ended b all j (sym is ∙ l)),
      )
