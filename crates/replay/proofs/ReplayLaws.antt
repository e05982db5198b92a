-- The parts of a replay's answer put together
use Rattle.std.proofs.Common.{◌≡◌, ℕ, zero, suc, ◌-◌, ◌*◌, ◌<◌, ◌≤◌, min, Bool, true, ◌||◌, ltb, List, length, take, get_or, sym, refl, ap, ◌∙◌, arith, ltb-false, le-ltb, lt-ltb, le-leb}
use mathlib.Core.Option.{Option, none, some}
use native.Mathlib.Decide.{dec_lt}
use borrow.Author.Tests.{lt-leb}
use Rattle.scope.specs.Limits.{teams, most_ticks, most_jobs}
use Rattle.scope.specs.Windows.{Board, supplied_by}
use Rattle.scope.specs.Tasks.{Task, tasks_of}
use Rattle.scope.specs.Jobs.{Job, jobs_of, bad_job}
use Rattle.scope.specs.Numbers.{first, listed, written}
use Rattle.scope.specs.Machine.{edf, work_left}
use Rattle.scope.specs.Run as Runs
use Rattle.scope.specs.Run.{Outcome, late, then_at, judged, outcome, ticks_done, count, ran, counts}
use Rattle.scope.specs.Answers.{Fault, Fault.fine, Fault.fault, Answer.given, Answer.refused, fault_if, ◌or_else◌, unless, group_fault}
use Rattle.scope.specs.Answers.{job_fault, room_fault, run_fault, run_answer, run_out}
use Rattle.scope.specs.Plan.{Read, Read.read, Read.bad, or_nine}
use Rattle.scope.specs.Trace.{Stamped, trace_of, Record, timed, ticks_of, releases, completions, bad_record}
use Rattle.scope.specs.Replay.{ended_from, Difference, first_difference, named, replayed, extent_fault, record_fault, replay_fault}
use Rattle.scope.specs.Replay.{records_answer}
use Rattle.scope.specs.Shared.{own, shared_fault, kept, run_for, run_out_for, records_for, replay_for}
use Rattle.theory.specs.Numbers.{or_neither}
use Rattle.theory.specs.Answers.{fault_not_fine, fault_if_fine, fault_at_fine, or_else_fine}
use Rattle.theory.specs.Jobs.{job_rules}
use Rattle.theory.specs.Run.{listed_length, listed_at, done_within, done_before}
use Rattle.theory.specs.Buffers.{written_at}
use Rattle.theory.specs.Replays.{records_given, jobs_legal}
use Rattle.theory.specs.Shared.{own_fine, asked_fine, asked_unless}
use Rattle.tables.proofs.FaultLaws.{or_assoc}
use Rattle.replay.specs.Surveyed.{Surveyed.extends, Surveyed.damaged, surveyed}
use Rattle.replay.specs.Fitting.{fits}
use Rattle.replay.specs.Rebuilt.{timed_in, records_of, Fits, numbers_of}
use Rattle.replay.specs.Compared.{endings_from, compared_from, up_to}
use Rattle.replay.proofs.RecordsLaws.{fits_is}
use Rattle.replay.proofs.OrderLaws.{jobs_back, list_fine}
use Rattle.replay.proofs.EndedLaws.{endings_are}

-- ---- the miss up to the last instant, and the ticks done by then

module _ (σ : ℕ → Bool) (before : ℕ → ℕ → Bool) (ts : List Task) (js : List Job) where
  abbrev ran_to : ℕ → Outcome
  ran_to n = outcome σ before ts js n

  up_to_lem : (n : ℕ) → up_to (n - 1) (ran_to n) ≡ ran_to (n - 1)
  unfolding outcome
  up_to_lem zero = refl
  up_to_lem (suc n) =
      let z : suc n - 1 ≡ n = omega arith in
      rw z (go (ran_to n) (first (late ts js (suc n) (work_left σ before js (suc n))) (length js)) (done_within σ before js ts n))
    where
      late_now : (o : Option ℕ) → up_to n (judged (suc n) o) ≡ Runs.met
      late_now none = refl
      late_now (some j) = rw (lt-leb (suc n) n (omega arith))

      go : (o : Outcome) (f : Option ℕ) → ticks_done o n ≤ n → up_to n (then_at o (judged (suc n) f)) ≡ o
      go Runs.met f h = late_now f
      go (Runs.missed k j) f h = rw (le-leb k n h)

-- ---- a legal trace

-- of a legal table and group, with the job list in numbers
pub record Rebuilt (b : Board) (ws ts bytes : List ℕ) (n : ℕ) (jobs : List ℕ) : Type 0 where
  pub fits : Fits bytes
  pub table : shared_fault teams b ws ≡ fine
  pub group : group_fault ts ≡ fine
  pub ticks : n ≡ ticks_of (records_of bytes)
  pub numbers : jobs ≡ numbers_of (releases (records_of bytes))

pub rebuilt_is : (b : Board) (ws ts bytes : List ℕ) (n count : ℕ) (room : List ℕ) → fits bytes ≡ true →
    (shared_fault teams b ws ≡ fine) × (group_fault ts ≡ fine) × (n ≡ ticks_of (records_of bytes)) × (count ≡ length (releases (records_of bytes))) →
    take (3 * length (releases (records_of bytes))) room ≡ numbers_of (releases (records_of bytes)) → Rebuilt b ws ts bytes n (take (3 * count) room)
rebuilt_is b ws ts bytes n count room f r e = record { fits = fits_is bytes f; table = r.0; group = r.1; ticks = r.2; numbers = rw r.3 e }

module _ (b : Board) (ws ts bytes : List ℕ) (n : ℕ) (jobs : List ℕ) (built : Rebuilt b ws ts bytes n jobs)
    (legal : fine ≡ record_fault (tasks_of ts) (records_of bytes)) where
  abbrev rs : List Record
  rs = records_of bytes

  abbrev js : List Job
  js = releases rs

  -- the asked owner's windows
  abbrev mine : List ℕ
  mine = own b ws

  abbrev σ : ℕ → Bool
  σ = supplied_by b mine

  abbrev before : ℕ → ℕ → Bool
  before = edf (tasks_of ts) js

  abbrev last : ℕ
  last = n - 1

  no_bad_record : bad_record (tasks_of ts) rs ≡ none
  unfolding record_fault
  no_bad_record = fault_at_fine 11 (bad_record (tasks_of ts) rs) (sym legal)

  no_bad_job : bad_job (tasks_of ts) n js ≡ none
  no_bad_job = rw built.ticks (jobs_legal (tasks_of ts) rs no_bad_record)

  jobs_are : jobs_of jobs ≡ js
  jobs_are = ap jobs_of built.numbers ∙ jobs_back js

  run_fine : (room : ℕ) → most_jobs ≡ room → run_fault b mine ts n jobs room ≡ fine
  unfolding run_fault room_fault job_fault
  run_fine room h =
      rw (
        own_fine teams b ws built.table,
        built.group,
        list_fine bytes ts jobs n built.fits built.group built.ticks built.numbers,
        jobs_are,
        no_bad_job,
        le-ltb room (length js) (omega (arith, built.fits.few, h)),
      )

  pub room_enough : (room : ℕ) → most_jobs ≡ room → length (jobs_of jobs) ≤ room
  room_enough room h = rw jobs_are (omega (arith, built.fits.few, h))

  -- the run's answer
  ran_is : (room : ℕ) → most_jobs ≡ room → run_for b ws ts n jobs room ≡ given (ran σ before (tasks_of ts) js n)
  unfolding run_for run_answer
  ran_is room h = asked_fine teams b ws refused (λ l. run_answer b l ts n jobs room) built.table ∙ rw (run_fine room h, jobs_are)

  -- and its counts
  counts_are : (out left : List ℕ) → most_jobs ≡ length out → left ≡ run_out_for b ws ts n jobs out → (j : ℕ) → j < length js →
      get_or left j 0 ≡ count σ before js (ticks_done (outcome σ before (tasks_of ts) js n) n) j
  unfolding run_out_for run_out counts
  counts_are out left h e j k =
      let f = count σ before js (ticks_done (outcome σ before (tasks_of ts) js n) n) in
      let z : left ≡ written (listed f (length js)) out =
      e ∙ asked_fine teams b ws (kept out) (λ l. run_out b l ts n jobs out) built.table ∙ rw (run_fine (length out) h, jobs_are) in
      ap (λ (w : List ℕ). get_or w j 0) z
      ∙ written_at (listed f (length js)) out j (omega (arith, listed_length f (length js)))
      ∙ listed_at f (length js) j k

  compared_is : (out left : List ℕ) → most_jobs ≡ length out → left ≡ run_out_for b ws ts n jobs out →
      compared_from bytes (jobs_of jobs) left last
      ≡ first_difference (completions rs) (ended_from σ before js 0 (ticks_done (outcome σ before (tasks_of ts) js last) last))
  unfolding compared_from
  compared_is out left h e =
      let done : ℕ = ticks_done (outcome σ before (tasks_of ts) js n) n in
      let y : min last done - 0 ≡ ticks_done (outcome σ before (tasks_of ts) js last) last =
      omega (arith, done_before σ before js (tasks_of ts) last n (omega arith)) in
      ap (first_difference (completions rs))
      (ap (λ (x : List Job). endings_from x left last last 0) jobs_are
      ∙ endings_are σ before js done left (counts_are out left h e) (λ j k. (job_rules (tasks_of ts) n js no_bad_job j k).some) last last 0 (omega arith)
      ∙ ap (ended_from σ before js 0) y)

  -- it is not refused
  pub ran_by : (m p room : ℕ) → most_jobs ≡ room → refused m p ≡ run_for b ws ts n jobs room → ⊥
  ran_by m p room h e = let q : refused m p ≡ given (ran σ before (tasks_of ts) js n) = e ∙ ran_is room h in let z : ◌≡◌ {A = ℕ} 0 1 = cc in absurd (omega arith)

  -- so what is named is the replay's answer
  pub legal_answer : (out left : List ℕ) (r : Runs.Ran) (d : Option Difference) (k : ℕ) → most_jobs ≡ length out →
      given r ≡ run_for b ws ts n jobs (length out) → left ≡ run_out_for b ws ts n jobs out → k ≡ last →
      d ≡ compared_from bytes (jobs_of jobs) left k → given (named (up_to k r.outcome) d) ≡ records_for b ws ts rs
  unfolding records_for replayed ran
  legal_answer out left r d k h e f g q =
      let ended = ended_from σ before js 0 (ticks_done (outcome σ before (tasks_of ts) js last) last) in
      let z : d ≡ first_difference (completions rs) ended = q ∙ ap (compared_from bytes (jobs_of jobs) left) g ∙ compared_is out left h f in
      let y : given r ≡ given (ran σ before (tasks_of ts) js n) = e ∙ ran_is (length out) h in
      let x : r ≡ ran σ before (tasks_of ts) js n = cc in
      rw (x, g, z, up_to_lem σ before (tasks_of ts) js n, built.ticks)
      (sym (asked_fine teams b ws refused (λ w. records_answer b w ts rs) built.table
      ∙ records_given b mine ts rs (own_fine teams b ws built.table) built.group built.fits.ticks built.fits.few no_bad_record))

-- ---- refusals

module _ (b : Board) (ws ts bytes : List ℕ) where
  extent_fine : Fits bytes → extent_fault (records_of bytes) ≡ fine
  unfolding extent_fault
  extent_fine f = rw (le-ltb most_ticks (ticks_of (records_of bytes)) f.ticks, le-ltb most_jobs (length (releases (records_of bytes))) f.few)

  -- the list's fault takes the place of the table's
  records_for_lem : (rs : List Record) → records_for b ws ts rs
      ≡ unless (shared_fault teams b ws or_else group_fault ts or_else extent_fault rs or_else record_fault (tasks_of ts) rs)
      (replayed (supplied_by b (own b ws)) (edf (tasks_of ts) (releases rs)) (tasks_of ts) rs)
  unfolding records_for records_answer replay_fault
  records_for_lem rs =
      asked_unless teams b ws (group_fault ts or_else extent_fault rs or_else record_fault (tasks_of ts) rs)
      (λ l. replayed (supplied_by b l) (edf (tasks_of ts) (releases rs)) (tasks_of ts) rs)

  -- 11
  pub records_refused : (n m p : ℕ) (jobs : List ℕ) → Rebuilt b ws ts bytes n jobs → fault m p ≡ record_fault (tasks_of ts) (records_of bytes) →
      refused m p ≡ records_for b ws ts (records_of bytes)
  records_refused n m p jobs r e = sym (records_for_lem (records_of bytes) ∙ rw (r.table, r.group, extent_fine r.fits, ← e))

  -- 9
  pub damaged_refused : (o : ℕ) → damaged o ≡ surveyed (trace_of bytes) → refused 9 o ≡ replay_for b ws ts bytes
  unfolding replay_for
  damaged_refused o e = go (trace_of bytes) e
    where
      go : (y : Read (List Stamped)) → damaged o ≡ surveyed y → refused 9 o ≡ or_nine y (λ rs end. records_for b ws ts (timed rs))
      go (bad p) q = let z : o ≡ p = cc in ap (refused 9) z
      go (read rs end) q = let z : ◌≡◌ {A = ℕ} 0 1 = cc in absurd (omega arith)

  -- a trace that reads
  pub record Extends (ticks count : ℕ) : Type 0 where
    pub stamped : List Stamped
    pub end : ℕ
    pub reads : trace_of bytes ≡ read stamped end
    pub timed_is : timed stamped ≡ records_of bytes
    pub ticks_are : ticks ≡ min (ticks_of (records_of bytes)) (suc most_ticks)
    pub count_is : count ≡ length (releases (records_of bytes))
    pub answer : replay_for b ws ts bytes ≡ records_for b ws ts (records_of bytes)

  pub extends_is : (ticks count : ℕ) → extends ticks count ≡ surveyed (trace_of bytes) → Extends ticks count
  unfolding replay_for records_of
  extends_is ticks count e = go (trace_of bytes) refl e
    where
      go : (y : Read (List Stamped)) → trace_of bytes ≡ y → extends ticks count ≡ surveyed y → Extends ticks count
      go (bad p) q f = let z : ◌≡◌ {A = ℕ} 0 1 = cc in absurd (omega arith)
      go (read rs end) q f =
          let r : records_of bytes ≡ timed rs = ap timed_in q in
          let z : ticks ≡ min (ticks_of (timed rs)) (suc most_ticks) = cc in
          let y : count ≡ length (releases (timed rs)) = cc in
          record {
            stamped = rs;
            end = end;
            reads = q;
            timed_is = sym r;
            ticks_are = z ∙ ap (λ (l : List Record). min (ticks_of l) (suc most_ticks)) (sym r);
            count_is = y ∙ ap (λ (l : List Record). length (releases l)) (sym r);
            answer = rw q;
          }

  module _ (ticks count : ℕ) (x : Extends ticks count) where
    -- 10, as the code checks it
    extent_is : fault_if (ltb most_ticks ticks || ltb most_jobs count) 10 0 ≡ extent_fault (records_of bytes)
    unfolding extent_fault
    extent_is =
        let t : ltb most_ticks ticks ≡ ltb most_ticks (ticks_of (records_of bytes)) =
        elim (dec_lt most_ticks (ticks_of (records_of bytes))) [
          | yes h ↦ rw (lt-ltb most_ticks (ticks_of (records_of bytes)) h) (lt-ltb most_ticks ticks (omega (arith, x.ticks_are)))
          | no h ↦ rw (le-ltb most_ticks (ticks_of (records_of bytes)) (omega arith)) (le-ltb most_ticks ticks (omega (arith, x.ticks_are)))
        ] in
        rw (t, x.count_is)

    abbrev checked : Fault
    checked = (shared_fault teams b ws or_else group_fault ts) or_else fault_if (ltb most_ticks ticks || ltb most_jobs count) 10 0

    pub extent_refused : (m p : ℕ) → fault m p ≡ checked → refused m p ≡ replay_for b ws ts bytes
    extent_refused m p e =
        let z : fault m p ≡ (shared_fault teams b ws or_else group_fault ts or_else extent_fault (records_of bytes)) =
        e ∙ or_assoc (shared_fault teams b ws) (group_fault ts) _ ∙ rw extent_is in
        go (shared_fault teams b ws) (group_fault ts) (extent_fault (records_of bytes)) z ∙ sym (x.answer ∙ records_for_lem (records_of bytes))
      where
        go : (f g h : Fault) → fault m p ≡ (f or_else g or_else h) →
            refused m p ≡ unless (f or_else g or_else h or_else record_fault (tasks_of ts) (records_of bytes))
            (replayed (supplied_by b (own b ws)) (edf (tasks_of ts) (releases (records_of bytes))) (tasks_of ts) (records_of bytes))
        go fine fine fine q = absurd (fault_not_fine q)
        go fine fine (fault u v) q = cc
        go fine (fault u v) h q = cc
        go (fault u v) g h q = cc

    pub fitting : fine ≡ checked → (fits bytes ≡ true) × (shared_fault teams b ws ≡ fine) × (group_fault ts ≡ fine) × (ticks ≡ ticks_of (records_of bytes))
        × (count ≡ length (releases (records_of bytes)))
    unfolding fits
    fitting e =
        let p = or_else_fine (shared_fault teams b ws or_else group_fault ts) _ (sym e) in
        let q = or_else_fine (shared_fault teams b ws) (group_fault ts) p.0 in
        let n = or_neither (ltb most_ticks ticks) (ltb most_jobs count) (fault_if_fine _ 10 0 p.1) in
        let t = ltb-false most_ticks ticks n.0 in
        let c = ltb-false most_jobs count n.1 in
        let z : ticks ≡ ticks_of (records_of bytes) = omega (arith, t, x.ticks_are) in
        let all : timed x.stamped ≡ records_of bytes = x.timed_is in (
          rw (x.reads, all, le-leb (ticks_of (records_of bytes)) most_ticks (omega arith)) (le-leb (length (releases (records_of bytes))) most_jobs (omega (arith, c, x.count_is))),
          q.0,
          q.1,
          z,
          x.count_is,
        )
