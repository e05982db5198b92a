-- Document 02, request 2: a trace held against the tick machine, over any pattern σ and any rule of choice; and what the entry answers.
use Rattle.std.specs.Prelude.{ℕ, zero, suc, ◌-◌, min, Bool, cond, ◌&&◌, ◌||◌, List, [], ◌∷◌, ◌++◌, map, leb, ltb, eqb, length, get_or}
use Rattle.std.proofs.Math.Option.{Option, none, some}
use Rattle.scope.specs.Numbers.{keep}
use Rattle.scope.specs.Limits.{most_ticks, most_jobs}
use Rattle.scope.specs.Windows.{Board, supplied_by}
use Rattle.scope.specs.Tasks.{Task, tasks_of}
use Rattle.scope.specs.Jobs.{Job, release_of, task_of, work_of}
use Rattle.scope.specs.Machine.{edf, work_left}
use Rattle.scope.specs.Run as Runs
use Rattle.scope.specs.Run.{Outcome, outcome, ticks_done}
use Rattle.scope.specs.Answers.{Fault, Answer, fault_if, fault_at, ◌or_else◌, unless, table_fault, group_fault}
use Rattle.scope.specs.Plan.{or_nine}
use Rattle.scope.specs.Trace.{trace_of, Record, timed, ticks_of, releases, Completion, completion, completions, bad_record}

-- ---- the machine's completions

-- the last work of job j is done in tick k
unfoldable pub ends : (ℕ → Bool) → (ℕ → ℕ → Bool) → List Job → ℕ → ℕ → Bool
ends σ before js k j = leb 1 (get_or (work_left σ before js k) j 0) && eqb (get_or (work_left σ before js (suc k)) j 0) 0

-- the completions of tick k, at the instant after it
unfoldable pub ended_in : (ℕ → Bool) → (ℕ → ℕ → Bool) → List Job → ℕ → List Completion
ended_in σ before js k = map (λ j. completion (suc k) (task_of js j)) (keep (ends σ before js k) (length js))

-- those of the n ticks from tick k on, in order
unfoldable pub ended_from : (ℕ → Bool) → (ℕ → ℕ → Bool) → List Job → ℕ → ℕ → List Completion
ended_from σ before js k zero = []
ended_from σ before js k (suc n) = ended_in σ before js k ++ ended_from σ before js (suc k) n

-- ---- the machine's own trace: what a board that keeps the rules records of a run

-- the releases of instant k
unfoldable pub released_at : List Job → ℕ → List Record
released_at js k =
    map (λ j. record { instant = k; kind = 0; task = task_of js j; work = work_of js j }) (keep (λ j. eqb (release_of js j) k) (length js))

abbrev pub as_record : Completion → Record
as_record c = record { instant = c.instant; kind = 1; task = c.task; work = 0 }

-- up to instant k, where `done` ticks are done: at each instant the completion of the tick before it, then the releases
unfoldable pub recorded_to : (ℕ → Bool) → (ℕ → ℕ → Bool) → List Job → ℕ → ℕ → List Record
recorded_to σ before js done zero = released_at js 0
recorded_to σ before js done (suc k) =
    recorded_to σ before js done k ++ cond (ltb k done) (map as_record (ended_in σ before js k)) [] ++ released_at js (suc k)

-- a run of n ticks: all its releases, and the completions up to its end or the miss that ends it
abbrev pub recorded : (ℕ → Bool) → (ℕ → ℕ → Bool) → List Task → List Job → ℕ → List Record
recorded σ before ts js n = recorded_to σ before js (ticks_done (outcome σ before ts js n) n) n

-- ---- the comparison

-- a side that has ended is none
pub record Difference : Type 0 where
  pub trace : Option Completion
  pub machine : Option Completion

abbrev differ : Option Completion → Option Completion → Option Difference
differ c m = some (record { trace = c; machine = m })

-- the first completion that differs from the machine's in task or instant, with both
unfoldable pub first_difference : List Completion → List Completion → Option Difference
first_difference [] [] = none
first_difference [] (m ∷ ms) = differ none (some m)
first_difference (c ∷ cs) [] = differ (some c) none
first_difference (c ∷ cs) (m ∷ ms) =
    cond (eqb c.instant m.instant && eqb c.task m.task) (first_difference cs ms) (differ (some c) (some m))

-- the lesser instant of a difference, or that of the one there is
abbrev pub lesser : Option Completion → Option Completion → ℕ
lesser (some c) (some m) = min c.instant m.instant
lesser (some c) none = c.instant
lesser none (some m) = m.instant
lesser none none = 0

pub data Replayed : Type 0 where
  same : Replayed
  differs : (trace machine : Option Completion) → Replayed
  missed : (instant job : ℕ) → Replayed

-- a miss no later than the lesser instant of any difference is named instead of it
abbrev pub named : Outcome → Option Difference → Replayed
named Runs.met none = same
named Runs.met (some d) = differs d.trace d.machine
named (Runs.missed k j) none = missed k j
named (Runs.missed k j) (some d) = cond (leb k (lesser d.trace d.machine)) (missed k j) (differs d.trace d.machine)

-- the machine runs up to the last record's instant, which is n − 1, or to its miss
unfoldable pub replayed : (ℕ → Bool) → (ℕ → ℕ → Bool) → List Task → List Record → Replayed
replayed σ before ts rs =
    let last = ticks_of rs - 1 in
    let o = outcome σ before ts (releases rs) last in
    named o (first_difference (completions rs) (ended_from σ before (releases rs) 0 (ticks_done o last)))

-- ---- the entry

-- 10: too large an n, or over 4,096 releases
unfoldable pub extent_fault : List Record → Fault
extent_fault rs = fault_if (ltb most_ticks (ticks_of rs) || ltb most_jobs (length (releases rs))) 10 0

-- 11: an illegal release, or a record against the order
unfoldable pub record_fault : List Task → List Record → Fault
record_fault ts rs = fault_at 11 (bad_record ts rs)

unfoldable pub replay_fault : Board → List ℕ → List ℕ → List Record → Fault
replay_fault b ws ts rs = table_fault b ws or_else group_fault ts or_else extent_fault rs or_else record_fault (tasks_of ts) rs

-- the records of a trace, under earliest deadline first
unfoldable pub records_answer : Board → List ℕ → List ℕ → List Record → Answer Replayed
records_answer b ws ts rs =
    unless (replay_fault b ws ts rs) (replayed (supplied_by b ws) (edf (tasks_of ts) (releases rs)) (tasks_of ts) rs)

-- a trace file; 9 before all others
unfoldable pub replay_answer : Board → List ℕ → List ℕ → List ℕ → Answer Replayed
replay_answer b ws ts bytes = or_nine (trace_of bytes) (λ rs end. records_answer b ws ts (timed rs))
