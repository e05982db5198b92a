-- The demand of a group as the code adds it up
use mathlib.Core.Path.{◌≡◌, refl, sym, ◌∙◌}
use mathlib.Core.Bool.{Bool}
use mathlib.Core.List.{List}
use Prim.Native.Nat.{ℕ, ◌+◌, ◌-◌, ◌*◌, ◌/◌, ◌≤◌}
use native.Mathlib.Omega.{arith}
use native.Mathlib.Decide.{dec_lt}
use native.Mathlib.Nat.{div-le_self, mul-le-mul}
use native.Mathlib.Numerals.{add-one}
use lib.IntN.{ℤ, pos, ◌-ℤ◌}
use lib.ListN.{length}
use Rattle.scope.specs.Limits.{most_tasks, most_of_task, most_length}
use Rattle.scope.specs.Numbers.{sum}
use Rattle.scope.specs.Ticks.{least_supply}
use Rattle.scope.specs.Tasks.{Task, task, tasks_of, task_at, task_demand, demand, margin}
use Rattle.theory.specs.Numbers.{sum_le, sum_same}
use Rattle.theory.specs.Lists.{pieces_length}
use Rattle.theory.specs.Answers.{LegalGroup}
use Rattle.theory.specs.Tasks.{TaskRule, jobs_in, jobs_in_short, jobs_in_long, demand_jobs, demand_sum}
use Rattle.tables.proofs.TaskLaws.{read_rule}

-- ---- one task after the other

-- the demand of the first i tasks
unfoldable pub demand_to : List Task → ℕ → ℕ → ℕ
demand_to ts t i = sum (λ k. task_demand (task_at ts k) t) i

pub demand_to_none : (ts : List Task) (t : ℕ) → demand_to ts t 0 ≡ 0
unfolding demand_to sum
demand_to_none ts t = refl

pub demand_to_next : (ts : List Task) (t i : ℕ) → demand_to ts t (i + 1) ≡ demand_to ts t i + task_demand (task_at ts i) t
unfolding demand_to sum
demand_to_next ts t i = rw (add-one i)

pub demand_to_whole : (ts : List ℕ) (t i : ℕ) → i ≡ length ts / 3 → demand_to (tasks_of ts) t i ≡ demand (tasks_of ts) t
unfolding demand_to
demand_to_whole ts t i e = rw (e ∙ sym (pieces_length _ 3 task ts)) (sym (demand_sum (tasks_of ts) t))

-- ---- how large: jobs come at least a tick apart and are due after at least one

jobs_most : (x : Task) (t : ℕ) → TaskRule x → t ≤ most_length → jobs_in x.T x.D t ≤ most_length
jobs_most x t ok h =
    elim (dec_lt t x.D) [
      | yes l ↦ omega (arith, jobs_in_short x.T x.D t l)
      | no l ↦ omega (arith, jobs_in_long x.T x.D t (omega arith), div-le_self (t - x.D) x.T, ok.due)
    ]

task_most : (x : Task) (t : ℕ) → TaskRule x → t ≤ most_length → task_demand x t ≤ most_length * most_of_task
task_most x t ok h = omega (arith, demand_jobs x t, mul-le-mul (jobs_most x t ok h) ok.work_most)

pub demand_to_most : (ts : List ℕ) (t i : ℕ) → LegalGroup ts → t ≤ most_length →
    i ≤ length ts / 3 → demand_to (tasks_of ts) t i ≤ most_tasks * (most_length * most_of_task)
unfolding demand_to
demand_to_most ts t i ok h l =
    let x : ℕ → Task = task_at (tasks_of ts) in
    omega (
      arith,
      ok.few,
      sum_same (most_length * most_of_task) i,
      sum_le (λ k. task_demand (x k) t) (λ k. most_length * most_of_task) i (λ k j. task_most (x k) t (read_rule ts k (x k) ok (omega arith) refl) h),
    )

pub demand_most : (ts : List ℕ) (t : ℕ) → LegalGroup ts → t ≤ most_length → demand (tasks_of ts) t ≤ most_tasks * (most_length * most_of_task)
demand_most ts t ok h = omega (arith, demand_to_whole ts t (length ts / 3) refl, demand_to_most ts t (length ts / 3) ok h (omega arith))

pub ruleset demanded = (demand_to_none, demand_to_next, demand_to_whole, demand_to_most)

-- ---- the margin, from the supply and the demand that were found

pub margin_found : (σ : ℕ → Bool) (P : ℕ) (ts : List Task) (t n d : ℕ) (z : ℤ) →
    n ≡ least_supply σ P t → d ≡ demand ts t → z ≡ pos n -ℤ pos d → z ≡ margin σ P ts t
unfolding margin
margin_found σ P ts t n d z s w e = rw (← s, ← w) e
