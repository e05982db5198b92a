-- Document 01, "Tables and sizes" and "Supply and demand": tasks, their demand, and the margin.
use Rattle.std.specs.Prelude.{ℕ, ◌+◌, ◌-◌, ◌*◌, ◌/◌, Bool, not, cond, ◌&&◌, List, [], ◌∷◌, leb, ltb, ℤ, pos, ◌-ℤ◌, length, get_or}
use Rattle.std.proofs.Math.Option.{Option}
use Rattle.scope.specs.Numbers.{first, pieces}
use Rattle.scope.specs.Limits.{most_of_task}
use Rattle.scope.specs.Ticks.{least_supply}

-- C is the work, T the least distance of releases, D the deadline after release
pub record Task : Type 0 where
  pub C : ℕ
  pub T : ℕ
  pub D : ℕ

abbrev pub task : ℕ → ℕ → ℕ → Task
task c t d = record { C = c; T = t; D = d }

-- the tasks of a list of numbers: C, T, D, C, T, D, ..
abbrev pub tasks_of : List ℕ → List Task
tasks_of = pieces 3 task

abbrev pub task_at : List Task → ℕ → Task
task_at ts i = get_or ts i (task 0 0 0)

-- 1 to 1,000,000
abbrev pub task_number : ℕ → Bool
task_number x = leb 1 x && leb x most_of_task

-- each number is 1 to 1,000,000, and D ≤ T
unfoldable pub task_legal : Task → Bool
task_legal x = task_number x.C && task_number x.T && task_number x.D && leb x.D x.T

-- the lowest index of a task that breaks its rule
unfoldable pub bad_task : List Task → Option ℕ
bad_task ts = first (λ i. not (task_legal (task_at ts i))) (length ts)

-- demand of a task at length t: 0 where t < D, else (floor((t − D)/T) + 1)·C
unfoldable pub task_demand : Task → ℕ → ℕ
task_demand x t = cond (ltb t x.D) 0 (((t - x.D) / x.T + 1) * x.C)

-- demand of a group: the sum
unfoldable pub demand : List Task → ℕ → ℕ
demand [] t = 0
demand (x ∷ ts) t = task_demand x t + demand ts t

-- least supply minus group demand, a signed number
unfoldable pub margin : (ℕ → Bool) → ℕ → List Task → ℕ → ℤ
margin σ P ts t = pos (least_supply σ P t) -ℤ pos (demand ts t)
