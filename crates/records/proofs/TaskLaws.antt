-- How large one task's demand is
use mathlib.Core.Path.{◌≡◌}
use mathlib.Core.Bool.{true}
use Prim.Native.Nat.{ℕ, ◌-◌, ◌^◌, ◌≤◌, ◌<◌}
use native.Mathlib.Omega.{arith}
use native.Mathlib.Decide.{dec_lt}
use native.Mathlib.Nat.{div-le_self, mul-le-mul}
use Rattle.scope.specs.Tasks.{Task, task_legal, task_demand}
use Rattle.theory.specs.Tasks.{task_rule, jobs_in, jobs_in_short, jobs_in_long, demand_jobs}

-- at any length that a u32 holds
pub task_most : (x : Task) (t : ℕ) → task_legal x ≡ true → t < 2 ^ 32 → task_demand x t ≤ 2 ^ 52
task_most x t l h =
    let work : x.C ≤ 2 ^ 20 = omega (arith, (task_rule x l).0.work_most) in
    omega (arith, demand_jobs x t, mul-le-mul (jobs_most x.T x.D) work)
  where
    jobs_most : (T D : ℕ) → jobs_in T D t ≤ 2 ^ 32
    jobs_most T D = elim (dec_lt t D) [
      | yes l ↦ omega (arith, jobs_in_short T D t l)
      | no l ↦ omega (arith, jobs_in_long T D t (omega arith), div-le_self (t - D) T)
    ]
