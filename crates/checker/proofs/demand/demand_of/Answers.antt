use mathlib.Core.Path.{◌≡◌, ap, ◌∙◌}
use Prim.Native.Nat.{◌+◌}
use native.Mathlib.Omega.{arith}
use Rattle.scope.specs.Tasks.{Task, tasks_of, task_at, task_demand}
use Rattle.checker.proofs.DemandLaws.{demand_to_next, demand_to_most}
use Rattle.checker.proofs.demand.demand_of.Goals as goal

-- the sum with task i in it is small
pub overflow_add-sum : goal.overflow_add-sum
overflow_add-sum c =
    let a = c.args in
    let g = a.group in
    let i = c.loop-i.i in
    let task : c.demand-sum.result ≡ task_demand (task_at (tasks_of g.tasks.now) i) a.length = c.demand-sum.ensures ∙ ap (λ (x : Task). task_demand x a.length) c.task_at.ensures in
    omega (arith, c.loop-i.invariant, task, demand_to_next (tasks_of g.tasks.now) a.length i, demand_to_most g.tasks.now a.length (i + 1) g.legal c.requires (omega arith))
