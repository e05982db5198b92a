use mathlib.Core.Path.{◌≡◌, ap₂, ◌∙◌}
use Rattle.tables.specs.Told.{task_of}
use Rattle.tables.proofs.TaskLaws.{demand_short, demand_long, work_most}
use native.Mathlib.Omega.{arith}
use Prim.Native.Nat.{ℕ, ◌+◌, ◌-◌, ◌*◌, ◌/◌}
use Rattle.tables.proofs.task.Task.demand.Goals as goal

pub returns-then-length-deadline : goal.returns-then-length-deadline
returns-then-length-deadline c = demand_short (task_of c.args.self) _ c.if-length-deadline.true

-- the jobs, as document 01 counts them, times the work
counted : (c : goal.After-from) → let x = c.args.self in
    (c.from-jobs.result + 1) * c.from.result ≡ ((c.args.length - x.deadline) / x.period + 1) * x.work
counted c = ap₂ (λ (n w : ℕ). (n + 1) * w) (c.from-jobs.ensures ∙ c.whole_periods.ensures) c.from.ensures

pub overflow_mul-result : goal.overflow_mul-result
overflow_mul-result c =
    let a = c.args in
    omega (arith, counted c, work_most (a.length - a.self.deadline) a.self.period a.self.work (omega arith) (omega arith))

pub returns : goal.returns
returns c = counted c ∙ demand_long (task_of c.args.self) _ c.if-length-deadline.false
