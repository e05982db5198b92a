use mathlib.Core.Path.{sym}
use native.Mathlib.Omega.{arith}
use Rattle.scope.specs.Tasks.{task}
use Rattle.theory.specs.Lists.{three_at, piece_past}
use Rattle.tables.proofs.task.task_at.Goals as goal

pub returns-then-i-tasks : goal.returns-then-i-tasks
returns-then-i-tasks c = let a = c.args in sym (three_at task (task 0 0 0) a.tasks.now a.i (omega arith))

pub returns : goal.returns
returns c = sym (piece_past 3 task (task 0 0 0) _ _ c.if-i-tasks.false)
