use mathlib.Core.Path.{sym, ◌∙◌}
use mathlib.Core.Bool.{true, false}
use Rattle.tables.proofs.TaskLaws.{task_alone_lem}
use Rattle.tables.proofs.task.Task.new.Goals as goal

pub returns-then-legal : goal.returns-then-legal
returns-then-legal c = task_alone_lem _ true (sym c.legal.ensures ∙ c.if-legal.true)

pub returns : goal.returns
returns c = task_alone_lem _ false (sym c.legal.ensures ∙ c.if-legal.false)
