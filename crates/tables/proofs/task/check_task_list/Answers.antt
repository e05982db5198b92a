use mathlib.Core.Path.{sym, ◌∙◌}
use mathlib.Core.Bool.{true, false}
use Rattle.tables.proofs.TaskLaws.{list_by}
use Rattle.tables.proofs.task.check_task_list.Goals as goal

pub returns-then-bad_count : goal.returns-then-bad_count
returns-then-bad_count c = list_by _ true (sym c.bad_count.ensures ∙ c.if-bad_count.true)

pub returns : goal.returns
returns c = list_by _ false (sym c.bad_count.ensures ∙ c.if-bad_count.false)
