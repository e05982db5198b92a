use mathlib.Core.Path.{sym, ◌∙◌}
use Rattle.groups.proofs.RecordLaws.{lent_passed, lent_refused}
use Rattle.groups.proofs.gather.Gathered.lent.Goals as goal

pub returns-then-is_err : goal.returns-then-is_err
returns-then-is_err c = lent_refused _ c.check_task_list.result c.check_task_list.ensures (sym c.is_err.ensures.value ∙ c.if-is_err.true)

pub returns : goal.returns
returns c = lent_passed _ c.check_task_list.result c.check_task_list.ensures (sym c.is_err.ensures.value ∙ c.if-is_err.false)
