use mathlib.Core.Path.{◌∙◌}
use Rattle.tables.proofs.TaskLaws.{made_legal}
use Rattle.tables.proofs.task.is_task.Goals as goal

pub returns : goal.returns
returns c = c.is_ok.ensures.value ∙ made_legal c.new.result _ c.new.ensures
