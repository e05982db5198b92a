use mathlib.Core.Path.{◌∙◌}
use Rattle.records.proofs.AlikeLaws.{alike_verdict}
use Rattle.groups.proofs.verdict.verdict.Goals as goal

pub returns : goal.returns
returns c = c.verdict.ensures ∙ alike_verdict _ _ (rw c.tasks.ensures c.new-gathered.ensures.alike) _ _
