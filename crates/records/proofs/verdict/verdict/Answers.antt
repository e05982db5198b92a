use mathlib.Core.Path.{◌∙◌}
use Rattle.records.proofs.AlikeLaws.{alike_verdict}
use Rattle.records.proofs.verdict.verdict.Goals as goal

pub returns : goal.returns
returns c = c.verdict.ensures ∙ alike_verdict _ _ (rw c.numbers.ensures c.new-flat.ensures.alike) _ _
