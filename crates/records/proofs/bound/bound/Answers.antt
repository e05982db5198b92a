use mathlib.Core.Path.{◌∙◌}
use Rattle.records.proofs.AlikeLaws.{alike_bound}
use Rattle.records.proofs.bound.bound.Goals as goal

pub returns : goal.returns
returns c = c.bound.ensures ∙ alike_bound _ _ (rw c.numbers.ensures c.new-flat.ensures.alike) _ _ _
