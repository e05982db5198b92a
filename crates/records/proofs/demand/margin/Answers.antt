use mathlib.Core.Path.{◌∙◌}
use Rattle.records.proofs.AlikeLaws.{alike_margin}
use Rattle.records.proofs.demand.margin.Goals as goal

pub returns : goal.returns
returns c = c.margin.ensures ∙ alike_margin _ _ (rw c.numbers.ensures c.new-flat.ensures.alike) _ _ _
