use mathlib.Core.Path.{◌∙◌}
use Rattle.records.proofs.AlikeLaws.{alike_margin}
use Rattle.groups.proofs.demand.margin.Goals as goal

pub returns : goal.returns
returns c = c.margin.ensures ∙ alike_margin _ _ (rw c.tasks.ensures c.new-gathered.ensures.alike) _ _ _
