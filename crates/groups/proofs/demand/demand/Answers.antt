use mathlib.Core.Path.{◌∙◌}
use Rattle.records.proofs.AlikeLaws.{alike_demand}
use Rattle.groups.proofs.demand.demand.Goals as goal

pub returns : goal.returns
returns c = c.demand.ensures ∙ alike_demand _ _ (rw c.tasks.ensures c.new-gathered.ensures.alike) _
