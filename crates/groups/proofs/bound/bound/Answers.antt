use mathlib.Core.Path.{◌∙◌}
use Rattle.records.proofs.AlikeLaws.{alike_bound}
use Rattle.groups.proofs.bound.bound.Goals as goal

pub returns : goal.returns
returns c = c.bound.ensures ∙ alike_bound _ _ (rw c.tasks.ensures c.new-gathered.ensures.alike) _ _ _
