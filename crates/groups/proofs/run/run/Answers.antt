use mathlib.Core.Path.{◌∙◌}
use Rattle.records.proofs.AlikeLaws.{alike_run, alike_out}
use Rattle.groups.proofs.run.run.Goals as goal

pub returns : goal.returns
returns c = record {
  answer = c.run.ensures.answer ∙ alike_run _ _ (rw c.tasks.ensures c.new-gathered.ensures.alike) _ _ _ _ _;
  buffer = c.run.ensures.buffer ∙ alike_out _ _ (rw c.tasks.ensures c.new-gathered.ensures.alike) _ _ _ _ _;
}
