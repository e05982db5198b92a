use mathlib.Core.Path.{◌∙◌}
use Rattle.records.proofs.AlikeLaws.{alike_run, alike_out}
use Rattle.records.proofs.run.run.Goals as goal

pub returns : goal.returns
returns c = record {
  answer = c.run.ensures.answer ∙ alike_run _ _ (rw c.numbers.ensures c.new-flat.ensures.alike) _ _ _ _ _;
  buffer = c.run.ensures.buffer ∙ alike_out _ _ (rw c.numbers.ensures c.new-flat.ensures.alike) _ _ _ _ _;
}
