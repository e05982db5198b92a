use mathlib.Core.Bool.{not}
use mathlib.Core.Path.{sym, ap, ◌∙◌}
use Rattle.scope.specs.Answers.{frame_fault}
use Rattle.tables.proofs.FaultLaws.{if_true, if_false, outside}
use Rattle.tables.proofs.board.check_frame.Goals as goal

pub returns-then-not-in_range : goal.returns-then-not-in_range
unfolding frame_fault
returns-then-not-in_range c = if_true _ 2 0 (outside c.args.frame 65536 ∙ ap not (sym c.in_range.ensures ∙ c.if-not-in_range.true))

pub returns : goal.returns
unfolding frame_fault
returns c = if_false _ 2 0 (outside c.args.frame 65536 ∙ ap not (sym c.in_range.ensures ∙ c.if-not-in_range.false))
