use mathlib.Core.Bool.{not}
use mathlib.Core.Path.{sym, ap, ◌∙◌}
use Rattle.scope.specs.Answers.{shortest_fault}
use Rattle.tables.proofs.FaultLaws.{if_true, if_false, outside}
use Rattle.tables.proofs.board.check_shortest.Goals as goal

pub returns-then-not-in_range : goal.returns-then-not-in_range
unfolding shortest_fault
returns-then-not-in_range c = if_true _ 12 64 (outside c.args.board.shortest 65536 ∙ ap not (sym c.in_range.ensures ∙ c.if-not-in_range.true))

pub returns : goal.returns
unfolding shortest_fault
returns c = if_false _ 12 64 (outside c.args.board.shortest 65536 ∙ ap not (sym c.in_range.ensures ∙ c.if-not-in_range.false))
