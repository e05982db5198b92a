use mathlib.Core.Path.{ap₂, ◌∙◌}
use borrow.Author.Tests.{eq-eqb}
use Rattle.scope.specs.Shared.{follows}
use Rattle.tables.specs.Told.{board_of}
use Rattle.shared.proofs.SharedLaws.{read_alone, broken, first_owned, next_owned}
use Rattle.shared.proofs.table.owned_legal.Goals as goal

pub returns-then-i-eq0 : goal.returns-then-i-eq0
returns-then-i-eq0 c =
    eq-eqb _ 0 c.if-i-eq0.true ∙ first_owned _ _ _ _ (read_alone c.args.owners (board_of c.args.board) c.new.result c.new.ensures c.owned_at-here.ensures c.is_ok.ensures.value c.if-is_ok.true) c.if-i-eq0.true

pub returns-else-is_ok : goal.returns-else-is_ok
returns-else-is_ok c =
    c.if-is_ok.false ∙ broken _ _ _ _ (read_alone c.args.owners (board_of c.args.board) c.new.result c.new.ensures c.owned_at-here.ensures c.is_ok.ensures.value c.if-is_ok.false)

pub returns-else-i-eq0 : goal.returns-else-i-eq0
returns-else-i-eq0 c =
    c.follows.ensures ∙ ap₂ follows c.owned_at.ensures c.owned_at-here.ensures
    ∙ next_owned _ _ _ _ (read_alone c.args.owners (board_of c.args.board) c.new.result c.new.ensures c.owned_at-here.ensures c.is_ok.ensures.value c.if-is_ok.true) c.if-i-eq0.false
