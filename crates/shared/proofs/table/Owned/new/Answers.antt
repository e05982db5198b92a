use mathlib.Core.Bool.{true, false}
use mathlib.Core.Path.{ap, ◌∙◌}
use native.Mathlib.Omega.{arith}
use borrow.Author.Tests.{lt-ltb, le-ltb}
use Rattle.scope.specs.Windows.{framed, Window}
use Rattle.scope.specs.Answers.{Answer.given}
use Rattle.scope.specs.Shared.{owned}
use Rattle.tables.specs.Told.{board_of}
use Rattle.tables.proofs.WindowLaws.{fitting}
use Rattle.shared.proofs.SharedLaws.{owned_alone_lem, unfit_owned}
use Rattle.shared.proofs.table.Owned.new.Goals as goal

pub returns-then-owners-owner : goal.returns-then-owners-owner
returns-then-owners-owner c =
    let f = fitting (framed c.args.board.frame) _ _ c.in_ok-window.ensures in
    owned_alone_lem _ _ _ true false f.0 (le-ltb _ _ c.if-owners-owner.true)

pub returns-in_err-window : goal.returns-in_err-window
returns-in_err-window c =
    let a = c.args in
    let r = unfit_owned a.owners (board_of a.board) a.start a.end a.owner c.in_err-window.ensures in
    grind (arith, r)

pub returns : goal.returns
returns c =
    let f = fitting (framed c.args.board.frame) _ _ c.in_ok-window.ensures in
    let a = c.args in
    ap (λ (w : Window). given (record { window = w; owner = a.owner })) f.1
    ∙ owned_alone_lem a.owners (board_of a.board) (owned a.start a.end a.owner) true true f.0 (lt-ltb _ _ c.if-owners-owner.false)
