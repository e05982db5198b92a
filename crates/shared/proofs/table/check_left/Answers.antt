use mathlib.Core.Path.{sym, ◌∙◌}
use native.Mathlib.Omega.{arith}
use borrow.Author.Tests.{ltb-true, ltb-false}
use lib.ListN.{length}
use Rattle.scope.specs.Shared.{own_left, lost_fault}
use Rattle.tables.specs.Told.{board_of}
use Rattle.shared.proofs.SharedLaws.{none_left, some_left}
use Rattle.shared.proofs.table.check_left.Goals as goal

pub returns-then-any_left : goal.returns-then-any_left
unfolding lost_fault
returns-then-any_left c =
    let a = c.args in
    let left = length (own_left (board_of a.board) a.windows.now) in
    let some = ltb-true 0 left (sym c.any_left.ensures ∙ c.if-any_left.true) in
    c.check_rule.ensures ∙ some_left _ left (λ z. omega arith)

pub returns : goal.returns
unfolding lost_fault
returns c =
    let a = c.args in
    let left = length (own_left (board_of a.board) a.windows.now) in
    let none = ltb-false 0 left (sym c.any_left.ensures ∙ c.if-any_left.false) in
    none_left _ left (omega arith)
