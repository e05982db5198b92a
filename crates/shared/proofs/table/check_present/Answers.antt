use mathlib.Core.Path.{sym, ◌∙◌}
use native.Mathlib.Omega.{arith}
use borrow.Author.Tests.{ltb-true, ltb-false, eq-eqb, ne_eqb}
use lib.ListN.{length}
use Rattle.scope.specs.Shared.{own, absent_owner_fault}
use Rattle.tables.specs.Told.{board_of}
use Rattle.tables.proofs.FaultLaws.{if_true, if_false}
use Rattle.shared.proofs.table.check_present.Goals as goal

pub returns-then-any_own : goal.returns-then-any_own
unfolding absent_owner_fault
returns-then-any_own c =
    let n = length (own (board_of c.args.board) c.args.windows.now) in
    let some = ltb-true 0 n (sym c.any_own.ensures ∙ c.if-any_own.true) in
    if_false _ 1 0 (ne_eqb n 0 (λ z. omega arith))

pub returns : goal.returns
unfolding absent_owner_fault
returns c =
    let n = length (own (board_of c.args.board) c.args.windows.now) in
    let none = ltb-false 0 n (sym c.any_own.ensures ∙ c.if-any_own.false) in
    if_true _ 1 0 (eq-eqb n 0 (omega arith))
