use mathlib.Core.Path.{sym}
use native.Mathlib.Omega.{arith}
use Rattle.scope.specs.Limits.{teams}
use Rattle.theory.specs.Answers.{pairs_legal}
use Rattle.theory.specs.Lent.{taken}
use Rattle.tables.specs.Told.{board_of}
use Rattle.shared.specs.Lent.{own_table_answer}
use Rattle.shared.proofs.table.own_table.Goals as goal

pub shared_ref_as_front-result : goal.shared_ref_as_front-result
shared_ref_as_front-result c =
    let t = taken teams (board_of c.args.board) c.args.windows.now _ _ _ (sym c.in_ok-left.ensures.answer) c.in_ok-left.ensures.buffer in
    omega (arith, t.few)

pub invariant_of-result : goal.invariant_of-result
invariant_of-result c = record { legal = pairs_legal _ _ (taken teams (board_of c.args.board) c.args.windows.now _ _ _ (sym c.in_ok-left.ensures.answer) c.in_ok-left.ensures.buffer).fine_front }

pub returns : goal.returns
unfolding own_table_answer
returns c =
    let t = taken teams (board_of c.args.board) c.args.windows.now _ _ _ (sym c.in_ok-left.ensures.answer) c.in_ok-left.ensures.buffer in
    rw (t.shared, ← t.front)
