use native.Mathlib.Omega.{arith}
use Rattle.supply.proofs.PieceLaws.{least_within, told_up, told_flat}
use Rattle.supply.proofs.pieces.piece_from.Goals as goal

pub overflow_add-result-then-ahead-eq0 : goal.overflow_add-result-then-ahead-eq0
overflow_add-result-then-ahead-eq0 c =
    let r = c.ahead_of-ahead.ensures in
    omega (arith, r.most, least_within c.requires.1 r, c.args.table.legal.frame_most)

pub returns-then-ahead-eq0 : goal.returns-then-ahead-eq0
returns-then-ahead-eq0 c = told_up c.requires.1 c.ahead_of-ahead.ensures c.if-ahead-eq0.true

pub returns : goal.returns
returns c = rw c.min-n.ensures (told_flat c.requires.1 c.ahead_of-ahead.ensures (omega arith) (omega arith) (omega arith))
