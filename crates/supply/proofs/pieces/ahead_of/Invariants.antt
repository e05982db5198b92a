use Prim.Native.Nat.{◌+◌, ◌≤◌, ◌<◌}
use Rattle.scope.specs.Windows.{framed, supplied_by}
use Rattle.theory.specs.Rows.{end_of}
use Rattle.theory.specs.Pieces.{Ahead}
use Rattle.supply.proofs.SupplyLaws.{Passed}
use Rattle.supply.proofs.pieces.ahead_of.Given as goal

abbrev pub invariant-loop-i : goal.invariant-loop-i
invariant-loop-i l =
    let P = l.table.frame in
    let ws = l.table.windows.now in
    Passed (framed P) ws l.table.legal l.t l.i l.earlier l.position × (0 < l.ahead.rise) × (l.t + l.ahead.rise ≤ P)
    × Ahead (supplied_by (framed P) ws) P (end_of ws) l.t l.i l.ahead.flat l.ahead.rise
