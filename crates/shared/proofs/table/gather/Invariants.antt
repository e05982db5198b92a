use Rattle.scope.specs.Numbers.{written}
use Rattle.scope.specs.Shared.{owned_of}
use Rattle.tables.specs.Told.{board_of}
use Rattle.shared.proofs.SharedLaws.{left_for, gathers_left, front}
use Prim.Native.Nat.{◌≤◌}
use lib.ListN.{length}
use mathlib.Core.Path.{◌≡◌}
use Rattle.shared.proofs.table.gather.Given as goal

abbrev pub invariant-loop-i : goal.invariant-loop-i
invariant-loop-i l =
    (l.at ≡ length (front (left_for (board_of l.board)) (gathers_left (board_of l.board)) (owned_of l.windows) l.i))
    × (length (left_for (board_of l.board) (owned_of l.windows)) ≤ length l.initial.out)
    × (length l.out ≡ length l.initial.out)
    × (l.out ≡ written (front (left_for (board_of l.board)) (gathers_left (board_of l.board)) (owned_of l.windows) l.i) l.initial.out)
