use mathlib.Core.Path.{◌≡◌}
use Prim.Native.Nat.{◌≤◌}
use lib.ListN.{length}
use Rattle.scope.specs.Numbers.{written}
use Rattle.scope.specs.Shared.{as_owned}
use Rattle.shared.proofs.SharedLaws.{threes}
use Rattle.shared.proofs.table.write_owned.Given as goal

abbrev pub invariant-loop-i : goal.invariant-loop-i
invariant-loop-i l =
    (length (as_owned l.owner l.windows) ≤ length l.initial.out)
    × (length l.out ≡ length l.initial.out)
    × (l.out ≡ written (threes l.owner l.windows l.i) l.initial.out)
