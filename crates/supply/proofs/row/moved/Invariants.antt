use Prim.Native.Nat.{◌+◌, ◌-◌, ◌*◌, ◌≤◌}
use Rattle.scope.specs.Windows.{framed}
use Rattle.scope.specs.Limits.{most_frame}
use Rattle.supply.specs.Positions.{closes, Behind}
use Rattle.supply.proofs.row.moved.Given as goal

abbrev pub invariant-loop-table : goal.invariant-loop-table
invariant-loop-table l = Behind (framed l.table.frame) l.table.windows.now l.at l.x × (l.x ≤ 2 * most_frame)

-- the end of the window falls short of x by less and less
abbrev pub decreases-loop-table : goal.decreases-loop-table
decreases-loop-table l = l.x + 1 - closes l.table.windows.now l.at
