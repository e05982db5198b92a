use mathlib.Core.Path.{◌≡◌}
use Prim.Native.Nat.{◌≤◌}
use lib.ListN.{drop}
use Rattle.scope.specs.Limits.{most_cycle}
use Rattle.scope.specs.Tasks.{tasks_of}
use Rattle.scope.specs.Cycle.{cycle}
use Rattle.checker.proofs.cycle.Cycle.new.Given as goal

abbrev pub invariant-loop-i : goal.invariant-loop-i
invariant-loop-i l =
    let ts = tasks_of l.group.tasks.now in
    (l.h ≤ most_cycle) × (cycle l.table.frame ts ≡ cycle l.h (drop l.i ts))
