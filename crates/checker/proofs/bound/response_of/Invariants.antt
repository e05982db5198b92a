use Prim.Native.Nat.{◌+◌, ◌-◌, ◌≤◌}
use Rattle.scope.specs.Windows.{framed, supplied_by}
use Rattle.scope.specs.Tasks.{tasks_of}
use Rattle.checker.proofs.BoundLaws.{Short}
use Rattle.checker.proofs.bound.response_of.Given as goal

abbrev pub invariant-loop-length : goal.invariant-loop-length
invariant-loop-length l =
    (1 ≤ l.length) × Short (supplied_by (framed l.table.frame) l.table.windows.now) l.table.frame (tasks_of l.group.tasks.now) l.index l.length

abbrev pub decreases-loop-length : goal.decreases-loop-length
decreases-loop-length l = l.deadline + 1 - l.length
