use mathlib.Core.Path.{◌≡◌}
use Prim.Native.Nat.{◌+◌, ◌*◌, ◌≤◌}
use Rattle.scope.specs.Limits.{most_frame}
use Rattle.scope.specs.Windows.{windows_of}
use Rattle.scope.specs.Summary.{ticks_before}
use Rattle.summaries.proofs.LeastLaws.{left}
use Rattle.summaries.proofs.least.ticks_before.Given as goal

abbrev pub invariant-loop-start : goal.invariant-loop-start
invariant-loop-start l = (l.ticks ≤ l.start-index * most_frame) × (l.ticks + left l.windows l.r l.start-index ≡ ticks_before (windows_of l.windows) l.r)
