use mathlib.Core.Path.{◌≡◌}
use Prim.Native.Nat.{◌+◌}
use Rattle.scope.specs.Numbers.{greatest}
use Rattle.scope.specs.Windows.{framed, supplied_by}
use Rattle.scope.specs.Partition.{lag}
use Rattle.supply.proofs.PartitionLaws.{edges, Counted}
use Rattle.supply.proofs.WalkLaws.{Walking}
use Rattle.supply.proofs.partition.measured.Given as goal

abbrev pub invariant-loop-t : goal.invariant-loop-t
invariant-loop-t l =
    let P = l.table.frame in
    let b = framed P in
    let ws = l.table.windows.now in
    let s = l.t-iterator in
    Walking l.table s l.before × Counted l.held (edges b ws s.t) l.met × (l.delay ≡ greatest (lag (supplied_by b ws) P) (s.t + 1))
