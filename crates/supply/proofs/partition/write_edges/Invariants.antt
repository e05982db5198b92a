use mathlib.Core.Path.{◌≡◌}
use lib.ListN.{length}
use Rattle.scope.specs.Numbers.{written}
use Rattle.scope.specs.Windows.{framed}
use Rattle.supply.proofs.PartitionLaws.{edges}
use Rattle.supply.proofs.WalkLaws.{Walking}
use Rattle.supply.proofs.partition.write_edges.Given as goal

abbrev pub invariant-loop-t : goal.invariant-loop-t
invariant-loop-t l =
    let b = framed l.table.frame in
    let ws = l.table.windows.now in
    let s = l.t-iterator in
    Walking l.table s l.before × (l.at ≡ length (edges b ws s.t)) × (l.out ≡ written (edges b ws s.t) l.initial.out)
