use Rattle.scope.specs.Windows.{framed}
use Rattle.supply.proofs.SupplyLaws.{Tried}
use Rattle.supply.proofs.supply.least_at_ends.Given as goal

abbrev pub invariant-loop-i : goal.invariant-loop-i
invariant-loop-i l =
    let t = l.table in Tried (framed t.frame) t.windows.now t.legal l.length l.i l.least l.earlier l.position
