use Rattle.scope.specs.Windows.{framed, windows_of}
use Rattle.theory.specs.LongestGap.{Passed}
use Rattle.gaps.proofs.outage.outage_of.Given as goal

abbrev pub invariant-loop-i : goal.invariant-loop-i
invariant-loop-i l = Passed (framed l.table.frame) (windows_of l.windows) l.first.start l.i l.end l.most
