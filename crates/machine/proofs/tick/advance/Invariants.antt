use Prim.Native.Nat.{◌-◌}
use Rattle.machine.proofs.Said.{GoingFor}
use Rattle.machine.proofs.tick.advance.Given as goal

abbrev pub invariant-loop-s : goal.invariant-loop-s
invariant-loop-s l = GoingFor l.course l.initial.counts l.s l.places l.counts

abbrev pub decreases-loop-s : goal.decreases-loop-s
decreases-loop-s l = l.s.end - l.s.instant
