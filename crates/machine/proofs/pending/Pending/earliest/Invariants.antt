use Rattle.machine.specs.Bits.{members}
use Rattle.machine.specs.Places.{due_at}
use Rattle.machine.proofs.Walk.{Seen}
use Rattle.machine.proofs.pending.Pending.earliest.Given as goal

abbrev pub invariant-loop-rest : goal.invariant-loop-rest
invariant-loop-rest l = Seen l.initial.rest.bits (due_at l.places) l.rest.bits l.best

abbrev pub decreases-loop-rest : goal.decreases-loop-rest
decreases-loop-rest l = members l.rest.bits
