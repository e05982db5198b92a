use mathlib.Core.Path.{◌≡◌}
use Rattle.machine.specs.Places.{late_to}
use Rattle.machine.proofs.late.late.Given as goal

abbrev pub invariant-loop-i : goal.invariant-loop-i
invariant-loop-i l = l.best ≡ late_to l.pending.bits l.places l.t l.i
