use mathlib.Core.Path.{◌≡◌}
use lib.ListN.{take}
use Rattle.scope.specs.Plan.{Read.read, read_numbers}
use Rattle.plan.proofs.read.read_numbers.Given as goal

abbrev pub invariant-loop-place : goal.invariant-loop-place
invariant-loop-place l = read_numbers l.bytes l.place-index l.at ≡ read (take l.place-index l.out) l.next
