use mathlib.Core.Path.{◌≡◌}
use Prim.Native.Nat.{◌+◌, ◌^◌, ◌≤◌, ◌<◌}
use lib.ListN.{length, drop}
use Rattle.scope.specs.Plan.{groups}
use Rattle.plan.proofs.NumberLaws.{after}
use Rattle.plan.proofs.number.read_number.Given as goal

abbrev pub invariant-loop-size : goal.invariant-loop-size
invariant-loop-size l =
    (l.at + l.size ≤ length l.bytes) × (l.weight ≡ 128 ^ l.size) × (l.value < l.weight)
    × (groups (drop l.at l.bytes) ≡ after l.value l.size (groups (drop (l.at + l.size) l.bytes)))
