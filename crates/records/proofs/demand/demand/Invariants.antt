use mathlib.Core.Path.{◌≡◌}
use Rattle.records.proofs.SumLaws.{summed, Kept}
use Rattle.records.proofs.demand.demand.Given as goal

-- the first i records keep their rule, and are added
abbrev pub invariant-loop-i : goal.invariant-loop-i
invariant-loop-i l = record {
  kept : Kept l.tasks l.length l.i;
  added : l.sum ≡ summed l.tasks l.length l.i;
}
