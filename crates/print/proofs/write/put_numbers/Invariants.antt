use Prim.Native.Nat.{◌+◌, ◌*◌, ◌≤◌}
use mathlib.Core.Path.{◌≡◌}
use mathlib.Core.List.{◌++◌}
use lib.ListN.{length, take}
use Rattle.scope.specs.Plan.{numbers_bytes}
use Rattle.print.specs.Text.{shown}
use Rattle.print.proofs.write.put_numbers.Given as goal

abbrev pub invariant-loop-n : goal.invariant-loop-n
invariant-loop-n l = record {
  list : take l.at l.text.bytes ≡ shown l.initial.text ++ numbers_bytes (take l.n-index l.list);
  most : l.at ≤ length (shown l.initial.text) + 5 * l.n-index;
}
