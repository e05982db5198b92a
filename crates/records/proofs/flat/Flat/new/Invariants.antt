use mathlib.Core.Path.{◌≡◌}
use Prim.Native.Nat.{◌*◌}
use lib.ListN.{length, take}
use Rattle.records.specs.Numbers.{numbers_of, enough_numbers}
use Rattle.records.proofs.flat.Flat.new.Given as goal

-- the numbers of the first i records are written
abbrev pub invariant-loop-i : goal.invariant-loop-i
invariant-loop-i l = record { room : length l.numbers ≡ enough_numbers; so_far : take (3 * l.i) l.numbers ≡ numbers_of (take l.i l.tasks) }
