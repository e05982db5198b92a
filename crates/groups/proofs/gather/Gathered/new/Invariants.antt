use mathlib.Core.Path.{◌≡◌}
use lib.ListN.{length, take}
use Rattle.records.specs.Numbers.{enough_records}
use Rattle.groups.specs.Records.{records_of}
use Rattle.groups.proofs.gather.Gathered.new.Given as goal

abbrev pub invariant-loop-i : goal.invariant-loop-i
invariant-loop-i l = record { room : length l.tasks ≡ enough_records; made : take l.i l.tasks ≡ take l.i (records_of l.numbers) }
