-- The records that are left
use Rattle.std.specs.Prelude.{ℕ, zero, suc, cond, List, [], ◌∷◌, length, nat_le}
use Rattle.scope.specs.Plan.{Read, Read.read, Read.bad}
use Rattle.scope.specs.Trace.{Record}
use Rattle.replay.specs.declared.read.Reader.{Reader}
use Rattle.replay.specs.declared.records.Records.{Records}
use Rattle.replay.specs.Reading.{passed}

-- the record that is passed, and those after it; none where it is damaged
abbrev pub and_left : Read (Record × Reader) → (Reader → List Record) → List Record
and_left (read p next) more = p.0 ∷ more p.1
and_left (bad offset) more = []

-- at most so many of them
unfoldable pub left_from : ℕ → List ℕ → Reader → List Record
left_from zero bytes r = []
left_from (suc f) bytes r = cond (nat_le (length bytes) r.at) [] (and_left (passed bytes r) (left_from f bytes))

-- a record takes a byte at least, so there are no more records than bytes
unfoldable pub records_left : Records → List Record
records_left s = left_from (length s.bytes.now) s.bytes.now s.reader
