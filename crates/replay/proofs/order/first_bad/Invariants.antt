use Rattle.replay.specs.Reading.{record_before}
use Rattle.replay.specs.Rebuilt.{records_of}
use Rattle.replay.specs.Records.{records_left}
use Rattle.replay.proofs.OrderLaws.{Passing}
use Rattle.replay.proofs.order.first_bad.Given as goal

abbrev pub invariant-loop-i : goal.invariant-loop-i
invariant-loop-i l =
    Passing (records_of l.trace.bytes.now) l.illegal (records_left l.i-iterator.iter) (record_before l.previous) l.i-iterator.count l.j
