use Rattle.replay.specs.Rebuilt.{records_of}
use Rattle.replay.specs.Records.{records_left}
use Rattle.replay.proofs.RebuildLaws.{Rebuilding}
use Rattle.replay.proofs.rebuild.rebuild.Given as goal

abbrev pub invariant-loop-record : goal.invariant-loop-record
invariant-loop-record l = Rebuilding (records_of l.trace.bytes.now) l.initial.jobs (records_left l.record-iterator) l.jobs l.j
