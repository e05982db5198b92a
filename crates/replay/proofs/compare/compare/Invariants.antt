use Rattle.scope.specs.Jobs.{jobs_of}
use Rattle.replay.specs.Records.{records_left}
use Rattle.replay.proofs.CompareLaws.{Comparing}
use Rattle.replay.proofs.compare.compare.Given as goal

abbrev pub invariant-loop-record : goal.invariant-loop-record
invariant-loop-record l =
    Comparing l.trace.bytes.now (jobs_of l.run.jobs.now) l.run.counts.now l.last (records_left l.record-iterator) l.after
