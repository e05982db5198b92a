use Rattle.replay.proofs.RebuildLaws.{rebuilding_room, rebuilding_put, rebuilding_pass, rebuilding_end}
use Rattle.replay.proofs.rebuild.rebuild.Goals as goal

pub put_job-requires : goal.put_job-requires
put_job-requires c = rebuilding_room _ _ _ _ _ _ _ c.loop-record.invariant c.in-Some.ensures.steps _ _ c.in-Release.is

pub loop-record-preserved-in-Release : goal.loop-record-preserved-in-Release
loop-record-preserved-in-Release c =
    rw c.put_job.ensures (rebuilding_put _ _ _ _ _ _ _ c.loop-record.invariant c.in-Some.ensures.steps _ _ c.in-Release.is)

pub loop-record-preserved : goal.loop-record-preserved
loop-record-preserved c = rebuilding_pass _ _ _ _ _ _ _ c.loop-record.invariant c.in-Some.ensures.steps _ c.in_default.is

pub returns : goal.returns
returns c = rebuilding_end _ _ _ _ _ c.loop-record.invariant c.in-None.ensures.steps.0
