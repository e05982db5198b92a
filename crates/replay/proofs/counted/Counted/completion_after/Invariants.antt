use Rattle.scope.specs.Jobs.{jobs_of}
use Rattle.replay.specs.Ending.{next_end, completion_in, told_seen}
use Rattle.std.proofs.Common.{◌≡◌}
use Rattle.replay.proofs.counted.Counted.completion_after.Given as goal

abbrev pub invariant-loop-j : goal.invariant-loop-j
invariant-loop-j l =
    told_seen l.best ≡ completion_in (jobs_of l.self.jobs.now) l.self.counts.now (next_end (jobs_of l.self.jobs.now) l.self.counts.now l.after l.last l.j)
