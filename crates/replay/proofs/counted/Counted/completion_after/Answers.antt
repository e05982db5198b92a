use Rattle.scope.specs.Numbers.{first_by}
use Rattle.scope.specs.Jobs.{Job, job, jobs_of}
use Rattle.theory.specs.Lists.{pieces_length}
use Rattle.replay.specs.Ending.{next_end}
use Rattle.replay.proofs.EndingLaws.{best_step}
use Rattle.std.proofs.Common.{◌≡◌, length, refl, ap, ◌∙◌, arith}
use Rattle.replay.proofs.counted.Counted.completion_after.Goals as goal

pub loop-j-init : goal.loop-j-init
unfolding next_end first_by
loop-j-init c = refl

pub bounds-self-j : goal.bounds-self-j
bounds-self-j c = omega (arith, c.args.self.room, pieces_length _ 3 job c.args.self.jobs.now)

pub loop-j-preserved : goal.loop-j-preserved
loop-j-preserved c =
    c.nearer-best.ensures ∙ best_step _ _ _ _ _ _ _ _ _ _ c.loop-j.invariant (ap (λ (x : Job). x.task) c.job_at-job.ensures) refl
    (ap (λ (x : Job). x.release) c.job_at-job.ensures) (omega (arith, c.from.ensures, c.from-in-loop-j.ensures))

pub returns : goal.returns
returns c =
    let z : c.loop-j.j ≡ length (jobs_of c.args.self.jobs.now) = omega (arith, pieces_length _ 3 job c.args.self.jobs.now) in
    rw (← z) c.loop-j.invariant
