use mathlib.Core.Path.{sym, ap, ◌∙◌}
use Prim.Native.Nat.{ℕ, ◌+◌, ◌<◌}
use native.Mathlib.Omega.{arith}
use lib.ListN.{length}
use Rattle.scope.specs.Jobs.{job, jobs_of, job_at}
use Rattle.scope.specs.Tasks.{tasks_of}
use Rattle.theory.specs.Lists.{pieces_length}
use Rattle.machine.specs.State.{Whole, whole, release_at}
use Rattle.machine.proofs.Releasing.{release_yes}
use Rattle.machine.proofs.tick.release.Goals as goal

pub loop-j-preserved : goal.loop-j-preserved
loop-j-preserved c =
    let l = c.loop-j in
    let r = c.args.course in
    let e = c.next_job-t.ensures in
    let less : l.t.next < length (jobs_of r.jobs.now) = omega (arith, pieces_length _ 3 job r.jobs.now) in
    record {
      next = ap (λ (w : Whole). w.state.next) e ∙ ap (λ (n : ℕ). n + 1) l.invariant.next;
      same = l.invariant.same ∙ release_yes (tasks_of r.tasks.now) (jobs_of r.jobs.now) (whole l.t l.places) _
          (c.job_at-job.ensures ∙ ap (job_at (jobs_of r.jobs.now)) (sym l.invariant.next)) less c.if-job-t.false
          ∙ ap (release_at (tasks_of r.tasks.now) (jobs_of r.jobs.now)) (sym e);
    }
