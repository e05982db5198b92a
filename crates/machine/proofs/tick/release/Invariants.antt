use mathlib.Core.Path.{◌≡◌}
use Rattle.scope.specs.Jobs.{jobs_of}
use Rattle.scope.specs.Tasks.{tasks_of}
use Rattle.machine.specs.State.{whole, release_at}
use Rattle.machine.proofs.tick.release.Given as goal

abbrev pub invariant-loop-j : goal.invariant-loop-j
invariant-loop-j l = record {
  next : l.t.next ≡ l.j;
  same : release_at (tasks_of l.course.tasks.now) (jobs_of l.course.jobs.now) (whole l.initial.t l.initial.places)
      ≡ release_at (tasks_of l.course.tasks.now) (jobs_of l.course.jobs.now) (whole l.t l.places);
}
