use mathlib.Core.Bool.{true}
use mathlib.Core.Path.{◌≡◌}
use Prim.Native.Nat.{ℕ, ◌<◌}
use Rattle.scope.specs.Jobs.{jobs_of}
use Rattle.scope.specs.Tasks.{tasks_of}
use Rattle.jobs.specs.Legal.{FreeTable}
use Rattle.jobs.proofs.Legality.{kept}
use Rattle.jobs.proofs.check.check_each_job.Given as goal

abbrev pub invariant-loop-j : goal.invariant-loop-j
invariant-loop-j l = record {
  free : FreeTable (tasks_of l.group.tasks.now) (jobs_of l.jobs) l.j l.free;
  kept : (k : ℕ) → k < l.j → kept l.group.tasks.now l.n l.jobs k ≡ true;
}
