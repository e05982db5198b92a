use Rattle.scope.specs.Tasks.{tasks_of}
use Rattle.scope.specs.Jobs.{jobs_of}
use Rattle.machine.specs.Rule.{rule}
use Rattle.machine.proofs.run.run.Given as goal

-- the machine's own rule
abbrev pub ghost-run_legal : goal.ghost-run_legal
ghost-run_legal a = rule (tasks_of a.course.tasks.now) (jobs_of a.course.jobs.now)
