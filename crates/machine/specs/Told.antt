-- What a run answers, in the words of `scope`
use Rattle.std.specs.declared.result.Result.{Result}
use Rattle.scope.specs.Run as Runs
use Rattle.scope.specs.Answers.{Answer}
use Rattle.tables.specs.declared.answer.Refusal.{Refusal}
use Rattle.tables.specs.Told.{told}
use Rattle.machine.specs.declared.run.Ran.{Ran}
use Rattle.machine.specs.declared.run.Ran.TheVariants.{Met, Missed}

abbrev pub ran_of : Ran → Runs.Ran
ran_of (Met b) = record { outcome = Runs.met; backlog = b }
ran_of (Missed k j b) = record { outcome = Runs.missed k j; backlog = b }

abbrev pub told_ran : Result Ran Refusal → Answer Runs.Ran
told_ran = told ran_of
