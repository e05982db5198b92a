-- What the code's types say, in the words of `scope`
use Rattle.std.specs.Prelude.{ℕ}
use Rattle.std.specs.declared.result.Result.{Result}
use Rattle.scope.specs.Jobs as Jobs
use Rattle.scope.specs.Answers.{Answer}
use Rattle.tables.specs.declared.answer.Refusal.{Refusal}
use Rattle.tables.specs.Told.{told}
use Rattle.jobs.specs.declared.job.Job as job
use Rattle.jobs.specs.declared.check.Run.{Run}

abbrev pub job_of : job.Job → Jobs.Job
job_of x = record { release = x.release; task = x.task; work = x.work }

abbrev pub told_run : Result Run Refusal → Answer ℕ
told_run = told (λ (t : Run). t.ticks)
