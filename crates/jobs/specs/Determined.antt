-- Two answers of which the promises say the same are equal
use Rattle.std.specs.Prelude.{◌≡◌, refl}
use Rattle.std.specs.declared.result.Result.{Result}
use Rattle.tables.specs.declared.answer.Refusal.{Refusal}
use Rattle.tables.specs.Determined.{undone, told_determined}
use Rattle.jobs.specs.declared.job.Job as job
use Rattle.jobs.specs.declared.check.Run.{Run}
use Rattle.jobs.specs.Told.{job_of, told_run}

pub run_determined : (a b : Result Run Refusal) → told_run a ≡ told_run b → a ≡ b
run_determined = told_determined (λ (t : Run). t.ticks) (λ n. record { ticks = n }) (λ t. refl)

pub job_determined : (a b : job.Job) → job_of a ≡ job_of b → a ≡ b
job_determined = undone job_of (λ x. record { release = x.release; task = x.task; work = x.work }) (λ a. refl)
