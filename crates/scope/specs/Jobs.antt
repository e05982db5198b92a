-- Document 01, "The tick machine": job lists, and the rule of a legal one.
use Rattle.std.specs.Prelude.{ℕ, ◌+◌, ◌-◌, Bool, not, ◌&&◌, ◌||◌, List, leb, ltb, eqb, length, get_or}
use Rattle.std.proofs.Math.Option.{Option}
use Rattle.scope.specs.Numbers.{all, first, pieces, lexically}
use Rattle.scope.specs.Tasks.{Task, task_at}

pub record Job : Type 0 where
  pub release : ℕ
  pub task : ℕ
  pub work : ℕ

abbrev pub job : ℕ → ℕ → ℕ → Job
job r i w = record { release = r; task = i; work = w }

-- the jobs of a list of numbers: release, task index, work, release, ..
abbrev pub jobs_of : List ℕ → List Job
jobs_of = pieces 3 job

abbrev pub job_at : List Job → ℕ → Job
job_at js j = get_or js j (job 0 0 0)

abbrev pub release_of : List Job → ℕ → ℕ
release_of js j = (job_at js j).release

abbrev pub task_of : List Job → ℕ → ℕ
task_of js j = (job_at js j).task

abbrev pub work_of : List Job → ℕ → ℕ
work_of js j = (job_at js j).work

-- r + D
abbrev pub deadline : List Task → List Job → ℕ → ℕ
deadline ts js j = release_of js j + (task_at ts (task_of js j)).D

-- the list rises by tick and, within a tick, strictly by task index
abbrev pub in_order : List Job → ℕ → Bool
in_order js j = eqb j 0 || lexically (release_of js (j - 1)) (release_of js j) (ltb (task_of js (j - 1)) (task_of js j))

-- job j is at least T after each earlier job of its task
abbrev pub apart : List Task → List Job → ℕ → Bool
apart ts js j =
    all (λ i. not (eqb (task_of js i) (task_of js j)) || leb (release_of js i + (task_at ts (task_of js j)).T) (release_of js j)) j

-- job j keeps the rule of a legal list for a run of n ticks
unfoldable pub job_legal : List Task → ℕ → List Job → ℕ → Bool
job_legal ts n js j =
    in_order js j && ltb (task_of js j) (length ts) && leb 1 (work_of js j) && leb (work_of js j) (task_at ts (task_of js j)).C
    && ltb (release_of js j) n && apart ts js j

-- the lowest index of a job that breaks it
unfoldable pub bad_job : List Task → ℕ → List Job → Option ℕ
bad_job ts n js = first (λ j. not (job_legal ts n js j)) (length js)
