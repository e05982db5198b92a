-- Legal lists, as facts
use Rattle.std.specs.Prelude.{◌≡◌, cond, List, ℕ, zero, suc, ◌+◌, ◌≤◌, ◌<◌, max, eqb, length, get_or}
use Rattle.scope.specs.Limits.{most_tasks, most_ticks, most_jobs}
use Rattle.scope.specs.Tasks.{Task, task_at}
use Rattle.scope.specs.Jobs.{Job, release_of, task_of, work_of}
use Rattle.theory.specs.Tasks.{TaskRules, Within}

pub record Tasks (ts : List Task) : Type 0 where
  pub few : length ts ≤ most_tasks
  pub rules : TaskRules ts
  pub within : Within ts

pub record Jobs (ts : List Task) (js : List Job) : Type 0 where
  pub few : length js ≤ most_jobs
  pub known : (j : ℕ) → j < length js → task_of js j < length ts
  pub some : (j : ℕ) → j < length js → 1 ≤ work_of js j
  pub small : (j : ℕ) → j < length js → release_of js j < most_ticks
  pub rises : (i j : ℕ) → i ≤ j → j < length js → release_of js i ≤ release_of js j
  pub apart : (i j : ℕ) → i < j → j < length js → task_of js i ≡ task_of js j → release_of js i + (task_at ts (task_of js j)).T ≤ release_of js j

-- the first tick at which task t may be released again, after the first m jobs
unfoldable pub free_at : List Task → List Job → ℕ → ℕ → ℕ
free_at ts js t zero = 0
free_at ts js t (suc m) = let f = free_at ts js t m in cond (eqb (task_of js m) t) (max f (release_of js m + (task_at ts t).T)) f

-- `free` has the first free tick of each task, after the first j jobs
pub record FreeTable (ts : List Task) (js : List Job) (j : ℕ) (free : List ℕ) : Type 0 where
  pub size : length free ≡ most_tasks
  pub is : (x : ℕ) → x < most_tasks → get_or free x 0 ≡ free_at ts js x j
