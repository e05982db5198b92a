-- What the code knows of the lengths at which a demand rises
use Rattle.std.specs.Prelude.{◌≡◌, cond, List, eqb, ℕ, ◌+◌, ◌-◌, ◌<◌, length, get_or}
use Rattle.scope.specs.Limits.{most_tasks}
use Rattle.scope.specs.Tasks.{Task, task_at, demand}
use Rattle.theory.specs.Dues.{due_after, soonest}
use Rattle.checker.specs.declared.rise.Rise.{Rise}

-- the next deadline of each task after length t
pub record Due (ts : List Task) (t : ℕ) (due : List ℕ) : Type 0 where
  pub size : length due ≡ most_tasks
  pub each : (i : ℕ) → i < length ts → get_or due i 0 ≡ due_after (task_at ts i) t

-- the work of a task's job that is due at length t, and the deadline after it, where `here` is the next deadline up to then
abbrev pub work_at : Task → ℕ → ℕ → ℕ
work_at x t here = cond (eqb here t) x.C 0

abbrev pub later_due : Task → ℕ → ℕ → ℕ
later_due x t here = cond (eqb here t) (t + x.T) here

-- length t is reached: what its demand has more than that of the length before, and the next length at which it rises
pub record Risen (ts : List Task) (t : ℕ) (due : List ℕ) (r : Rise) : Type 0 where
  pub after : Due ts t due
  pub by : demand ts t ≡ demand ts (t - 1) + r.by
  pub next : r.next ≡ soonest ts t (length ts)
