-- Document 01, "The tick machine": its ticks, over any pattern σ and any rule of choice. The state is the work left of each job.
-- A rule of choice is an order of job indices: `before a b` says that job a goes before job b.
use Rattle.std.specs.Prelude.{ℕ, zero, suc, ◌-◌, Bool, cond, ◌&&◌, List, map, leb, ltb, length, get_or, set}
use Rattle.std.proofs.Math.Option.{Option, none, some}
use Rattle.scope.specs.Numbers.{first_by, lexically}
use Rattle.scope.specs.Tasks.{Task}
use Rattle.scope.specs.Jobs.{Job, release_of, task_of, deadline}

-- earliest deadline first, ties to the lower task index
abbrev pub edf : List Task → List Job → ℕ → ℕ → Bool
edf ts js a b = lexically (deadline ts js a) (deadline ts js b) (ltb (task_of js a) (task_of js b))

-- job j is pending in tick k: it is released at k or before, and has work left
unfoldable pub pending : List Job → ℕ → List ℕ → ℕ → Bool
pending js k left j = leb (release_of js j) k && leb 1 (get_or left j 0)

-- the pending job that goes first
abbrev pub chosen : (ℕ → ℕ → Bool) → List Job → ℕ → List ℕ → Option ℕ
chosen before js k left = first_by before (pending js k left) (length js)

-- the chosen job gets one tick of work
abbrev pub worked : Option ℕ → List ℕ → List ℕ
worked none left = left
worked (some j) left = set left j (get_or left j 0 - 1)

-- tick k: work is done if it is supplied
unfoldable pub tick : (ℕ → Bool) → (ℕ → ℕ → Bool) → List Job → ℕ → List ℕ → List ℕ
tick σ before js k left = cond (σ k) (worked (chosen before js k left) left) left

-- the work left of each job at instant k, after the ticks 0 to k − 1
unfoldable pub work_left : (ℕ → Bool) → (ℕ → ℕ → Bool) → List Job → ℕ → List ℕ
work_left σ before js zero = map (λ x. x.work) js
work_left σ before js (suc k) = tick σ before js k (work_left σ before js k)
