-- Document 01, "The tick machine": what a run answers and writes, over any pattern σ and any rule of choice.
use Rattle.std.specs.Prelude.{ℕ, zero, suc, ◌-◌, Bool, ◌&&◌, List, leb, eqb, length, get_or}
use Rattle.std.proofs.Math.Option.{Option, none, some}
use Rattle.scope.specs.Numbers.{bit, sum, greatest, first, listed}
use Rattle.scope.specs.Tasks.{Task}
use Rattle.scope.specs.Jobs.{Job, release_of, deadline}
use Rattle.scope.specs.Machine.{pending, work_left}

pub data Outcome : Type 0 where
  met : Outcome
  missed : (instant job : ℕ) → Outcome

-- job j is unfinished at instant k and r + D ≤ k
unfoldable pub late : List Task → List Job → ℕ → List ℕ → ℕ → Bool
late ts js k left j = leb (deadline ts js j) k && leb 1 (get_or left j 0)

-- a miss at instant k names the lowest late job
abbrev pub judged : ℕ → Option ℕ → Outcome
judged k none = met
judged k (some j) = missed k j

-- a miss ends the run
abbrev pub then_at : Outcome → Outcome → Outcome
then_at met o = o
then_at (missed k j) o = missed k j

-- the outcome of n ticks
unfoldable pub outcome : (ℕ → Bool) → (ℕ → ℕ → Bool) → List Task → List Job → ℕ → Outcome
outcome σ before ts js zero = met
outcome σ before ts js (suc k) =
    then_at (outcome σ before ts js k) (judged (suc k) (first (late ts js (suc k) (work_left σ before js (suc k))) (length js)))

-- how many of n ticks are done
abbrev pub ticks_done : Outcome → ℕ → ℕ
ticks_done met n = n
ticks_done (missed k j) n = k

-- how many jobs are pending in tick k
unfoldable pub backlog_in : (ℕ → Bool) → (ℕ → ℕ → Bool) → List Job → ℕ → ℕ
backlog_in σ before js k = sum (λ j. bit (pending js k (work_left σ before js k) j)) (length js)

-- the greatest number of jobs pending in any of the ticks 0 to n − 1
unfoldable pub backlog : (ℕ → Bool) → (ℕ → ℕ → Bool) → List Job → ℕ → ℕ
backlog σ before js n = greatest (backlog_in σ before js) n

-- job j has no work left at instant k, where left k is the work left of each job
abbrev pub done_at : (ℕ → List ℕ) → ℕ → ℕ → Bool
done_at left j k = eqb (get_or (left k) j 0) 0

-- the instant of completion less the release; 0 for a job that is unfinished
abbrev pub since : ℕ → Option ℕ → ℕ
since r none = 0
since r (some k) = k - r

-- the count of job j in any run that ends at instant n, and in the machine's
unfoldable pub count_of : (ℕ → List ℕ) → List Job → ℕ → ℕ → ℕ
count_of left js n j = since (release_of js j) (first (done_at left j) (suc n))

abbrev pub count : (ℕ → Bool) → (ℕ → ℕ → Bool) → List Job → ℕ → ℕ → ℕ
count σ before js n j = count_of (work_left σ before js) js n j

-- the outcome, with the greatest backlog of the ticks done
pub record Ran : Type 0 where
  pub outcome : Outcome
  pub backlog : ℕ

unfoldable pub ran : (ℕ → Bool) → (ℕ → ℕ → Bool) → List Task → List Job → ℕ → Ran
ran σ before ts js n =
    let o = outcome σ before ts js n in
    record { outcome = o; backlog = backlog σ before js (ticks_done o n) }

-- one count per job
unfoldable pub counts : (ℕ → Bool) → (ℕ → ℕ → Bool) → List Task → List Job → ℕ → List ℕ
counts σ before ts js n = listed (count σ before js (ticks_done (outcome σ before ts js n) n)) (length js)
