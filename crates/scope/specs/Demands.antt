-- The words of the three demands, and of document 02's requests, that document 01's amounts do not have: 001's finer starts and greatest demand,
-- unsupplied ticks in a row, the miss that is shown, every run under earliest deadline first, and every way of giving out supplied ticks.
use Rattle.std.specs.Prelude.{ℕ, zero, suc, ◌+◌, ◌-◌, ◌*◌, ◌%◌, ◌≤◌, ◌<◌, ◌≡◌, Bool, true, false, cond, ◌&&◌, List, [], ◌∷◌, ◌++◌, map, leb, eqb, length}
use Rattle.std.proofs.Math.Option.{Option, none, some}
use Rattle.scope.specs.Numbers.{sum, when, IsFirst}
use Rattle.scope.specs.Ticks.{supply, least_supply}
use Rattle.scope.specs.Windows.{Board, Window, window}
use Rattle.scope.specs.Tasks.{Task, task_at, demand}
use Rattle.scope.specs.Jobs.{Job, job, release_of, work_of, deadline}
use Rattle.scope.specs.Machine.{pending, worked}

-- ---- 001's definitions

-- each tick cut into q: the frame, the edges, the shortest window and the lost ticks times q
abbrev pub finer_board : ℕ → Board → Board
finer_board q b = record { frame = q * b.frame; owner = b.owner; shortest = q * b.shortest; rule = b.rule; lost = q * b.lost }

abbrev pub finer_windows : ℕ → List Window → List Window
finer_windows q ws = map (λ w. window (q * w.start) (q * w.end)) ws

-- the work of the jobs that are released in the t ticks from s on and due by their end
unfoldable pub due_within : List Task → List Job → ℕ → ℕ → ℕ
due_within ts js s t = sum (λ j. when (leb s (release_of js j) && leb (deadline ts js j) (s + t)) (work_of js j)) (length js)

-- full jobs of the tasks below i in tick s + k, where each task's are released at s, s + T, s + 2T and on
unfoldable pub full_jobs_in : List Task → ℕ → ℕ → ℕ → List Job
full_jobs_in ts s k zero = []
full_jobs_in ts s k (suc i) =
    full_jobs_in ts s k i ++ cond (eqb (k % (task_at ts i).T) 0) (job (s + k) i (task_at ts i).C ∷ []) []

-- those of the t ticks from s on
unfoldable pub full_jobs : List Task → ℕ → ℕ → List Job
full_jobs ts s zero = []
full_jobs ts s (suc t) = full_jobs ts s t ++ full_jobs_in ts s t (length ts)

-- ---- request 1

-- the n ticks from s on are unsupplied, in whatever frames they are
abbrev pub Silent : (ℕ → Bool) → ℕ → ℕ → Type 0
Silent σ s n = (k : ℕ) → k < n → σ (s + k) ≡ false

-- ---- the miss that is shown

-- t is the least violating length, s the least of all starts that hold the least supply of t, d and p are the two amounts
pub record LeastMiss (σ : ℕ → Bool) (P : ℕ) (ts : List Task) (t s d p : ℕ) : Type 0 where
  pub demanded : d ≡ demand ts t
  pub supplied : p ≡ least_supply σ P t
  pub above : p < d
  pub least_length : (u : ℕ) → u < t → demand ts u ≤ least_supply σ P u
  pub holds : supply σ s t ≡ p
  pub least_start : (r : ℕ) → r < s → p < supply σ r t

-- ---- every run under a rule that goes first by a number

-- left k is the work left of each job at instant k of a run in which each supplied tick goes to some pending job of the least m, if any is pending:
-- under earliest deadline first m is the deadline. Which of several such jobs gets the tick is left open, at every tick anew
pub record Under (σ : ℕ → Bool) (js : List Job) (m : ℕ → ℕ) (left : ℕ → List ℕ) : Type 0 where
  pub goes : ℕ → Option ℕ
  pub start : left 0 ≡ map (λ x. x.work) js
  pub next : (k : ℕ) → left (suc k) ≡ cond (σ k) (worked (goes k) (left k)) (left k)
  pub first : (k : ℕ) → σ k ≡ true → IsFirst (pending js k (left k)) m (length js) (goes k)

-- ---- every way of giving out supplied ticks

-- of the full jobs that each task releases at s, s + T, s + 2T and on: the one of task `task` that is released at s + turn · T
pub record FullJob : Type 0 where
  pub task : ℕ
  pub turn : ℕ

-- to which of them, if any, each tick goes
abbrev pub Way : Type 0
Way = ℕ → Option FullJob

abbrev pub goes_to : Option FullJob → ℕ → ℕ → Bool
goes_to none i m = false
goes_to (some j) i m = eqb j.task i && eqb j.turn m

-- how many of the t ticks from s on are supplied and go to turn m of task i
unfoldable pub given_to : (ℕ → Bool) → Way → ℕ → ℕ → ℕ → ℕ → ℕ
given_to σ w i m s t = supply (λ k. σ k && goes_to (w k) i m) s t

-- every full job that is due by s + t has its C ticks between its release and s + t
abbrev pub Served : (ℕ → Bool) → List Task → Way → ℕ → ℕ → Type 0
Served σ ts w s t = (i m : ℕ) → i < length ts → m * (task_at ts i).T + (task_at ts i).D ≤ t →
    (task_at ts i).C ≤ given_to σ w i m (s + m * (task_at ts i).T) (t - m * (task_at ts i).T)
