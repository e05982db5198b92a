-- How the code's state and the places show scope's list of work left, under any rule of choice
use Rattle.std.specs.Prelude.{◌≡◌, Bool, true, ◌⊎◌, ◌≢◌, List, ℕ, ◌+◌, ◌-◌, ◌^◌, ◌≤◌, ◌<◌, length, get_or, set}
use Rattle.std.proofs.Math.Option.{some}
use Rattle.std.specs.declared.option.Option.{Option}
use Rattle.std.specs.declared.option.Option.TheVariants.{Some, None}
use Rattle.scope.specs.Limits.{most_tasks, most_ticks, most_jobs}
use Rattle.scope.specs.Numbers.{first}
use Rattle.scope.specs.Windows.{Board, framed, supplied_by}
use Rattle.scope.specs.Tasks.{Task, tasks_of, task_at}
use Rattle.scope.specs.Jobs.{Job, jobs_of, release_of, task_of, deadline}
use Rattle.scope.specs.Machine.{work_left}
use Rattle.scope.specs.Run.{Outcome.met, Outcome.missed, late, outcome, backlog, count}
use Rattle.tables.specs.declared.cursor.Cursor.{Cursor}
use Rattle.tables.specs.Cursors.{cursor_at, after}
use Rattle.machine.specs.declared.places.Place.{Place}
use Rattle.machine.specs.declared.course.Course.{Course}
use Rattle.machine.specs.declared.state.RunState.{RunState}
use Rattle.machine.specs.Bits.{mem}
use Rattle.machine.specs.Places.{all_places, left_at, due_at, held_at}
use Rattle.machine.specs.Rule.{rule}
use Rattle.machine.specs.State.{whole, tick_of}

-- ---- the work left

-- what stands at a pending task i: a released job of that task, its deadline, and the work left of it
pub record PlaceOf (ts : List Task) (js : List Job) (work : List ℕ) (next : ℕ) (places : List Place) (i : ℕ) : Type 0 where
  pub known : held_at places i < next
  pub same : task_of js (held_at places i) ≡ i
  pub due : due_at places i ≡ deadline ts js (held_at places i)
  pub left : left_at places i ≡ get_or work (held_at places i) 0
  pub some : 0 < left_at places i

-- each pending task shows its job, and each released job with work left stands at its task
pub record Holds (ts : List Task) (js : List Job) (work : List ℕ) (pending next : ℕ) (places : List Place) : Type 0 where
  pub size : length places ≡ all_places
  pub place : (i : ℕ) → i < most_tasks → mem pending i ≡ true → PlaceOf ts js work next places i
  pub held : (j : ℕ) → j < next → 0 < get_or work j 0 → (mem pending (task_of js j) ≡ true) × (held_at places (task_of js j) ≡ j)

-- no pending task is due before `soon`
abbrev pub Sound : ℕ → List Place → ℕ → Type 0
Sound pending places soon = (i : ℕ) → i < most_tasks → mem pending i ≡ true → soon ≤ due_at places i

-- the jobs below next are released before hi, the others at lo or later
pub record Split (js : List Job) (lo hi next : ℕ) : Type 0 where
  pub bound : next ≤ length js
  pub early : (j : ℕ) → j < next → release_of js j < hi
  pub later : (j : ℕ) → next ≤ j → j < length js → lo ≤ release_of js j

-- s and the places are those of the run at instant k
pub record At (σ : ℕ → Bool) (before : ℕ → ℕ → Bool) (ts : List Task) (js : List Job) (k : ℕ) (s : RunState) (places : List Place) : Type 0 where
  pub now : s.instant ≡ k
  pub holds : Holds ts js (work_left σ before js k) s.pending.bits s.next places
  pub soon : Sound s.pending.bits places s.soon
  pub split : Split js k k s.next
  pub backlog : s.backlog ≡ backlog σ before js k

-- no job is late at instant k
abbrev pub OnTime : (ℕ → Bool) → (ℕ → ℕ → Bool) → List Task → List Job → ℕ → Type 0
OnTime σ before ts js k = (j : ℕ) → j < length js → deadline ts js j ≤ k → get_or (work_left σ before js k) j 0 ≡ 0

-- between work and work' job d ends, if there is one, and no other
pub record Ends (work work' : List ℕ) (n : ℕ) (d : Option ℕ) : Type 0 where
  pub other : (j : ℕ) → j < n → d ≢ Some j → 0 < get_or work j 0 → 0 < get_or work' j 0
  pub this : (j : ℕ) → d ≡ Some j → (j < n) × (0 < get_or work j 0) × (get_or work' j 0 ≡ 0)

-- ---- the table

-- the cursor of s is at the tick that begins at its instant: so the window at hand gives this tick exactly where it is supplied
pub record OnTable (b : Board) (ws : List ℕ) (s : RunState) : Type 0 where
  pub cursor : s.cursor ≡ cursor_at b ws s.instant

-- ---- the lent buffer

-- the buffer l is d with f 0, f 1, .., f (m − 1) at its front
pub record Kept (f : ℕ → ℕ) (m : ℕ) (d l : List ℕ) : Type 0 where
  pub same : length l ≡ length d
  pub low : (j : ℕ) → j < m → get_or l j 0 ≡ f j
  pub high : (j : ℕ) → m ≤ j → get_or l j 0 ≡ get_or d j 0

abbrev pub zeros : ℕ → ℕ
zeros j = 0

-- the count of the job that ended at instant k is written, if one did
unfoldable pub noted : List Job → ℕ → Option ℕ → List ℕ → List ℕ
noted js k None l = l
noted js k (Some j) l = set l j (k - release_of js j)

-- job j of the list can be noted at instant k
pub record Noting (js : List Job) (k j : ℕ) (l : List ℕ) : Type 0 where
  pub room : j < length l
  pub past : release_of js j ≤ k

-- ---- a tick

-- what the next job needs to be released
pub record Arriving (ts : List Task) (x : Job) (s : RunState) : Type 0 where
  pub known : x.task < most_tasks
  pub fits : x.release + (task_at ts x.task).D < 2 ^ 32
  pub few : s.next < most_jobs

-- what a tick needs
pub record Ready (σ : ℕ → Bool) (before : ℕ → ℕ → Bool) (ts : List Task) (js : List Job) (s : RunState) (places : List Place) (counts : List ℕ) : Type 0 where
  pub at : At σ before ts js s.instant s places
  pub ontime : OnTime σ before ts js s.instant
  pub few : s.instant < most_ticks
  pub room : length js ≤ length counts

-- what it leaves
pub record Ticked (σ : ℕ → Bool) (onward : Cursor → Cursor) (ts : List Task) (js : List Job) (s : RunState)
    (places : List Place) (counts : List ℕ) (s' : RunState) (places' : List Place) (counts' : List ℕ) : Type 0 where
  pub moved : whole s' places' ≡ tick_of σ onward ts js (whole s places)
  pub counted : counts' ≡ noted js s'.instant s'.done counts

-- ---- a run of n ticks

-- what it begins with
pub record Begins (js : List Job) (counts : List ℕ) : Type 0 where
  pub room : length js ≤ length counts
  pub clear : (j : ℕ) → j < length js → get_or counts j 0 ≡ 0

-- a job is late at instant k, where the run ends
pub record MissedAt (σ : ℕ → Bool) (before : ℕ → ℕ → Bool) (ts : List Task) (js : List Job) (k end : ℕ) : Type 0 where
  pub job : ℕ
  pub lowest : first (late ts js k (work_left σ before js k)) (length js) ≡ some job
  pub is : outcome σ before ts js k ≡ missed k job
  pub ended : end ≡ k

-- what it keeps, where it began with the buffer d: it goes on to n, or a job is late at its end
pub record Going (σ : ℕ → Bool) (before : ℕ → ℕ → Bool) (ts : List Task)
    (js : List Job) (n : ℕ) (d : List ℕ) (s : RunState) (places : List Place) (counts : List ℕ) : Type 0 where
  pub at : At σ before ts js s.instant s places
  pub kept : Kept (count σ before js s.instant) (length js) d counts
  pub within : s.instant ≤ n
  pub goes : ((s.end ≡ n) × (outcome σ before ts js s.instant ≡ met) × OnTime σ before ts js s.instant)
      ⊎ MissedAt σ before ts js s.instant s.end

-- it is over
pub record Over (σ : ℕ → Bool) (before : ℕ → ℕ → Bool) (ts : List Task)
    (js : List Job) (n : ℕ) (d : List ℕ) (s : RunState) (places : List Place) (counts : List ℕ) : Type 0 where
  pub going : Going σ before ts js n d s places counts
  pub ended : s.end ≤ s.instant

-- ---- the same, of a course: what `tick` and `step` ask and say, and what `advance` says

abbrev pub ReadyFor : Course → RunState → (places : List Place) (counts : List ℕ) → Type 0
ReadyFor r s places counts =
    let σ = supplied_by (framed r.table.frame) r.table.windows.now in
    let ts = tasks_of r.tasks.now in
    let js = jobs_of r.jobs.now in
    OnTable (framed r.table.frame) r.table.windows.now s × Ready σ (rule ts js) ts js s places counts

abbrev pub TickedFor : Course → RunState → (places : List Place) (counts : List ℕ) → RunState → (places' : List Place) (counts' : List ℕ) → Type 0
TickedFor r =
    let b = framed r.table.frame in
    let ws = r.table.windows.now in
    Ticked (supplied_by b ws) (after b ws) (tasks_of r.tasks.now) (jobs_of r.jobs.now)

abbrev pub OverFor : Course → List ℕ → RunState → (places : List Place) (counts : List ℕ) → Type 0
OverFor r =
    let ts = tasks_of r.tasks.now in
    let js = jobs_of r.jobs.now in
    Over (supplied_by (framed r.table.frame) r.table.windows.now) (rule ts js) ts js r.ticks
