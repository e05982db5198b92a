-- The places of the tasks, in the code's own terms: for each task the work left of its pending job, that job's deadline and its index
use Rattle.std.specs.Prelude.{Bool, true, ◌&&◌, cond, List, ℕ, zero, suc, ◌-◌, eqb, ltb, leb, get_or, set}
use Rattle.std.specs.declared.option.Option.{Option}
use Rattle.std.specs.declared.option.Option.TheVariants.{Some, None}
use Rattle.scope.specs.Limits.{most_tasks, most_number}
use Rattle.machine.specs.declared.places.Place.{Place}
use Rattle.machine.specs.Bits.{mem, pick_to}

-- how many they are
abbrev pub all_places : ℕ
all_places = most_tasks

-- one that no job has taken
abbrev pub nowhere : Place
nowhere = record { left = 0; due = 0; job = 0 }

abbrev pub left_at : List Place → ℕ → ℕ
left_at places i = (get_or places i nowhere).left

abbrev pub due_at : List Place → ℕ → ℕ
due_at places i = (get_or places i nowhere).due

abbrev pub held_at : List Place → ℕ → ℕ
held_at places i = (get_or places i nowhere).job

-- job j, with its work and its deadline, takes the place of task i
unfoldable pub put_at : List Place → ℕ → ℕ → ℕ → ℕ → List Place
put_at places i work due j = set places i (record { left = work; due = due; job = j })

-- the job of task i, if there is one, gets a tick of work
unfoldable pub served_at : Option ℕ → List Place → List Place
served_at None places = places
served_at (Some i) places = set places i (record { left = left_at places i - 1; due = due_at places i; job = held_at places i })

-- the job that ends by that; or none
unfoldable pub ended_at : Option ℕ → List Place → Option ℕ
ended_at None places = None
ended_at (Some i) places = cond (eqb (left_at places i) 1) (Some (held_at places i)) None

-- the deadline of a task's job; the greatest number of none
abbrev pub due_of : List Place → Option ℕ → ℕ
due_of places None = most_number
due_of places (Some i) = due_at places i

-- the least deadline of a pending task; the greatest number where none is pending
unfoldable pub soonest_of : ℕ → List Place → ℕ
soonest_of pending places = due_of places (pick_to (mem pending) (due_at places) most_tasks)

-- whether a job is lower than the best so far, if there is one
abbrev pub lower_than : Option ℕ → ℕ → Bool
lower_than None j = true
lower_than (Some b) j = ltb j b

-- the lower of the lowest late job so far and task i's job j, where it is pending and due at instant t or before
unfoldable pub lower_in : ℕ → ℕ → ℕ → ℕ → ℕ → Option ℕ → Option ℕ
lower_in pending due j t i best = cond (mem pending i && leb due t && lower_than best j) (Some j) best

-- the lowest job among the late ones of the tasks below n; or none
unfoldable pub late_to : ℕ → List Place → ℕ → ℕ → Option ℕ
late_to pending places t zero = None
late_to pending places t (suc n) = lower_in pending (due_at places n) (held_at places n) t n (late_to pending places t n)
