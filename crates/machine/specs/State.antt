-- The code's state, in its own terms: what each part of a tick does
use Rattle.std.specs.Prelude.{Bool, cond, List, ℕ, zero, suc, ◌+◌, ◌-◌, min, max, eqb, ltb, length}
use Rattle.std.specs.declared.option.Option.{Option}
use Rattle.std.specs.declared.option.Option.TheVariants.{Some, None}
use Rattle.scope.specs.Limits.{most_tasks, most_number}
use Rattle.scope.specs.Tasks.{Task, task_at}
use Rattle.scope.specs.Jobs.{Job, job_at, release_of}
use Rattle.tables.specs.declared.cursor.Cursor.{Cursor}
use Rattle.tables.specs.Cursors.{begin}
use Rattle.machine.specs.declared.places.Place.{Place}
use Rattle.machine.specs.Bits.{added, removed, members}
use Rattle.machine.specs.Places.{put_at, served_at, ended_at, soonest_of, late_to}
use Rattle.machine.specs.Rule.{choice}
use Rattle.machine.specs.declared.state.RunState.{RunState}

-- the state with the places of the tasks
pub record Whole : Type 0 where
  pub state : RunState
  pub places : List Place

abbrev pub whole : RunState → List Place → Whole
whole s p = record { state = s; places = p }

-- before the first of n ticks
abbrev pub begun : ℕ → RunState
begun n = record { instant = 0; end = n; cursor = begin; next = 0; pending = record { bits = 0 }; backlog = 0; soon = most_number; done = None }

-- the next job is released: it is of task i, and due at d
abbrev pub admitted_of : ℕ → ℕ → RunState → RunState
admitted_of i d s = record {
  instant = s.instant;
  end = s.end;
  cursor = s.cursor;
  next = s.next + 1;
  pending = record { bits = added s.pending.bits i };
  backlog = s.backlog;
  soon = min s.soon d;
  done = s.done;
}

-- it takes its place
abbrev pub next_of : List Task → Job → Whole → Whole
next_of ts x w =
    let d = x.release + (task_at ts x.task).D in
    whole (admitted_of x.task d w.state) (put_at w.places x.task x.work d w.state.next)

-- the jobs that are released at the instant take their places, at most f of them
unfoldable pub feed : List Task → List Job → ℕ → Whole → Whole
feed ts js zero w = w
feed ts js (suc f) w =
    let more = feed ts js f (next_of ts (job_at js w.state.next) w) in
    cond (eqb (release_of js w.state.next) w.state.instant) more w

unfoldable pub release_at : List Task → List Job → Whole → Whole
release_at ts js w = feed ts js (length js - w.state.next) w

-- the backlog is counted
abbrev pub counted_of : RunState → RunState
counted_of s = record {
  instant = s.instant;
  end = s.end;
  cursor = s.cursor;
  next = s.next;
  pending = s.pending;
  backlog = max s.backlog (members s.pending.bits);
  soon = s.soon;
  done = s.done;
}

-- the task that a tick goes to: the one that is chosen, if the tick is supplied; or none
unfoldable pub goes_to_of : Bool → ℕ → List Place → Option ℕ
goes_to_of on pending places = cond on (choice pending places) None

-- the tasks that are pending after a tick that went to task i, if to one, whose job `done` ended, if one did
abbrev pub pending_of : Option ℕ → Option ℕ → ℕ → ℕ
pending_of None _ pending = pending
pending_of (Some i) None pending = pending
pending_of (Some i) (Some j) pending = removed pending i

-- the tick is done; c is the cursor of the next tick
abbrev pub worked_of : Option ℕ → Option ℕ → Cursor → RunState → RunState
worked_of i done c s = record {
  instant = s.instant + 1;
  end = s.end;
  cursor = c;
  next = s.next;
  pending = record { bits = pending_of i done s.pending.bits };
  backlog = s.backlog;
  soon = s.soon;
  done = done;
}

-- the run's end: the instant k, where a job is late there
abbrev pub end_of : Option ℕ → ℕ → ℕ → ℕ
end_of None k end = end
end_of (Some j) k end = k

-- a late job ends the run; none is late before `soon`
unfoldable pub tested_of : List Place → RunState → RunState
tested_of places s = cond (ltb s.instant s.soon) s (record {
  instant = s.instant;
  end = end_of (late_to s.pending.bits places s.instant most_tasks) s.instant s.end;
  cursor = s.cursor;
  next = s.next;
  pending = s.pending;
  backlog = s.backlog;
  soon = soonest_of s.pending.bits places;
  done = s.done;
})

-- the end of a tick that goes to task i, if to one, once the jobs are released; c is the cursor of the next tick
abbrev pub finish_of : Option ℕ → Cursor → Whole → Whole
finish_of i c w =
    let places = served_at i w.places in
    whole (tested_of places (worked_of i (ended_at i w.places) c (counted_of w.state))) places

-- the whole tick, where σ says which ticks are supplied, and `onward` moves the cursor
unfoldable pub tick_of : (ℕ → Bool) → (Cursor → Cursor) → List Task → List Job → Whole → Whole
tick_of σ onward ts js w =
    let fed = release_at ts js w in
    finish_of (goes_to_of (σ w.state.instant) fed.state.pending.bits fed.places) (onward w.state.cursor) fed
