-- A tick as the code makes it, part by part: what each part needs, and that together they are the tick
use mathlib.Core.Path.{◌≡◌, refl, sym, ap, ◌∙◌}
use mathlib.Core.Bool.{Bool, true, false, cond}
use mathlib.Core.List.{List}
use Prim.Native.Nat.{ℕ, ◌+◌, ◌^◌, ◌<◌}
use native.Mathlib.Omega.{arith}
use lib.Dec.{ltb}
use lib.ListN.{length}
use Rattle.std.specs.declared.option.Option.{Option}
use Rattle.std.specs.declared.option.Option.TheVariants.{Some}
use Rattle.scope.specs.Limits.{most_tasks}
use Rattle.scope.specs.Windows.{Board, supplied_by}
use Rattle.scope.specs.Tasks.{Task}
use Rattle.scope.specs.Jobs.{Job}
use Rattle.jobs.specs.Legal.{Tasks, Jobs}
use Rattle.tables.specs.declared.cursor.Cursor.{Cursor}
use Rattle.tables.specs.Cursors.{after}
use Rattle.tables.proofs.CursorLaws.{at_next}
use Rattle.machine.specs.declared.places.Place.{Place}
use Rattle.machine.specs.declared.state.RunState.{RunState}
use Rattle.machine.specs.Bits.{mem, IsTask}
use Rattle.machine.specs.Places.{all_places, due_at, served_at, ended_at}
use Rattle.machine.specs.State.{Whole, whole, release_at, counted_of, goes_to_of, worked_of, tested_of, tick_of}
use Rattle.machine.specs.Relation.{OnTable, noted, Noting, Ready, Ticked}
use Rattle.machine.proofs.Walk.{pick_task}
use Rattle.machine.proofs.Pick.{Follows}
use Rattle.machine.proofs.Ticking.{fed_holds}
use Rattle.machine.proofs.Running.{can_note}

-- the miss test keeps the instant, the cursor and the job that ended
abbrev Keeps : (s t : RunState) → Type 0
Keeps s t = (t.instant ≡ s.instant) × (t.cursor ≡ s.cursor) × (t.done ≡ s.done)

tested_keeps : (p : List Place) (s : RunState) → Keeps s (tested_of p s)
unfolding tested_of
tested_keeps p s = go (ltb s.instant s.soon) _ (refl, refl, refl)
  where
    go : (b : Bool) (t : RunState) → Keeps s t → Keeps s (cond b s t)
    go true t e = (refl, refl, refl)
    go false t e = e

-- a tick goes to a task, or to none
pub goes_task : (on : Bool) (pending : ℕ) (places : List Place) → IsTask (goes_to_of on pending places)
unfolding goes_to_of
goes_task true pending places = pick_task (mem pending) (due_at places) most_tasks (omega arith)
goes_task false pending places = tt

-- what is known once the tick is given out: the state and the places once the jobs are released, the state once the backlog is counted, whether
-- the tick is supplied and the cursor of the next one, the task that it goes to, the job that ended, and the places then
pub record GivenOut (σ : ℕ → Bool) (onward : Cursor → Cursor) (before : ℕ → ℕ → Bool)
    (ts : List Task) (js : List Job) (s : RunState) (p : List Place) (c : List ℕ) : Type 0 where
  pub ready : Ready σ before ts js s p c
  pub fed : RunState
  pub fed_places : List Place
  pub counted : RunState
  pub on : Bool
  pub cursor : Cursor
  pub task : Option ℕ
  pub done : Option ℕ
  pub places : List Place
  pub released : whole fed fed_places ≡ release_at ts js (whole s p)
  pub backlog : counted ≡ counted_of fed
  pub supplied : on ≡ σ s.instant
  pub moves : cursor ≡ onward s.cursor
  pub goes : task ≡ goes_to_of on fed.pending.bits fed_places
  pub ended : done ≡ ended_at task fed_places
  pub served : places ≡ served_at task fed_places

module _ (σ : ℕ → Bool) (before : ℕ → ℕ → Bool) (ts : List Task) (js : List Job) (tasks : Tasks ts) (legal : Jobs ts js) (s : RunState) (p : List Place) (c : List ℕ) where
  -- what is released keeps its relation, so that the places are as many, and the instant is the same
  pub still_all : Ready σ before ts js s p c → (f : RunState) (q : List Place) → whole f q ≡ release_at ts js (whole s p) →
      (length q ≡ all_places) × (f.instant ≡ s.instant)
  still_all ready f q e =
      let y = fed_holds ts js tasks legal σ before s p ready.at ready.ontime in
      (ap (λ (w : Whole). length w.places) e ∙ y.0, ap (λ (w : Whole). w.state.instant) e ∙ y.1)

  -- the cursor goes on as the instant does
  goes_on : Ready σ before ts js s p c → (onward : Cursor → Cursor) (s' : RunState) (p' : List Place) (c' : List ℕ) → Ticked σ onward ts js s p c s' p' c' →
      (s'.instant ≡ s.instant + 1) × (s'.cursor ≡ onward s.cursor)
  unfolding tick_of
  goes_on ready onward s' p' c' ticked =
      let is : s' ≡ (tick_of σ onward ts js (whole s p)).state = ap (λ (w : Whole). w.state) ticked.moved in
      rw is ((tested_keeps _ _).0 ∙ ap (λ (k : ℕ). k + 1) (still_all ready _ _ refl).1, (tested_keeps _ _).1)

  module _ (onward : Cursor → Cursor) (x : GivenOut σ onward before ts js s p c) where
    at_instant : x.counted.instant ≡ s.instant
    at_instant = ap (λ (y : RunState). y.instant) x.backlog ∙ (still_all x.ready x.fed x.fed_places x.released).1

    pub can_work : (x.counted.instant + 1 < 2 ^ 32) × IsTask x.task
    can_work = (omega (arith, at_instant, x.ready.few), rw x.goes (goes_task x.on x.fed.pending.bits x.fed_places))

    module _ (w : RunState) (ew : w ≡ worked_of x.task x.done x.cursor x.counted) where
      -- the state and the places are those of the tick
      moved : whole (tested_of x.places w) x.places ≡ tick_of σ onward ts js (whole s p)
      unfolding tick_of
      moved =
          let ef : x.fed ≡ (release_at ts js (whole s p)).state = ap (λ (y : Whole). y.state) x.released in
          let eq : x.fed_places ≡ (release_at ts js (whole s p)).places = ap (λ (y : Whole). y.places) x.released in
          rw (ew, x.served, x.ended, x.goes, x.moves, x.supplied, x.backlog, ef, eq)

      done_is : w.done ≡ (tick_of σ onward ts js (whole s p)).state.done
      done_is = sym (tested_keeps x.places w).2 ∙ ap (λ (y : Whole). y.state.done) moved

      pub may_note : Follows before ts js → (j : ℕ) → w.done ≡ Some j → Noting js w.instant j c
      may_note follows j l =
          let ready = x.ready in
          let n : w.instant ≡ s.instant + 1 = omega (arith, ap (λ (y : RunState). y.instant) ew, at_instant) in
          rw n
          (can_note σ before ts js tasks legal onward follows s p ready.at ready.ontime c ready.room j (sym done_is ∙ l))

      pub step_is : (r : RunState) (c' : List ℕ) → r ≡ tested_of x.places w → c' ≡ noted js w.instant w.done c →
          Ticked σ onward ts js s p c r x.places c'
      step_is r c' er ec =
          let keeps = tested_keeps x.places w in
          let at : r.instant ≡ w.instant = ap (λ (y : RunState). y.instant) er ∙ keeps.0 in
          let end : r.done ≡ w.done = ap (λ (y : RunState). y.done) er ∙ keeps.2 in
          record { moved = ap (λ (y : RunState). whole y x.places) er ∙ moved; counted = rw (at, end) ec }

-- a tick leaves the state on its table: the cursor has gone on with the instant
pub table_next : (b : Board) (ws : List ℕ) (before : ℕ → ℕ → Bool) (ts : List Task) (js : List Job) (tasks : Tasks ts) (legal : Jobs ts js) (s : RunState) (p : List Place) (c : List ℕ) →
    OnTable b ws s → Ready (supplied_by b ws) before ts js s p c →
    (s' : RunState) (p' : List Place) (c' : List ℕ) → Ticked (supplied_by b ws) (after b ws) ts js s p c s' p' c' → OnTable b ws s'
table_next b ws before ts js tasks legal s p c on ready s' p' c' ticked =
    let e = goes_on (supplied_by b ws) before ts js tasks legal s p c ready (after b ws) s' p' c' ticked in
    record { cursor = rw e.0 (at_next b ws s.instant s.cursor s'.cursor on.cursor e.1) }
