-- The laws of a course that the walk over its ticks uses. The walk knows nothing else of what the contracts of `step`, `tick` and `advance` say: where the
-- definitions are others, this file alone is to be changed.
use mathlib.Core.Path.{◌≡◌, refl, sym, ap, ◌∙◌, subst}
use mathlib.Core.Bool.{Bool}
use mathlib.Core.List.{List, ◌++◌}
use Prim.Native.Nat.{ℕ, ◌-◌, ◌/◌, ◌≤◌, ◌<◌}
use native.Mathlib.Omega.{arith}
use lib.ListN.{length, take, drop, replicate}
use lib.Seq.{length-take-le}
use Rattle.std.specs.declared.option.Option.{Option}
use Rattle.std.specs.declared.option.Option.TheVariants.{Some, None}
use Rattle.scope.specs.Limits.{most_tasks}
use Rattle.scope.specs.Windows.{framed, supplied_by}
use Rattle.scope.specs.Tasks.{tasks_of}
use Rattle.scope.specs.Jobs.{job, jobs_of}
use Rattle.scope.specs.Run.{Outcome.met, Outcome.missed}
use Rattle.theory.specs.Lists.{pieces_length}
use Rattle.tables.proofs.CursorLaws.{at_begin}
use Rattle.machine.specs.declared.places.Place.{Place}
use Rattle.machine.specs.declared.course.Course.{Course}
use Rattle.machine.specs.declared.state.RunState.{RunState}
use Rattle.machine.specs.Places.{all_places, nowhere, late_to}
use Rattle.machine.specs.State.{begun}
use Rattle.machine.specs.Rule.{rule}
use Rattle.machine.specs.Relation.{OnTable, Kept, zeros, Begins, Going, ReadyFor, TickedFor, OverFor}
use Rattle.machine.proofs.Buffer.{kept_filled}
use Rattle.machine.proofs.Pick.{chosen_follows}
use Rattle.machine.proofs.Running.{going_first, going_ready, going_next, Ended, begins_run, run_ends}
use Rattle.machine.proofs.Stepping.{table_next}

-- what holds between two ticks, with d the counts before the first
abbrev pub GoingFor : Course → List ℕ → RunState → (places : List Place) (counts : List ℕ) → Type 0
GoingFor r d s places counts =
    let σ = supplied_by (framed r.table.frame) r.table.windows.now in
    let ts = tasks_of r.tasks.now in
    let js = jobs_of r.jobs.now in
    OnTable (framed r.table.frame) r.table.windows.now s × Going σ (rule ts js) ts js r.ticks d s places counts

-- a run, where the counts are d and the places p₀ when it begins
module _ (r : Course) (d : List ℕ) (p₀ : List Place) (size : length p₀ ≡ all_places) (begins : Begins (jobs_of r.jobs.now) d) where
  pub at_first : (s : RunState) → s ≡ begun r.ticks → GoingFor r d s p₀ d
  at_first s e = subst (λ (z : RunState). GoingFor r d z p₀ d) (sym e) (
    record { cursor = at_begin _ _ },
    going_first _ (rule (tasks_of r.tasks.now) (jobs_of r.jobs.now)) _ _ r.group r.list _ r.few d p₀ size begins,
  )

  module _ (s : RunState) (ps : List Place) (cs : List ℕ) (g : GoingFor r d s ps cs) where
    pub is_ready : s.instant < s.end → ReadyFor r s ps cs
    is_ready more = (g.0, going_ready _ _ _ _ r.group r.list _ r.few d p₀ size begins s ps cs g.1 more)

    pub goes_next : s.instant < s.end → (s' : RunState) (ps' : List Place) (cs' : List ℕ) → TickedFor r s ps cs s' ps' cs' →
        GoingFor r d s' ps' cs' × (s'.end - s'.instant < s.end - s.instant)
    goes_next more s' ps' cs' ticked =
        let y = going_next _ _ _ _ r.group r.list _ r.few d p₀ size begins s ps cs g.1 more _ (chosen_follows _ _ r.group r.list) s' ps' cs' ticked in
        ((table_next _ _ _ _ _ r.group r.list s ps cs g.0 (is_ready more).1 s' ps' cs' ticked, y.0), y.1)

-- a run from the lent buffer b, of which the front is filled with zeros: z
module _ (r : Course) (b z : List ℕ) (roomy : length (jobs_of r.jobs.now) ≤ length b) (filled : z ≡ replicate (length (take (length r.jobs.now / 3) b)) 0) where
  abbrev m : ℕ
  m = length r.jobs.now / 3

  abbrev d : List ℕ
  d = z ++ drop m b

  front : length (take m b) ≡ m
  front = length-take-le m b (omega (arith, roomy, pieces_length _ 3 job r.jobs.now))

  cleared : Kept zeros m b d
  cleared = kept_filled m b z (omega (arith, roomy, pieces_length _ 3 job r.jobs.now)) (filled ∙ ap (λ (n : ℕ). replicate n 0) front)

  pub begins_course : Begins (jobs_of r.jobs.now) d
  begins_course = begins_run r.jobs.now b d roomy cleared

  -- what it answers and writes under a rule that is the machine's: o is the late job that it finds at the end, if there is one
  pub course_ends : (before : ℕ → ℕ → Bool) → rule (tasks_of r.tasks.now) (jobs_of r.jobs.now) ≡ before →
      (s : RunState) (p : List Place) (c : List ℕ) → OverFor r d s p c → (o : Option ℕ) → o ≡ late_to s.pending.bits p s.instant most_tasks →
      let σ = supplied_by (framed r.table.frame) r.table.windows.now in
      let Ends = Ended σ before (tasks_of r.tasks.now) r.jobs.now r.ticks b d (replicate all_places nowhere) in
      (o ≡ None → Ends c met s.backlog) × ((j : ℕ) → o ≡ Some j → Ends c (missed s.instant j) s.backlog)
  course_ends before tied s p c over o is =
      let σ = supplied_by (framed r.table.frame) r.table.windows.now in
      subst (λ (by : ℕ → ℕ → Bool). let Ends = Ended σ by (tasks_of r.tasks.now) r.jobs.now r.ticks b d (replicate all_places nowhere) in
      (o ≡ None → Ends c met s.backlog) × ((j : ℕ) → o ≡ Some j → Ends c (missed s.instant j) s.backlog)) tied
      (run_ends σ _ _ r.jobs.now _ b d (replicate all_places nowhere) r.group r.list r.few roomy cleared refl s p c over o is)
