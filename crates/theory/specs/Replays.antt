-- What the answer to a trace says of it
use Rattle.std.specs.Prelude.{◌≡◌, refl, Bool, true, false, not, cond, ◌&&◌, ◌||◌, ◌≢◌, List, [], ◌∷◌, ◌++◌, ℕ, zero, suc, ◌-◌, ◌≤◌, ◌<◌, leb, ltb, eqb, length, take, drop}
use Rattle.std.proofs.Common.{sym, ◌∙◌, true≢false, arith, length-append, eqb-true, eq-eqb, leb-true, leb-false, ltb-false, le-ltb}
use Rattle.std.proofs.Math.Path.{ap}
use Rattle.std.proofs.Math.Option.{Option, none, some}
use Rattle.std.proofs.Math.Seq.{split_at, get_or-append_seam}
use Rattle.std.proofs.lemmas.Bool.{not-false}
use Rattle.scope.specs.Limits.{most_ticks, most_jobs}
use Rattle.scope.specs.Windows.{Board, supplied_by}
use Rattle.scope.specs.Tasks.{Task, tasks_of}
use Rattle.scope.specs.Verdict.{Verdict.meets}
use Rattle.scope.specs.Jobs.{Job, job, job_at, job_legal, bad_job}
use Rattle.scope.specs.Machine.{edf}
use Rattle.scope.specs.Run as Runs
use Rattle.scope.specs.Run.{Outcome, outcome, ticks_done}
use Rattle.scope.specs.Answers.{Fault, Fault.fine, Answer.given, table_fault, group_fault, ◌or_else◌, verdict_answer}
use Rattle.scope.specs.Plan.{Read.read}
use Rattle.scope.specs.Trace.{Stamped, trace_of, Record, timed, ticks_of, is_release, releases, Completion, completion, completions, record_at, in_turn}
use Rattle.scope.specs.Trace.{releases_before, record_legal, bad_record}
use Rattle.scope.specs.Replay.{ended_from, Difference, first_difference, lesser, Replayed, Replayed.same, Replayed.differs, Replayed.missed, named, replayed}
use Rattle.scope.specs.Replay.{extent_fault, record_fault, replay_fault, records_answer, replay_answer}
use Rattle.theory.specs.Numbers.{and_both, or_neither, first_none, none_first}
use Rattle.theory.specs.Answers.{fault_if_fine, fault_at_fine, or_else_fine, unless_given, LegalGroup, group_legal}
use Rattle.theory.specs.Run.{met_before}
use Rattle.theory.specs.Edf.{edf_meets}
use Rattle.theory.specs.Plan.{or_nine_given}

-- ---- a trace that is answered

pub record Replaying (b : Board) (ws ts bytes : List ℕ) (v : Replayed) : Type 0 where
  pub stamped : List Stamped
  pub end : ℕ
  pub reads : trace_of bytes ≡ read stamped end
  pub table : table_fault b ws ≡ fine
  pub group : LegalGroup ts
  pub ticks : ticks_of (timed stamped) ≤ most_ticks
  pub few : length (releases (timed stamped)) ≤ most_jobs
  pub legal : bad_record (tasks_of ts) (timed stamped) ≡ none
  pub is : replayed (supplied_by b ws) (edf (tasks_of ts) (releases (timed stamped))) (tasks_of ts) (timed stamped) ≡ v

pub replay_given : (b : Board) (ws ts bytes : List ℕ) (v : Replayed) → replay_answer b ws ts bytes ≡ given v → Replaying b ws ts bytes v
unfolding replay_answer records_answer replay_fault extent_fault record_fault
replay_given b ws ts bytes v e =
    or_nine_given (trace_of bytes) _ v e (λ stamped end reads q.
    let rs : List Record = timed stamped in
    let extent : Fault = extent_fault rs in
    let records : Fault = record_fault (tasks_of ts) rs in
    let u = unless_given (replay_fault b ws ts rs) _ v q in
    let p₁ = or_else_fine (table_fault b ws) (group_fault ts or_else extent or_else records) u.0 in
    let p₂ = or_else_fine (group_fault ts) (extent or_else records) p₁.1 in
    let p₃ = or_else_fine extent records p₂.1 in
    let n = or_neither (ltb most_ticks (ticks_of rs)) (ltb most_jobs (length (releases rs))) (fault_if_fine _ 10 0 p₃.0) in
    record {
      stamped = stamped;
      end = end;
      reads = reads;
      table = p₁.0;
      group = group_legal ts p₂.0;
      ticks = ltb-false most_ticks (ticks_of rs) n.0;
      few = ltb-false most_jobs (length (releases rs)) n.1;
      legal = fault_at_fine 11 (bad_record (tasks_of ts) rs) p₃.1;
      is = u.1;
    })

-- and records that pass every check are answered
pub records_given : (b : Board) (ws ts : List ℕ) (rs : List Record) → table_fault b ws ≡ fine → group_fault ts ≡ fine → ticks_of rs ≤ most_ticks →
    length (releases rs) ≤ most_jobs → bad_record (tasks_of ts) rs ≡ none →
    records_answer b ws ts rs ≡ given (replayed (supplied_by b ws) (edf (tasks_of ts) (releases rs)) (tasks_of ts) rs)
unfolding records_answer replay_fault extent_fault record_fault
records_given b ws ts rs table group ticks few legal =
    rw (table, group, le-ltb most_ticks (ticks_of rs) ticks, le-ltb most_jobs (length (releases rs)) few, legal)

-- ---- the comparison

abbrev alike : Completion → Completion → Bool
alike c m = eqb c.instant m.instant && eqb c.task m.task

alike_same : (c m : Completion) → alike c m ≡ true → c ≡ m
alike_same c m q =
    let p = and_both (eqb c.instant m.instant) (eqb c.task m.task) q in
    let z : completion c.instant c.task ≡ completion m.instant m.task =
    rw (eqb-true c.instant m.instant p.0, eqb-true c.task m.task p.1) in
    z

same_alike : (c m : Completion) → c ≡ m → alike c m ≡ true
same_alike c m z = rw z (rw (eq-eqb m.instant m.instant refl, eq-eqb m.task m.task refl))

-- there is no difference between lists exactly if they are one
pub no_difference : (cs ms : List Completion) → first_difference cs ms ≡ none → cs ≡ ms
unfolding first_difference
no_difference [] [] e = refl
no_difference [] (m ∷ ms) e = let z : ◌≡◌ {A = ℕ} 0 1 = cc in absurd (omega arith)
no_difference (c ∷ cs) [] e = let z : ◌≡◌ {A = ℕ} 0 1 = cc in absurd (omega arith)
no_difference (c ∷ cs) (m ∷ ms) e = go (alike c m) refl (no_difference cs ms) e
  where
    go : (t : Bool) → alike c m ≡ t → (first_difference cs ms ≡ none → cs ≡ ms) →
        cond t (first_difference cs ms) (some (record { trace = some c; machine = some m })) ≡ none → c ∷ cs ≡ m ∷ ms
    go true q ih h = rw (ih h, alike_same c m q)
    go false q ih h = let z : ◌≡◌ {A = ℕ} 0 1 = cc in absurd (omega arith)

pub no_difference_of : (cs : List Completion) → first_difference cs cs ≡ none
unfolding first_difference
no_difference_of [] = refl
no_difference_of (c ∷ cs) = rw (same_alike c c refl) (no_difference_of cs)

-- what a side of a difference stands before: a side that has ended is none
abbrev pub and_rest : Option Completion → List Completion → List Completion
and_rest none rest = []
and_rest (some c) rest = c ∷ rest

-- "the first completion that differs from the machine's in task or instant, with both": after a front that both sides have
pub record FirstPair (cs ms : List Completion) (d : Difference) : Type 0 where
  pub front : List Completion
  pub trace_rest : List Completion
  pub machine_rest : List Completion
  pub trace : cs ≡ front ++ and_rest d.trace trace_rest
  pub machine : ms ≡ front ++ and_rest d.machine machine_rest
  pub differ : d.trace ≢ d.machine

pub difference_is : (cs ms : List Completion) (d : Difference) → first_difference cs ms ≡ some d → FirstPair cs ms d
unfolding first_difference
difference_is [] [] d e = let z : ◌≡◌ {A = ℕ} 0 1 = cc in absurd (omega arith)
difference_is [] (m ∷ ms) d e =
    let z : record { trace = none; machine = some m } ≡ d = cc in
    rw (← z) (record {
      front = [];
      trace_rest = [];
      machine_rest = ms;
      trace = refl;
      machine = refl;
      differ = λ q. let y : ◌≡◌ {A = ℕ} 0 1 = cc in absurd (omega arith);
    })
difference_is (c ∷ cs) [] d e =
    let z : record { trace = some c; machine = none } ≡ d = cc in
    rw (← z) (record {
      front = [];
      trace_rest = cs;
      machine_rest = [];
      trace = refl;
      machine = refl;
      differ = λ q. let y : ◌≡◌ {A = ℕ} 0 1 = cc in absurd (omega arith);
    })
difference_is (c ∷ cs) (m ∷ ms) d e = go (alike c m) refl (difference_is cs ms d) e
  where
    go : (t : Bool) → alike c m ≡ t → (first_difference cs ms ≡ some d → FirstPair cs ms d) →
        cond t (first_difference cs ms) (some (record { trace = some c; machine = some m })) ≡ some d → FirstPair (c ∷ cs) (m ∷ ms) d
    go true q ih h =
        let f = ih h in
        record {
          front = c ∷ f.front;
          trace_rest = f.trace_rest;
          machine_rest = f.machine_rest;
          trace = ap (λ (l : List Completion). c ∷ l) f.trace;
          machine = ap (λ (x : Completion). x ∷ ms) (sym (alike_same c m q)) ∙ ap (λ (l : List Completion). c ∷ l) f.machine;
          differ = f.differ;
        }
    go false q ih h =
        let z : record { trace = some c; machine = some m } ≡ d = cc in
        rw (← z) (record {
          front = [];
          trace_rest = cs;
          machine_rest = ms;
          trace = refl;
          machine = refl;
          differ = λ r. let y : c ≡ m = cc in absurd (true≢false (sym (same_alike c m y) ∙ q));
        })

-- ---- the answer

named_same : (o : Outcome) (d : Option Difference) → named o d ≡ same → (o ≡ Runs.met) × (d ≡ none)
named_same Runs.met none e = (refl, refl)
named_same Runs.met (some d) e = let z : ◌≡◌ {A = ℕ} 0 1 = cc in absurd (omega arith)
named_same (Runs.missed k j) none e = let z : ◌≡◌ {A = ℕ} 0 1 = cc in absurd (omega arith)
named_same (Runs.missed k j) (some d) e = go (leb k (lesser d.trace d.machine)) e
  where
    go : (t : Bool) → cond t (missed k j) (differs d.trace d.machine) ≡ same → (Runs.missed k j ≡ Runs.met) × (some d ≡ none)
    go true q = let z : ◌≡◌ {A = ℕ} 0 1 = cc in absurd (omega arith)
    go false q = let z : ◌≡◌ {A = ℕ} 0 1 = cc in absurd (omega arith)

module _ (k j : ℕ) where
  named_missed : (o : Outcome) (d : Option Difference) → named o d ≡ missed k j →
      (o ≡ Runs.missed k j) × ((f : Difference) → d ≡ some f → k ≤ lesser f.trace f.machine)
  named_missed Runs.met none e = let z : ◌≡◌ {A = ℕ} 0 1 = cc in absurd (omega arith)
  named_missed Runs.met (some d) e = let z : ◌≡◌ {A = ℕ} 0 1 = cc in absurd (omega arith)
  named_missed (Runs.missed n i) none e =
      let z : n ≡ k = cc in
      let y : i ≡ j = cc in
      (rw (z, y), λ f q. let x : ◌≡◌ {A = ℕ} 0 1 = cc in absurd (omega arith))
  named_missed (Runs.missed n i) (some d) e = go (leb n (lesser d.trace d.machine)) refl e
    where
      go : (t : Bool) → leb n (lesser d.trace d.machine) ≡ t → cond t (missed n i) (differs d.trace d.machine) ≡ missed k j →
          (Runs.missed n i ≡ Runs.missed k j) × ((f : Difference) → some d ≡ some f → k ≤ lesser f.trace f.machine)
      go true l q =
          let z : n ≡ k = cc in
          let y : i ≡ j = cc in
          (rw (z, y), λ f h. let x : d ≡ f = cc in rw (← x) (omega (arith, leb-true n (lesser d.trace d.machine) l)))
      go false l q = let z : ◌≡◌ {A = ℕ} 0 1 = cc in absurd (omega arith)

module _ (c m : Option Completion) where
  named_differs : (o : Outcome) (d : Option Difference) → named o d ≡ differs c m →
      (d ≡ some (record { trace = c; machine = m })) × ((k j : ℕ) → o ≡ Runs.missed k j → lesser c m < k)
  named_differs Runs.met none e = let z : ◌≡◌ {A = ℕ} 0 1 = cc in absurd (omega arith)
  named_differs Runs.met (some d) e =
      let z : d.trace ≡ c = cc in
      let y : d.machine ≡ m = cc in
      (rw (← z, ← y), λ k j q. let x : ◌≡◌ {A = ℕ} 0 1 = cc in absurd (omega arith))
  named_differs (Runs.missed n i) none e = let z : ◌≡◌ {A = ℕ} 0 1 = cc in absurd (omega arith)
  named_differs (Runs.missed n i) (some d) e = go (leb n (lesser d.trace d.machine)) refl e
    where
      go : (t : Bool) → leb n (lesser d.trace d.machine) ≡ t → cond t (missed n i) (differs d.trace d.machine) ≡ differs c m →
          (some d ≡ some (record { trace = c; machine = m })) × ((k j : ℕ) → Runs.missed n i ≡ Runs.missed k j → lesser c m < k)
      go true l q = let z : ◌≡◌ {A = ℕ} 0 1 = cc in absurd (omega arith)
      go false l q =
          let z : d.trace ≡ c = cc in
          let y : d.machine ≡ m = cc in
          (rw (← z, ← y), λ k j h. let x : n ≡ k = cc in rw (← z, ← y) (omega (arith, leb-false n (lesser d.trace d.machine) l)))

-- ---- records held against the machine, over any pattern σ and any rule

module _ (σ : ℕ → Bool) (before : ℕ → ℕ → Bool) (ts : List Task) (rs : List Record) where
  -- the instant of the last record, the machine's outcome there, and its completions up to there or to its miss
  abbrev pub last : ℕ
  last = ticks_of rs - 1

  abbrev pub ran_to : Outcome
  ran_to = outcome σ before ts (releases rs) last

  abbrev pub machine_ended : List Completion
  machine_ended = ended_from σ before (releases rs) 0 (ticks_done ran_to last)

  -- "with neither, the answer is same": the completions are the machine's, and it misses no deadline
  pub replayed_same : replayed σ before ts rs ≡ same → (completions rs ≡ ended_from σ before (releases rs) 0 last) × (ran_to ≡ Runs.met)
  unfolding replayed
  replayed_same e =
      let n = named_same ran_to (first_difference (completions rs) machine_ended) e in
      let z : completions rs ≡ machine_ended = no_difference (completions rs) machine_ended n.1 in
      (z ∙ ap (λ (o : Outcome). ended_from σ before (releases rs) 0 (ticks_done o last)) n.0, n.0)

  -- the first pair that differs is named, and any miss is later than the lesser of its instants
  pub replayed_differs : (c m : Option Completion) → replayed σ before ts rs ≡ differs c m →
      FirstPair (completions rs) machine_ended (record { trace = c; machine = m }) × ((k j : ℕ) → ran_to ≡ Runs.missed k j → lesser c m < k)
  unfolding replayed
  replayed_differs c m e =
      let n = named_differs c m ran_to (first_difference (completions rs) machine_ended) e in
      (difference_is (completions rs) machine_ended _ n.0, n.1)

  -- a difference has a side
  pub replayed_sides : replayed σ before ts rs ≡ differs none none → ⊥
  replayed_sides e = (replayed_differs none none e).0.differ refl

  -- "a machine miss up to that instant, and no later than the lesser instant of any difference, is named instead"
  pub replayed_missed : (k j : ℕ) → replayed σ before ts rs ≡ missed k j →
      (ran_to ≡ Runs.missed k j)
      × ((d : Difference) → first_difference (completions rs) machine_ended ≡ some d → k ≤ lesser d.trace d.machine)
  unfolding replayed
  replayed_missed k j e = named_missed k j ran_to (first_difference (completions rs) machine_ended) e

-- "same": the trace's completions are the machine's up to the last record's instant, and the machine misses no deadline up to it
pub same_completions : (b : Board) (ws ts bytes : List ℕ) (r : Replaying b ws ts bytes same) →
    let rs = timed r.stamped in
    let js = releases rs in
    (completions rs ≡ ended_from (supplied_by b ws) (edf (tasks_of ts) js) js 0 (ticks_of rs - 1))
    × (outcome (supplied_by b ws) (edf (tasks_of ts) js) (tasks_of ts) js (ticks_of rs - 1) ≡ Runs.met)
same_completions b ws ts bytes r =
    let rs = timed r.stamped in
    replayed_same (supplied_by b ws) (edf (tasks_of ts) (releases rs)) (tasks_of ts) rs r.is

-- ---- releases

pub releases_append : (l m : List Record) → releases (l ++ m) ≡ releases l ++ releases m
unfolding releases
releases_append [] m = refl
releases_append (r ∷ l) m = go (is_release r) (releases_append l m)
  where
    go : (t : Bool) → releases (l ++ m) ≡ releases l ++ releases m →
        cond t (job r.instant r.task r.work ∷ releases (l ++ m)) (releases (l ++ m))
        ≡ cond t (job r.instant r.task r.work ∷ releases l) (releases l) ++ releases m
    go true ih = rw ih
    go false ih = ih

-- a release is the job at its place among the releases
pub release_is : (rs : List Record) (i : ℕ) → i < length rs → is_release (record_at rs i) ≡ true →
    (releases_before rs i < length (releases rs))
    × (job_at (releases rs) (releases_before rs i) ≡ job (record_at rs i).instant (record_at rs i).task (record_at rs i).work)
unfolding releases
release_is rs i l e =
    let r = record_at rs i in
    let x : Job = job r.instant r.task r.work in
    let front = take i rs in
    let rest = drop (suc i) rs in
    let z : releases rs ≡ releases front ++ x ∷ releases rest =
    ap releases (split_at rs i _ l) ∙ releases_append front (r ∷ rest) ∙ rw e in (
      omega (arith, ap length z, length-append (releases front) (x ∷ releases rest)),
      ap (λ (js : List Job). job_at js (length (releases front))) z ∙ get_or-append_seam (releases front) x (releases rest) _,
    )

-- and every job is one
pub record ReleaseOf (rs : List Record) (j : ℕ) : Type 0 where
  pub index : ℕ
  pub below : index < length rs
  pub release : is_release (record_at rs index) ≡ true
  pub place : releases_before rs index ≡ j

pub release_of_lem : (rs : List Record) (j : ℕ) → j < length (releases rs) → ReleaseOf rs j
unfolding releases
release_of_lem [] j l = absurd (omega arith)
release_of_lem (r ∷ rs) j l = go (is_release r) refl (release_of_lem rs) j l
  where
    go : (t : Bool) → is_release r ≡ t → ((j : ℕ) → j < length (releases rs) → ReleaseOf rs j) →
        (j : ℕ) → j < length (cond t (job r.instant r.task r.work ∷ releases rs) (releases rs)) → ReleaseOf (r ∷ rs) j
    go true e ih zero h = record { index = 0; below = omega arith; release = e; place = refl }
    go true e ih (suc j) h =
        let f = ih j (omega arith) in
        record { index = suc f.index; below = omega (arith, f.below); release = f.release; place = rw e (ap suc f.place) }
    go false e ih j h =
        let f = ih j h in
        record { index = suc f.index; below = omega (arith, f.below); release = f.release; place = rw e f.place }

record_legal_lem : (ts : List Task) (rs : List Record) → bad_record ts rs ≡ none → (i : ℕ) → i < length rs → record_legal ts rs i ≡ true
unfolding bad_record
record_legal_lem ts rs e i l = not-false (record_legal ts rs i) (first_none (λ i. not (record_legal ts rs i)) (length rs) e i l)

-- the releases of a trace that keeps the rules are a legal job list for a run of n ticks
pub jobs_legal : (ts : List Task) (rs : List Record) → bad_record ts rs ≡ none → bad_job ts (ticks_of rs) (releases rs) ≡ none
unfolding bad_job record_legal
jobs_legal ts rs e = none_first (λ j. not (job_legal ts (ticks_of rs) (releases rs) j)) (length (releases rs)) (λ j l.
    let f = release_of_lem rs j l in
    let i : ℕ = f.index in
    let p = and_both (in_turn rs i) (not (is_release (record_at rs i)) || job_legal ts (ticks_of rs) (releases rs) (releases_before rs i))
    (record_legal_lem ts rs e i f.below) in
    let legal : job_legal ts (ticks_of rs) (releases rs) (releases_before rs i) ≡ true = rw f.release at p.1 in
    rw (rw f.place at legal))

-- ---- where the verdict is "meets"

-- no trace that keeps the rules shows a miss of the machine
pub meets_no_miss : (b : Board) (ws ts bytes : List ℕ) (H k j : ℕ) →
    verdict_answer b ws ts ≡ given (meets H) → replay_answer b ws ts bytes ≡ given (missed k j) → ⊥
meets_no_miss b ws ts bytes H k j met given-miss =
    let r = replay_given b ws ts bytes (missed k j) given-miss in
    let rs : List Record = timed r.stamped in
    let js : List Job = releases rs in
    let σ = supplied_by b ws in
    let before = edf (tasks_of ts) js in
    let m = (edf_meets b ws ts H met (ticks_of rs) js (jobs_legal (tasks_of ts) rs r.legal)).0 in
    let o = met_before σ before js (tasks_of ts) (ticks_of rs - 1) (ticks_of rs) (omega arith) m in
    let q : Runs.met ≡ Runs.missed k j = sym o ∙ (replayed_missed σ before (tasks_of ts) rs k j r.is).0 in
    let z : ◌≡◌ {A = ℕ} 0 1 = cc in
    omega arith
