-- What a legal job list keeps
use Rattle.std.specs.Prelude.{◌≡◌, Bool, true, false, not, ◌&&◌, ◌||◌, List, ℕ, zero, suc, ◌+◌, ◌-◌, ◌≤◌, ◌<◌, leb, ltb, eqb, length}
use Rattle.std.proofs.lemmas.Bool.{false≢true, not-false}
use Rattle.std.proofs.Math.Option.{none}
use Rattle.std.proofs.Common.{arith, leb-true, ltb-true, lt-ltb, eq-eqb, ne_eqb}
use Rattle.std.proofs.Math.Decide.{ℕ_discrete}
use Rattle.scope.specs.Tasks.{Task, task_at}
use Rattle.scope.specs.Jobs.{Job, release_of, task_of, work_of, in_order, apart, job_legal, bad_job}
use Rattle.theory.specs.Numbers.{and_both, first_none, all_true, lexically_true, lexically_tied}
use Rattle.theory.specs.Spaced.{Legal}

pub record JobRule (ts : List Task) (n : ℕ) (js : List Job) (j : ℕ) : Type 0 where
  pub order : in_order js j ≡ true
  pub known : task_of js j < length ts
  pub some : 1 ≤ work_of js j
  pub most : work_of js j ≤ (task_at ts (task_of js j)).C
  pub inside : release_of js j < n
  pub apart : (i : ℕ) → i < j → task_of js i ≡ task_of js j → release_of js i + (task_at ts (task_of js j)).T ≤ release_of js j

or_left : (a b : Bool) → (not a || b) ≡ true → a ≡ true → b ≡ true
or_left true b e h = e
or_left false b e h = absurd (false≢true h)

pub job_rule : (ts : List Task) (n : ℕ) (js : List Job) (j : ℕ) → job_legal ts n js j ≡ true → JobRule ts n js j
unfolding job_legal
job_rule ts n js j e =
    let i : ℕ = task_of js j in
    let r : ℕ = release_of js j in
    let w : ℕ = work_of js j in
    let x : Task = task_at ts i in
    let p₁ = and_both (in_order js j && ltb i (length ts) && leb 1 w && leb w x.C && ltb r n) (apart ts js j) e in
    let p₂ = and_both (in_order js j && ltb i (length ts) && leb 1 w && leb w x.C) (ltb r n) p₁.0 in
    let p₃ = and_both (in_order js j && ltb i (length ts) && leb 1 w) (leb w x.C) p₂.0 in
    let p₄ = and_both (in_order js j && ltb i (length ts)) (leb 1 w) p₃.0 in
    let p₅ = and_both (in_order js j) (ltb i (length ts)) p₄.0 in
    record {
      order = p₅.0;
      known = ltb-true i (length ts) p₅.1;
      some = leb-true 1 w p₄.1;
      most = leb-true w x.C p₃.1;
      inside = ltb-true r n p₂.1;
      apart = λ h l q.
          leb-true (release_of js h + x.T) r
          (or_left (eqb (task_of js h) i) _ (all_true _ j p₁.1 h l) (eq-eqb (task_of js h) i q));
    }

pub job_rules : (ts : List Task) (n : ℕ) (js : List Job) → bad_job ts n js ≡ none → (j : ℕ) → j < length js → JobRule ts n js j
unfolding bad_job
job_rules ts n js e j l =
    job_rule ts n js j (not-false (job_legal ts n js j) (first_none (λ j. not (job_legal ts n js j)) (length js) e j l))

-- a legal job is legal for a run of any length that goes past its release: only there n is asked for
pub legal_until : (ts : List Task) (n m : ℕ) (js : List Job) (j : ℕ) → job_legal ts n js j ≡ true → release_of js j < m → job_legal ts m js j ≡ true
unfolding job_legal
legal_until ts n m js j e h =
    let i : ℕ = task_of js j in
    let r : ℕ = release_of js j in
    let w : ℕ = work_of js j in
    let p₁ = and_both (in_order js j && ltb i (length ts) && leb 1 w && leb w (task_at ts i).C && ltb r n) (apart ts js j) e in
    let p₂ = and_both (in_order js j && ltb i (length ts) && leb 1 w && leb w (task_at ts i).C) (ltb r n) p₁.0 in
    rw (p₂.0, lt-ltb r m h, p₁.1)

-- the list rises by tick and, within a tick, by task
abbrev pub Rises : List Job → ℕ → ℕ → Type 0
Rises js i j = (release_of js i ≤ release_of js j) × (release_of js i ≡ release_of js j → task_of js i < task_of js j)

pub jobs_rise : (ts : List Task) (n : ℕ) (js : List Job) → bad_job ts n js ≡ none → (i j : ℕ) → i < j → j < length js → Rises js i j
jobs_rise ts n js legal i zero l h = absurd (omega arith)
jobs_rise ts n js legal i (suc j) l h =
    elim (ℕ_discrete i j) [
      | yes z ↦ rw z next
      | no u ↦
          let before = jobs_rise ts n js legal i j (omega arith) (omega arith) in (
            omega (arith, before.0, next.0),
            λ z. omega (arith, before.1 (omega (arith, before.0, next.0)), next.1 (omega (arith, before.0, next.0))),
          )
    ]
  where
    next : Rises js j (suc j)
    next =
        let z : suc j - 1 ≡ j = omega arith in
        let o = rw (ne_eqb (suc j) 0 (λ q. omega arith), z) at (job_rules ts n js legal (suc j) h).order in (
          lexically_true (release_of js j) (release_of js (suc j)) _ o,
          λ q. ltb-true (task_of js j) (task_of js (suc j)) (lexically_tied (release_of js j) (release_of js (suc j)) _ o q),
        )

-- jobs of one task are T apart, and none is longer than declared
pub spaced : (ts : List Task) (n : ℕ) (js : List Job) → bad_job ts n js ≡ none →
    Legal (length ts) (λ i. (task_at ts i).C) (λ i. (task_at ts i).T) (length js) (task_of js) (release_of js) (work_of js)
spaced ts n js e = record {
  known = λ j l. (job_rules ts n js e j l).known;
  works = λ j l. (job_rules ts n js e j l).most;
  apart = λ i j h l q. (job_rules ts n js e j l).apart i h q;
}
