-- Laws of tasks and of their demand
use Rattle.std.specs.Prelude.{◌≡◌, refl, Bool, true, false, not, cond, ◌&&◌, List, [], ◌∷◌, ℕ, zero, suc, ◌+◌, ◌-◌, ◌*◌, ◌/◌, ◌≤◌, ◌<◌, leb, ltb}
use Rattle.std.proofs.Math.Path.{ap}
use Rattle.std.proofs.Common.{◌∙◌, zero-add, div-lt_iff_lt-mul, le-div_iff_mul-le, lt-ltb, le-ltb, leb-true}
use Rattle.std.proofs.Math.Option.{none}
use Rattle.std.specs.Int.{◌∣◌}
use native.Mathlib.Omega.{arith}
use Rattle.std.proofs.Math.Nat.{add-div_right, add-mul-div_right, div-mul_cancel, mul-le-mul_right}
use Rattle.std.proofs.Math.Decide.{dec_lt}
use Rattle.std.proofs.Math.ListN.{length}
use Rattle.std.proofs.lemmas.Bool.{not-false}
use Rattle.scope.specs.Numbers.{sum}
use Rattle.scope.specs.Limits.{most_of_task}
use Rattle.scope.specs.Tasks.{Task, task_at, task_number, task_legal, bad_task, task_demand, demand}
use Rattle.theory.specs.Numbers.{and_both, first_none, sum_first, sum_le, sum_eq, sum_zero, sum_add}

-- ---- what a legal task keeps. That D ≤ T stands apart: few laws need it

pub record TaskRule (x : Task) : Type 0 where
  pub work : 1 ≤ x.C
  pub work_most : x.C ≤ most_of_task
  pub period : 1 ≤ x.T
  pub period_most : x.T ≤ most_of_task
  pub due : 1 ≤ x.D
  pub due_most : x.D ≤ most_of_task

number_rule : (x : ℕ) → task_number x ≡ true → (1 ≤ x) × (x ≤ most_of_task)
number_rule x e = let p = and_both (leb 1 x) (leb x most_of_task) e in (leb-true 1 x p.0, leb-true x most_of_task p.1)

pub task_rule : (x : Task) → task_legal x ≡ true → TaskRule x × (x.D ≤ x.T)
unfolding task_legal
task_rule x e =
    let p₁ = and_both (task_number x.C && task_number x.T && task_number x.D) (leb x.D x.T) e in
    let p₂ = and_both (task_number x.C && task_number x.T) (task_number x.D) p₁.0 in
    let p₃ = and_both (task_number x.C) (task_number x.T) p₂.0 in
    let c = number_rule x.C p₃.0 in
    let t = number_rule x.T p₃.1 in
    let d = number_rule x.D p₂.1 in (
      record { work = c.0; work_most = c.1; period = t.0; period_most = t.1; due = d.0; due_most = d.1 },
      leb-true x.D x.T p₁.1,
    )

-- of each task of a group
abbrev pub TaskRules : List Task → Type 0
TaskRules ts = (i : ℕ) → i < length ts → TaskRule (task_at ts i)

abbrev pub Within : List Task → Type 0
Within ts = (i : ℕ) → i < length ts → (task_at ts i).D ≤ (task_at ts i).T

pub task_rules : (ts : List Task) → bad_task ts ≡ none → TaskRules ts × Within ts
unfolding bad_task
task_rules ts e = (λ i l. (each i l).0, λ i l. (each i l).1)
  where
    each : (i : ℕ) → i < length ts → TaskRule (task_at ts i) × ((task_at ts i).D ≤ (task_at ts i).T)
    each i l =
        task_rule (task_at ts i)
        (not-false (task_legal (task_at ts i)) (first_none (λ i. not (task_legal (task_at ts i))) (length ts) e i l))

-- ---- how many jobs, released T apart and due D after, have release and deadline in a stretch of t ticks

unfoldable pub jobs_in : ℕ → ℕ → ℕ → ℕ
jobs_in T D t = cond (ltb t D) 0 ((t - D) / T + 1)

pub demand_jobs : (x : Task) (t : ℕ) → task_demand x t ≡ jobs_in x.T x.D t * x.C
unfolding task_demand jobs_in
demand_jobs x t = go (ltb t x.D)
  where
    go : (b : Bool) → cond b 0 (((t - x.D) / x.T + 1) * x.C) ≡ cond b 0 ((t - x.D) / x.T + 1) * x.C
    go true = omega arith
    go false = refl

module _ (T D : ℕ) where
  pub jobs_in_short : (t : ℕ) → t < D → jobs_in T D t ≡ 0
  unfolding jobs_in
  jobs_in_short t h = rw (lt-ltb t D h)

  pub jobs_in_long : (t : ℕ) → D ≤ t → jobs_in T D t ≡ (t - D) / T + 1
  unfolding jobs_in
  jobs_in_long t h = rw (le-ltb t D h)

module _ (T D : ℕ) (pos : 0 < T) where
  -- the last of them is due by t
  pub jobs_in_due : (t m : ℕ) → m < jobs_in T D t → m * T + D ≤ t
  jobs_in_due t m h =
      elim (dec_lt t D) [
        | yes l ↦ absurd (omega (arith, jobs_in_short T D t l))
        | no l ↦
            let q : m ≤ (t - D) / T = omega (arith, jobs_in_long T D t (omega arith)) in
            omega (arith, (le-div_iff_mul-le pos).0 q)
      ]

  -- jobs of which the last is due by t
  pub le_jobs_in : (t m : ℕ) → m * T + D ≤ t + T → D ≤ t → m ≤ jobs_in T D t
  le_jobs_in t m h l =
      let q : m * T ≤ t - D + T = omega arith in
      omega (arith, jobs_in_long T D t l, (le-div_iff_mul-le pos).1 q, add-div_right (t - D) pos)

  -- q periods more: no more than q jobs more
  pub jobs_in_cycles : (q t : ℕ) → jobs_in T D (t + q * T) ≤ jobs_in T D t + q
  jobs_in_cycles q t =
      elim (dec_lt t D) [
        | yes l ↦ elim (dec_lt (t + q * T) D) [
          | yes k ↦ omega (arith, jobs_in_short T D (t + q * T) k)
          | no k ↦
              let z : t + q * T - D < q * T = omega arith in
              omega (arith, jobs_in_long T D (t + q * T) (omega arith), (div-lt_iff_lt-mul pos).1 z)
        ]
        | no l ↦
            let e : t + q * T - D ≡ t - D + q * T = omega arith in
            omega (arith, jobs_in_long T D t (omega arith), jobs_in_long T D (t + q * T) (omega arith), ap (λ (k : ℕ). k / T) e, add-mul-div_right (t - D) q pos)
      ]

  -- q periods from the start: q jobs, where D ≤ T
  pub jobs_in_whole : (q : ℕ) → 0 < D → D ≤ T → jobs_in T D (q * T) ≡ q
  jobs_in_whole zero d h = let e : 0 * T ≡ 0 = omega arith in ap (jobs_in T D) e ∙ jobs_in_short T D 0 d
  jobs_in_whole (suc q) d h =
      omega (
        arith,
        jobs_in_cycles (suc q) 0,
        jobs_in_short T D 0 d,
        ap (jobs_in T D) (zero-add (suc q * T)),
        le_jobs_in (suc q * T) (suc q) (omega arith) (omega arith),
      )

-- ---- the demand of a group

pub demand_sum : (ts : List Task) (t : ℕ) → demand ts t ≡ sum (λ i. task_demand (task_at ts i) t) (length ts)
unfolding demand sum
demand_sum [] t = refl
demand_sum (x ∷ xs) t = omega (arith, demand_sum xs t, sum_first (λ i. task_demand (task_at (x ∷ xs) i) t) (length xs))

-- nothing is demanded in no time
pub demand_none : (ts : List Task) → TaskRules ts → demand ts 0 ≡ 0
demand_none ts ok =
    demand_sum ts 0
    ∙ sum_eq (λ i. task_demand (task_at ts i) 0) (λ i. 0) (length ts) (λ i l.
    let x : Task = task_at ts i in omega (arith, demand_jobs x 0, ap (λ (k : ℕ). k * x.C) (jobs_in_short x.T x.D 0 (ok i l).due)))
    ∙ sum_zero (length ts)

-- every period divides H
abbrev pub Periods : List Task → ℕ → Type 0
Periods ts H = (i : ℕ) → i < length ts → (task_at ts i).T ∣ H

-- the work that a task, and a group, releases in H ticks
abbrev pub task_load : ℕ → Task → ℕ
task_load H x = H / x.T * x.C

unfoldable pub load : List Task → ℕ → ℕ
load ts H = sum (λ i. task_load H (task_at ts i)) (length ts)

module _ (ts : List Task) (H : ℕ) (ok : TaskRules ts) (div : Periods ts H) where
  -- a cycle more: no more than its load more
  pub demand_cycle : (t : ℕ) → demand ts (t + H) ≤ demand ts t + load ts H
  unfolding load
  demand_cycle t =
      omega (
        arith,
        demand_sum ts (t + H),
        demand_sum ts t,
        sum_le (λ i. task_demand (task_at ts i) (t + H)) (λ i. task_demand (task_at ts i) t + task_load H (task_at ts i)) (length ts) each,
        sum_add (λ i. task_demand (task_at ts i) t) (λ i. task_load H (task_at ts i)) (length ts),
      )
    where
      each : (i : ℕ) → i < length ts → task_demand (task_at ts i) (t + H) ≤ task_demand (task_at ts i) t + task_load H (task_at ts i)
      each i l =
          let x : Task = task_at ts i in
          let z : jobs_in x.T x.D (t + H) ≤ jobs_in x.T x.D t + H / x.T =
          rw (div-mul_cancel x.T (div i l)) at (jobs_in_cycles x.T x.D (ok i l).period (H / x.T) t) in
          omega (arith, demand_jobs x t, demand_jobs x (t + H), mul-le-mul_right x.C z)

  -- with D ≤ T, the demand of a cycle is its load
  pub demand_whole : Within ts → demand ts H ≡ load ts H
  unfolding load
  demand_whole within =
      demand_sum ts H ∙ sum_eq (λ i. task_demand (task_at ts i) H) (λ i. task_load H (task_at ts i)) (length ts) (λ i l.
      let x : Task = task_at ts i in
      demand_jobs x H
      ∙ ap (λ (k : ℕ). k * x.C) (rw (div-mul_cancel x.T (div i l)) at (jobs_in_whole x.T x.D (ok i l).period (H / x.T) (ok i l).due (within i l))))
