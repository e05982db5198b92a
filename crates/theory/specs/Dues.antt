-- The lengths at which a demand rises: a task's deadlines, one period after the other. Between them it stays
use Rattle.std.specs.Prelude.{◌≡◌, refl, Bool, ◌⊎◌, List, length}
use Rattle.std.proofs.Math.Path.{sym, ap}
use Rattle.std.proofs.Common.{◌∙◌, inl, inr}
use Prim.Native.Nat.{ℕ, zero, suc, ◌+◌, ◌-◌, ◌*◌, ◌≤◌, ◌<◌, min}
use native.Mathlib.Omega.{arith}
use Rattle.std.proofs.Math.Decide.{ℕ_discrete, dec_lt}
use Rattle.std.proofs.Math.Nat.{le_antisymm}
use Rattle.scope.specs.Limits.{most_number}
use Rattle.scope.specs.Ticks.{Periodic, least_supply}
use Rattle.scope.specs.Windows.{Board, windows_of, supplied_by}
use Rattle.scope.specs.Tasks.{Task, tasks_of, task_at, task_demand, demand}
use Rattle.scope.specs.Verdict.{Verdict.miss}
use Rattle.scope.specs.Answers.{Answer.given, verdict_answer}
use Rattle.theory.specs.Numbers.{sum_eq}
use Rattle.theory.specs.Ticks.{least_up}
use Rattle.theory.specs.Tasks.{TaskRule, TaskRules, jobs_in, jobs_in_short, jobs_in_due, le_jobs_in, demand_jobs, demand_sum, demand_none}
use Rattle.theory.specs.Windows.{supplied_periodic}
use Rattle.theory.specs.Answers.{judged, table_frame}
use Rattle.theory.specs.Exact.{exact_miss}

-- the next deadline after length t of the jobs that are released at tick 0 and each period after
unfoldable pub due_after : Task → ℕ → ℕ
due_after x t = x.D + jobs_in x.T x.D t * x.T

module _ (x : Task) (ok : TaskRule x) where
  abbrev jobs : ℕ → ℕ
  jobs t = jobs_in x.T x.D t

  not_more : (a b : ℕ) → (a < b → ⊥) → b ≤ a
  not_more a b h = omega arith

  -- as many jobs are due by a longer length
  jobs_up : (t u : ℕ) → t ≤ u → jobs t ≤ jobs u
  jobs_up t u h =
      elim (dec_lt 0 (jobs t)) [
        | no l ↦ omega arith
        | yes l ↦
            let m : ℕ = jobs t - 1 in
            let e : m + 1 ≡ jobs t = omega arith in
            let last : m * x.T + x.D ≤ t = jobs_in_due x.T x.D ok.period t m (omega arith) in
            let next : (m + 1) * x.T + x.D ≤ u + x.T = omega arith in
            omega (arith, e, le_jobs_in x.T x.D ok.period u (m + 1) next (omega arith))
      ]

  pub due_later : (t : ℕ) → t < due_after x t
  unfolding due_after
  due_later t =
      elim (dec_lt t (x.D + jobs t * x.T)) [
        | yes l ↦ l
        | no l ↦
            let next : (jobs t + 1) * x.T + x.D ≤ t + x.T = omega arith in
            absurd (omega (arith, le_jobs_in x.T x.D ok.period t (jobs t + 1) next (omega arith)))
      ]

  -- before it no job more is due
  jobs_same : (t u : ℕ) → t ≤ u → u < due_after x t → jobs u ≡ jobs t
  unfolding due_after
  jobs_same t u h l =
      le_antisymm (not_more (jobs t) (jobs u) (λ more. omega (arith, jobs_in_due x.T x.D ok.period u (jobs t) more))) (jobs_up t u h)

  -- at it, one is
  jobs_next : (t : ℕ) → jobs (due_after x t) ≡ jobs t + 1
  unfolding due_after
  jobs_next t =
      let u : ℕ = x.D + jobs t * x.T in
      let next : (jobs t + 1) * x.T + x.D ≤ u + x.T = omega arith in
      le_antisymm
      (not_more (jobs t + 1) (jobs u) (λ more.
      let last : (jobs t + 1) * x.T + x.D ≤ u = jobs_in_due x.T x.D ok.period u (jobs t + 1) more in omega (arith, ok.period)))
      (le_jobs_in x.T x.D ok.period u (jobs t + 1) next (omega arith))

  -- the first deadline
  pub due_first : due_after x 0 ≡ x.D
  unfolding due_after
  due_first = omega (arith, ap (λ (m : ℕ). m * x.T) (jobs_in_short x.T x.D 0 ok.due))

  -- before the next deadline the demand stays, and so does that deadline
  pub due_same : (t u : ℕ) → t ≤ u → u < due_after x t → (task_demand x u ≡ task_demand x t) × (due_after x u ≡ due_after x t)
  unfolding due_after
  due_same t u h l =
      let e = jobs_same t u h l in (
        demand_jobs x u ∙ ap (λ (m : ℕ). m * x.C) e ∙ sym (demand_jobs x t),
        ap (λ (m : ℕ). x.D + m * x.T) e,
      )

  -- a length that is the next deadline after the one before it: the demand rises by C, and the deadline by T
  pub due_hit : (u : ℕ) → u ≡ due_after x (u - 1) → (task_demand x u ≡ task_demand x (u - 1) + x.C) × (due_after x u ≡ u + x.T)
  unfolding due_after
  due_hit u e =
      let n : jobs u ≡ jobs (u - 1) + 1 = ap jobs e ∙ jobs_next (u - 1) in (
        omega (arith, demand_jobs x u, demand_jobs x (u - 1), ap (λ (m : ℕ). m * x.C) n),
        omega (arith, e, ap (λ (m : ℕ). m * x.T) n),
      )

  -- and one that is not: nothing changes
  pub due_miss : (u : ℕ) → (u ≡ due_after x (u - 1) → ⊥) → (task_demand x u ≡ task_demand x (u - 1)) × (due_after x u ≡ due_after x (u - 1))
  due_miss u other =
      let later = due_later (u - 1) in
      due_same (u - 1) u (omega arith) (omega (arith, later, other))

-- up to the next deadline of any of its tasks the demand of a group stays
pub demand_same : (ts : List Task) (t u : ℕ) → TaskRules ts → t ≤ u →
    ((i : ℕ) → i < length ts → u < due_after (task_at ts i) t) → demand ts u ≡ demand ts t
demand_same ts t u ok h low =
    demand_sum ts u
    ∙ sum_eq (λ i. task_demand (task_at ts i) u) (λ i. task_demand (task_at ts i) t) (length ts) (λ i l. (due_same (task_at ts i) (ok i l) t u h (low i l)).0)
    ∙ sym (demand_sum ts t)

-- the soonest of the next deadlines of the first n tasks after length t; the greatest number of all where there are no tasks
unfoldable pub soonest : List Task → ℕ → ℕ → ℕ
soonest ts t zero = most_number
soonest ts t (suc n) = min (soonest ts t n) (due_after (task_at ts n) t)

module _ (ts : List Task) (t : ℕ) where
  pub soonest_low : (n i : ℕ) → i < n → soonest ts t n ≤ due_after (task_at ts i) t
  unfolding soonest
  soonest_low zero i l = absurd (omega arith)
  soonest_low (suc n) i l =
      elim (ℕ_discrete i n) [
        | yes e ↦ omega (arith, ap (λ (k : ℕ). due_after (task_at ts k) t) e)
        | no u ↦ omega (arith, soonest_low n i (omega arith))
      ]

  pub soonest_later : (n : ℕ) → TaskRules ts → n ≤ length ts → t < most_number → t < soonest ts t n
  unfolding soonest
  soonest_later zero ok h l = l
  soonest_later (suc n) ok h l = omega (arith, soonest_later n ok (omega arith) l, due_later (task_at ts n) (ok n (omega arith)) t)

-- ---- a length at which the demand does not rise

module _ (σ : ℕ → Bool) (P : ℕ) (per : Periodic σ P) (ts : List Task) (ok : TaskRules ts) where
  -- where the demand of a length is carried by its least supply, so is that of every length up to the next deadline
  pub met_until : (t u : ℕ) → t ≤ u → ((i : ℕ) → i < length ts → u < due_after (task_at ts i) t) →
      demand ts t ≤ least_supply σ P t → demand ts u ≤ least_supply σ P u
  met_until t u h low fits = omega (arith, demand_same ts t u ok h low, least_up σ P per t u h)

  -- so a length that violates where the one before it does not is a deadline of some task
  some_due : (t n : ℕ) → ((i : ℕ) × (i < n) × (t ≡ due_after (task_at ts i) (t - 1))) ⊎ ((i : ℕ) → i < n → t ≡ due_after (task_at ts i) (t - 1) → ⊥)
  some_due t zero = inr (λ i l. absurd (omega arith))
  some_due t (suc n) = elim (some_due t n) [
    | inl found ↦ inl (found.0, omega (arith, found.1), found.2)
    | inr none_yet ↦ elim (ℕ_discrete t (due_after (task_at ts n) (t - 1))) [
      | yes e ↦ inl (n, omega arith, e)
      | no u ↦ inr (λ i l. elim (ℕ_discrete i n) [
        | yes e ↦ λ q. u (q ∙ ap (λ (k : ℕ). due_after (task_at ts k) (t - 1)) e)
        | no v ↦ none_yet i (omega arith)
      ])
    ]
  ]

  pub violates_at_deadline : (t : ℕ) → demand ts (t - 1) ≤ least_supply σ P (t - 1) → least_supply σ P t < demand ts t →
      (i : ℕ) × (i < length ts) × (t ≡ due_after (task_at ts i) (t - 1))
  violates_at_deadline t fits over =
      elim (some_due t (length ts)) [
        | inl found ↦ found
        | inr none-there ↦
            let later : (i : ℕ) → i < length ts → t < due_after (task_at ts i) (t - 1) = λ i l.
            omega (arith, due_later (task_at ts i) (ok i l) (t - 1), none-there i l) in
            absurd (omega (arith, met_until (t - 1) t (omega arith) later fits))
      ]

-- of the entry: the length that a verdict shows is a deadline of some task that is released at its start and each period after
pub miss_at_deadline : (b : Board) (ws ts : List ℕ) (t s d p : ℕ) → verdict_answer b ws ts ≡ given (miss t s d p) →
    (i : ℕ) × (i < length (tasks_of ts)) × (t ≡ due_after (task_at (tasks_of ts) i) (t - 1))
miss_at_deadline b ws ts t s d p e =
    let facts = judged b ws ts (miss t s d p) e in
    let ok = facts.group.rules in
    let m = (exact_miss b ws ts (miss t s d p) e t s d p).0 refl in
    let per = supplied_periodic b (windows_of ws) (table_frame b ws facts.table) in
    let over : least_supply (supplied_by b ws) b.frame t < demand (tasks_of ts) t = omega (arith, m.demanded, m.supplied, m.above) in
    let some-length : 0 < t =
    elim (dec_lt 0 t) [
      | yes l ↦ l
      | no l ↦ let z : t ≡ 0 = omega arith in absurd (omega (arith, over, ap (demand (tasks_of ts)) z, demand_none (tasks_of ts) ok))
    ] in
    violates_at_deadline (supplied_by b ws) b.frame per (tasks_of ts) ok t (m.least_length (t - 1) (omega arith)) over
