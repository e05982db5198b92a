-- Demand is 001's bound: no legal job list has more work released in and due within a stretch, and full jobs, which are one, reach it
use Rattle.std.specs.Prelude.{◌≡◌, Bool, not, cond, ◌||◌, ◌⊎◌, List, [], ◌∷◌, ◌++◌, leb, ltb, eqb, length}
use Rattle.std.proofs.Math.Path.{refl, sym, ap}
use Rattle.std.proofs.Common.{◌∙◌, mod-lt, div-add-mod', mul-le-mul_right, le-leb, lt-ltb, eq-eqb, ne_eqb, eqb-true}
use Rattle.std.proofs.Math.Bool.{true, false, or-true}
use Rattle.std.proofs.Math.Logic.{inl, inr}
use Rattle.std.proofs.Math.Option.{none}
use Prim.Native.Nat.{ℕ, zero, suc, ◌+◌, ◌-◌, ◌*◌, ◌/◌, ◌%◌, ◌≤◌, ◌<◌}
use native.Mathlib.Omega.{arith}
use Rattle.std.proofs.Math.Nat.{zero-mod, zero-div, div-eq_of_lt-le}
use Rattle.std.proofs.Math.Decide.{ℕ_discrete, dec_lt}
use Rattle.std.proofs.lemmas.Bool.{lt-leb}
use Rattle.scope.specs.Numbers.{when, bit, sum, lexically}
use Rattle.scope.specs.Tasks.{Task, task_at, bad_task, task_demand, demand}
use Rattle.scope.specs.Jobs.{Job, job, job_at, release_of, task_of, work_of, in_order, apart, job_legal, bad_job}
use Rattle.scope.specs.Demands.{due_within, full_jobs_in, full_jobs}
use Rattle.theory.specs.Numbers.{both_and, fits, true_fits, sum_eq, sum_zero, sum_split, sum_first, sum_swap, sum_when_same, when_none, true_all}
use Rattle.theory.specs.Numbers.{none_first}
use Rattle.theory.specs.Spaced.{work_le}
use Rattle.theory.specs.Jobs.{job_rules, spaced}
use Rattle.theory.specs.Tasks.{TaskRules, task_rules, jobs_in, jobs_in_short, jobs_in_long, demand_jobs, demand_sum}

-- ---- no legal list has more

-- in every legal job list, the work released in and due within any stretch of t ticks is at most the demand of t
pub due_within_lem : (ts : List Task) → bad_task ts ≡ none → (n : ℕ) (js : List Job) → bad_job ts n js ≡ none → (s t : ℕ) → due_within ts js s t ≤ demand ts t
unfolding due_within
due_within_lem ts tasks n js legal s t =
    omega (
      arith,
      demand_sum ts t,
      sum_eq (λ i. task_demand (task_at ts i) t) (λ i. jobs_in (task_at ts i).T (task_at ts i).D t * (task_at ts i).C)
          (length ts) (λ i l. demand_jobs (task_at ts i) t),
      work_le (length ts) (λ i. (task_at ts i).C) (λ i. (task_at ts i).T) (length js) (task_of js) (release_of js) (work_of js) (spaced ts n js legal)
          (length ts) (λ i l. ((task_rules ts tasks).0 i l).period) (λ i. (task_at ts i).D) (λ j. true) (λ j l e. (job_rules ts n js legal j l).known) s t,
    )

-- ---- full jobs

-- task i releases a job in tick s + k
abbrev releases : List Task → ℕ → ℕ → Bool
releases ts k i = eqb (k % (task_at ts i).T) 0

-- the full job of task i in tick s + k, and the list that has it if it is released
abbrev full_job : List Task → ℕ → ℕ → ℕ → Job
full_job ts s k i = job (s + k) i (task_at ts i).C

abbrev full_one : List Task → ℕ → ℕ → ℕ → List Job
full_one ts s k i = cond (releases ts k i) (full_job ts s k i ∷ []) []

-- ---- sums over a list of jobs

abbrev total : (Job → ℕ) → List Job → ℕ
total f js = sum (λ j. f (job_at js j)) (length js)

total_append : (f : Job → ℕ) (a c : List Job) → total f (a ++ c) ≡ total f a + total f c
unfolding sum
total_append f [] c = omega arith
total_append f (x ∷ a) c =
    omega (arith, total_append f a c, sum_first (λ j. f (job_at (x ∷ a ++ c) j)) (length (a ++ c)), sum_first (λ j. f (job_at (x ∷ a) j)) (length a))

module _ (f : Job → ℕ) (ts : List Task) (s : ℕ) where
  -- what task i adds in tick s + k
  abbrev part : ℕ → ℕ → ℕ
  part k i = when (releases ts k i) (f (full_job ts s k i))

  total_one : (b : Bool) (x : Job) → total f (cond b (x ∷ []) []) ≡ when b (f x)
  unfolding sum
  total_one true x = omega arith
  total_one false x = refl

  total_in : (k i : ℕ) → total f (full_jobs_in ts s k i) ≡ sum (part k) i
  unfolding full_jobs_in sum
  total_in k zero = refl
  total_in k (suc i) =
      omega (arith, total_append f (full_jobs_in ts s k i) (full_one ts s k i), total_in k i, total_one (releases ts k i) (full_job ts s k i))

  -- tick by tick, then task by task
  total_ticks : (t : ℕ) → total f (full_jobs ts s t) ≡ sum (λ k. sum (part k) (length ts)) t
  unfolding full_jobs sum
  total_ticks zero = refl
  total_ticks (suc t) =
      omega (arith, total_append f (full_jobs ts s t) (full_jobs_in ts s t (length ts)), total_ticks t, total_in t (length ts))

  -- and in the other order
  total_full : (t : ℕ) → total f (full_jobs ts s t) ≡ sum (λ i. sum (λ k. part k i) t) (length ts)
  total_full t = total_ticks t ∙ sum_swap part t (length ts)

-- ---- multiples of T

module _ (T : ℕ) (pos : 1 ≤ T) where
  -- the quotient rises at each multiple
  div_next : (n : ℕ) → suc n / T ≡ n / T + bit (eqb (suc n % T) 0)
  div_next n = go (suc n / T) (suc n % T) (div-add-mod' (suc n) T) (mod-lt (suc n) pos)
    where
      quotient : (p : ℕ) → p * T ≤ n → n < (p + 1) * T → n / T ≡ p
      quotient p l h = div-eq_of_lt-le T l h

      go : (q r : ℕ) → q * T + r ≡ suc n → r < T → q ≡ n / T + bit (eqb r 0)
      go zero zero e l = absurd (omega arith)
      go (suc p) zero e l = omega (arith, quotient p (omega arith) (omega arith))
      go q (suc r) e l = rw (ne_eqb (suc r) 0 (omega arith)) (omega (arith, quotient q (omega arith) (omega arith)))

  -- how many there are up to n
  multiples : (n : ℕ) → sum (λ k. bit (eqb (k % T) 0)) (suc n) ≡ n / T + 1
  unfolding sum
  multiples zero = rw (zero-mod T, zero-div T) (omega arith)
  multiples (suc n) = omega (arith, multiples n, div_next n)

  -- two of them are T apart
  multiples_apart : (a b : ℕ) → a % T ≡ 0 → b % T ≡ 0 → a < b → a + T ≤ b
  multiples_apart a b p q l =
      let x : a / T * T ≡ a = omega (arith, div-add-mod' a T) in
      let y : b / T * T ≡ b = omega (arith, div-add-mod' b T) in
      elim (dec_lt (a / T) (b / T)) [
        | yes h ↦ omega (arith, mul-le-mul_right T h)
        | no h ↦ let g : b / T ≤ a / T = omega arith in absurd (omega (arith, mul-le-mul_right T g))
      ]

-- ---- the full jobs of one task

module _ (T D C s t : ℕ) (pos : 1 ≤ T) (due : 1 ≤ D) where
  -- the work that is released in tick s + k and due by s + t
  abbrev work_in : ℕ → ℕ
  work_in k = when (eqb (k % T) 0) (when (fits s (s + k) (s + k + D) (s + t)) C)

  -- a release up to t − D is due in time
  in_time : (k : ℕ) → k + D ≤ t → work_in k ≡ when (eqb (k % T) 0) C
  in_time k h = ap (λ (b : Bool). when (eqb (k % T) 0) (when b C)) (true_fits s (s + k) (s + k + D) (s + t) (omega arith) (omega arith))

  -- a later one is not
  too_late : (k : ℕ) → t < k + D → work_in k ≡ 0
  too_late k h = rw (le-leb s (s + k) (omega arith), lt-leb (s + k + D) (s + t) (omega arith)) (when_none (eqb (k % T) 0) 0 (λ e. refl))

  -- the releases of the first t + 1 − D ticks
  work_in_time : sum work_in t ≡ sum (λ k. bit (eqb (k % T) 0)) (t + 1 - D) * C
  work_in_time =
      let n : ℕ = t + 1 - D in
      let e : t ≡ n + (t - n) = omega arith in
      omega (
        arith,
        ap (sum work_in) e,
        sum_split work_in n (t - n),
        sum_eq work_in (λ k. when (eqb (k % T) 0) C) n (λ k l. in_time k (omega arith)),
        sum_when_same (λ k. eqb (k % T) 0) C n,
        sum_eq (λ i. work_in (n + i)) (λ i. 0) (t - n) (λ i l. too_late (n + i) (omega arith)),
        sum_zero (t - n),
      )

  -- which is the task's demand
  task_reaches : sum work_in t ≡ jobs_in T D t * C
  unfolding sum
  task_reaches =
      work_in_time ∙ ap (λ (k : ℕ). k * C)
      (elim (dec_lt t D) [
        | yes h ↦
            let e : t + 1 - D ≡ 0 = omega arith in
            ap (sum (λ k. bit (eqb (k % T) 0))) e ∙ sym (jobs_in_short T D t h)
        | no h ↦
            let e : t + 1 - D ≡ suc (t - D) = omega arith in
            ap (sum (λ k. bit (eqb (k % T) 0))) e ∙ multiples T pos (t - D) ∙ sym (jobs_in_long T D t (omega arith))
      ])

-- ---- the demand is reached

-- the work of a job, if it is released in the t ticks from s on and due by their end
abbrev due_work : List Task → ℕ → ℕ → Job → ℕ
due_work ts s t x = when (fits s x.release (x.release + (task_at ts x.task).D) (s + t)) x.work

-- full jobs from s on, of which those due by s + t have exactly the demand of t for their work
pub full_reaches : (ts : List Task) → bad_task ts ≡ none → (s t : ℕ) → due_within ts (full_jobs ts s t) s t ≡ demand ts t
unfolding due_within
full_reaches ts tasks s t =
    let ok = (task_rules ts tasks).0 in
    total_full (due_work ts s t) ts s t
    ∙ sum_eq (λ i. sum (λ k. part (due_work ts s t) ts s k i) t) (λ i. task_demand (task_at ts i) t) (length ts) (λ i l.
    let x : Task = task_at ts i in
    task_reaches x.T x.D x.C s t (ok i l).period (ok i l).due ∙ sym (demand_jobs x t))
    ∙ sym (demand_sum ts t)

-- ---- what holds of each job of a list, and of each two of them in their order

abbrev Each : (Job → Type 0) → List Job → Type 0
Each Q [] = Unit {0}
Each Q (x ∷ js) = Q x × Each Q js

abbrev Pairs : (Job → Job → Type 0) → List Job → Type 0
Pairs R [] = Unit {0}
Pairs R (x ∷ js) = Each (R x) js × Pairs R js

each_at : (Q : Job → Type 0) (js : List Job) → Each Q js → (j : ℕ) → j < length js → Q (job_at js j)
each_at Q [] h j l = absurd (omega arith)
each_at Q (x ∷ js) h zero l = h.0
each_at Q (x ∷ js) h (suc j) l = each_at Q js h.1 j (omega arith)

pairs_at : (R : Job → Job → Type 0) (js : List Job) → Pairs R js → (i j : ℕ) → i < j → j < length js → R (job_at js i) (job_at js j)
pairs_at R [] h i j k l = absurd (omega arith)
pairs_at R (x ∷ js) h i zero k l = absurd (omega arith)
pairs_at R (x ∷ js) h zero (suc j) k l = each_at (R x) js h.0 j (omega arith)
pairs_at R (x ∷ js) h (suc i) (suc j) k l = pairs_at R js h.1 i j (omega arith) (omega arith)

each_from : (Q S : Job → Type 0) (js : List Job) → ((x : Job) → Q x → S x) → Each Q js → Each S js
each_from Q S [] f h = h
each_from Q S (x ∷ js) f h = (f x h.0, each_from Q S js f h.1)

each_append : (Q : Job → Type 0) (a c : List Job) → Each Q a → Each Q c → Each Q (a ++ c)
each_append Q [] c p q = q
each_append Q (x ∷ a) c p q = (p.0, each_append Q a c p.1 q)

-- two lists, where each job of the first stands to each of the second as R asks
pairs_append : (R : Job → Job → Type 0) (Q S : Job → Type 0) → ((x y : Job) → Q x → S y → R x y) →
    (a c : List Job) → Each Q a → Each S c → Pairs R a → Pairs R c → Pairs R (a ++ c)
pairs_append R Q S f [] c p q u v = v
pairs_append R Q S f (x ∷ a) c p q u v =
    (each_append (R x) a c u.0 (each_from S (R x) c (λ y. f x y p.0) q), pairs_append R Q S f a c p.1 q u.1 v)

-- ---- full jobs rise, and each is at a multiple of its period

-- x goes before y: by tick and, within a tick, by task
abbrev Before : Job → Job → Type 0
Before x y = (x.release < y.release) ⊎ ((x.release ≡ y.release) × (x.task < y.task))

-- the list rises, and Q holds of each of its jobs
abbrev Rising : (Job → Type 0) → List Job → Type 0
Rising Q js = Each Q js × Pairs Before js

rising_append : (Q S W : Job → Type 0) → ((x : Job) → Q x → W x) → ((y : Job) → S y → W y) → ((x y : Job) → Q x → S y → Before x y) →
    (a c : List Job) → Rising Q a → Rising S c → Rising W (a ++ c)
rising_append Q S W f g h a c p q =
    (each_append W a c (each_from Q W a f p.0) (each_from S W c g q.0), pairs_append Before Q S h a c p.0 q.0 p.1 q.1)

module _ (ts : List Task) (s : ℕ) where
  -- x is a full job of its task, released in tick s + k
  record FullIn (k : ℕ) (x : Job) : Type 0 where
    pub released : x.release ≡ s + k
    pub turn : k % (task_at ts x.task).T ≡ 0
    pub full : x.work ≡ (task_at ts x.task).C

  -- of task i, of a task below i, of any task and in any of the t ticks from s on
  abbrev FullOf : ℕ → ℕ → Job → Type 0
  FullOf k i x = (x.task ≡ i) × FullIn k x

  abbrev FullBelow : ℕ → ℕ → Job → Type 0
  FullBelow k i x = (x.task < i) × FullIn k x

  abbrev FullWithin : ℕ → Job → Type 0
  FullWithin t x = (k : ℕ) × (k < t) × FullBelow k (length ts) x

  one_rises : (k i : ℕ) → Rising (FullOf k i) (full_one ts s k i)
  one_rises k i = go (releases ts k i) refl
    where
      go : (b : Bool) → releases ts k i ≡ b → Rising (FullOf k i) (cond b (full_job ts s k i ∷ []) [])
      go false e = (tt, tt)
      go true e = (((refl, record { released = refl; turn = eqb-true (k % (task_at ts i).T) 0 e; full = refl }), tt), (tt, tt))

  -- within a tick the task indices rise
  in_rises : (k i : ℕ) → Rising (FullBelow k i) (full_jobs_in ts s k i)
  unfolding full_jobs_in
  in_rises k zero = (tt, tt)
  in_rises k (suc i) =
      rising_append (FullBelow k i) (FullOf k i) (FullBelow k (suc i))
      (λ x f. (omega (arith, f.0), f.1))
      (λ y g. (omega (arith, g.0), g.1))
      (λ x y f g. inr (f.1.released ∙ sym g.1.released, omega (arith, f.0, g.0)))
      (full_jobs_in ts s k i) (full_one ts s k i) (in_rises k i) (one_rises k i)

  -- and the ticks rise
  full_rises : (t : ℕ) → Rising (FullWithin t) (full_jobs ts s t)
  unfolding full_jobs
  full_rises zero = (tt, tt)
  full_rises (suc t) =
      rising_append (FullWithin t) (FullBelow t (length ts)) (FullWithin (suc t))
      (λ x f. (f.0, omega (arith, f.1), f.2))
      (λ y g. (t, omega arith, g))
      (λ x y f g. inl (omega (arith, f.1, f.2.1.released, g.1.released)))
      (full_jobs ts s t) (full_jobs_in ts s t (length ts)) (full_rises t) (in_rises t (length ts))

-- ---- a list that rises so is legal

before_lexically : (x y : Job) → Before x y → lexically x.release y.release (ltb x.task y.task) ≡ true
before_lexically x y (inl h) = rw (lt-ltb x.release y.release h)
before_lexically x y (inr h) =
    rw (eq-eqb x.release y.release h.0, lt-ltb x.task y.task h.1) (or-true (ltb x.release y.release))

before_same_task : (x y : Job) → x.task ≡ y.task → Before x y → x.release < y.release
before_same_task x y e (inl h) = h
before_same_task x y e (inr h) = absurd (omega (arith, h.1))

module _ (ts : List Task) (ok : TaskRules ts) (s t : ℕ) where
  -- of two full jobs of one task the later one is at least T after the earlier one
  full_apart : (x y : Job) → FullWithin ts s t x → FullWithin ts s t y → Before x y → x.task ≡ y.task →
      x.release + (task_at ts y.task).T ≤ y.release
  full_apart x y f g b e =
      let T : ℕ = (task_at ts y.task).T in
      let turn : f.0 % T ≡ 0 = rw e at f.2.1.turn in
      let l : f.0 < g.0 = omega (arith, before_same_task x y e b, f.2.1.released, g.2.1.released) in
      omega (arith, multiples_apart T (ok y.task g.2.0).period f.0 g.0 turn g.2.1.turn l, f.2.1.released, g.2.1.released)

  module _ (js : List Job) (up : Rising (FullWithin ts s t) js) (j : ℕ) (l : j < length js) where
    rising_in_order : in_order js j ≡ true
    rising_in_order =
        elim (ℕ_discrete j 0) [
          | yes e ↦ rw (eq-eqb j 0 e)
          | no u ↦
              rw (before_lexically (job_at js (j - 1)) (job_at js j) (pairs_at Before js up.1 (j - 1) j (omega arith) l)) (or-true (eqb j 0))
        ]

    rising_apart : apart ts js j ≡ true
    rising_apart =
        true_all (λ i. not (eqb (task_of js i) (task_of js j)) || leb (release_of js i + (task_at ts (task_of js j)).T) (release_of js j)) j (λ i h.
        elim (ℕ_discrete (task_of js i) (task_of js j)) [
          | yes e ↦
              let far = full_apart (job_at js i) (job_at js j) (each_at (FullWithin ts s t) js up.0 i (omega arith))
              (each_at (FullWithin ts s t) js up.0 j l) (pairs_at Before js up.1 i j h l) e in
              rw (le-leb (release_of js i + (task_at ts (task_of js j)).T) (release_of js j) far) (or-true (not (eqb (task_of js i) (task_of js j))))
          | no u ↦ rw (ne_eqb (task_of js i) (task_of js j) u)
        ])

    rising_legal : job_legal ts (s + t) js j ≡ true
    unfolding job_legal
    rising_legal =
        let f = each_at (FullWithin ts s t) js up.0 j l in
        let x : Task = task_at ts (task_of js j) in
        let rule = ok (task_of js j) f.2.0 in
        let a = both_and {a = in_order js j} rising_in_order (lt-ltb (task_of js j) (length ts) f.2.0) in
        let b = both_and a (le-leb 1 (work_of js j) (omega (arith, rule.work, f.2.1.full))) in
        let c = both_and b (le-leb (work_of js j) x.C (omega (arith, f.2.1.full))) in
        let d = both_and c (lt-ltb (release_of js j) (s + t) (omega (arith, f.1, f.2.1.released))) in
        both_and d rising_apart

-- full jobs are a legal list for a run of s + t ticks
pub full_legal : (ts : List Task) → bad_task ts ≡ none → (s t : ℕ) → bad_job ts (s + t) (full_jobs ts s t) ≡ none
unfolding bad_job
full_legal ts tasks s t =
    let ok = (task_rules ts tasks).0 in
    let js : List Job = full_jobs ts s t in
    none_first (λ j. not (job_legal ts (s + t) js j)) (length js) (λ j l. ap not (rising_legal ts ok s t js (full_rises ts s t) j l))
