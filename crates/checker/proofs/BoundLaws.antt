-- The response bound as its loops find it: what is asked, task by task, and the first length that suffices
use mathlib.Core.Path.{◌≡◌, refl, sym, ap, ◌∙◌}
use mathlib.Core.Bool.{Bool, false}
use mathlib.Core.List.{List}
use Prim.Native.Nat.{ℕ, suc, ◌+◌, ◌-◌, ◌*◌, ◌/◌, ◌%◌, ◌≤◌, ◌<◌, min}
use native.Mathlib.Omega.{arith}
use native.Mathlib.Nat.{div-le_self, mul-le-mul, le-div_iff_mul-le, div-lt_iff_lt-mul, add-mul}
use Rattle.std.proofs.lemmas.Grind.{div_ceil_times}
use native.Mathlib.Numerals.{add-one}
use native.Mathlib.Decide.{dec_lt}
use lib.ListN.{length}
use borrow.Author.Tests.{le-leb, lt-leb}
use Rattle.std.specs.Int.{div_ceil}
use Rattle.scope.specs.Limits.{most_tasks, most_of_task, most_length}
use Rattle.scope.specs.Numbers.{sum}
use Rattle.scope.specs.Ticks.{Periodic, least_supply}
use Rattle.scope.specs.Tasks.{Task, task, tasks_of, task_at}
use Rattle.scope.specs.Bound.{Bound.bound, Bound.no_bound, ceil, asked, suffices, or_no_bound, response}
use Rattle.scope.specs.Answers.{Fault.fine, Fault.fault, absent_fault}
use Rattle.theory.specs.Numbers.{sum_le, sum_same, none_first, some_first}
use Rattle.theory.specs.Lists.{pieces_length}
use Rattle.theory.specs.Answers.{LegalGroup}
use Rattle.theory.specs.Tasks.{TaskRule}
use Rattle.theory.specs.Bound.{asked_up, test_enough, test_no}
use Rattle.theory.specs.Ticks.{least_up_by}
use Rattle.tables.proofs.TaskLaws.{read_rule}

-- ---- what is asked

-- as the code rounds up
pub rounded : (t T : ℕ) → 1 ≤ T → div_ceil t T ≡ ceil t T
rounded t T h =
    let b = div_ceil_times t T h in
    let r : ℕ = t / T + min 1 (t % T) in
    let low : r ≤ ceil t T = (le-div_iff_mul-le h).1 (omega (arith, b.1)) in
    let high : ceil t T < r + 1 = (div-lt_iff_lt-mul h).1 (omega (arith, b.0, add-mul r 1 T)) in
    omega (arith, low, high)

-- ceil(t/T)·C of a task
abbrev pub asked_by : ℕ → Task → ℕ
asked_by t x = ceil t x.T * x.C

-- by task i and the first j of those above it
unfoldable pub asked_to : List Task → ℕ → ℕ → ℕ → ℕ
asked_to ts i t j = (task_at ts i).C + sum (λ k. asked_by t (task_at ts k)) j

module _ (ts : List Task) (i t : ℕ) where
  pub asked_to_none : asked_to ts i t 0 ≡ (task_at ts i).C
  unfolding asked_to sum
  asked_to_none = omega arith

  pub asked_to_next : (j : ℕ) → asked_to ts i t (j + 1) ≡ asked_to ts i t j + asked_by t (task_at ts j)
  unfolding asked_to sum
  asked_to_next j = rw (add-one j) (omega arith)

  pub asked_to_whole : asked_to ts i t i ≡ asked ts i t
  unfolding asked_to asked
  asked_to_whole = refl

-- ceil(t/T) is at most t + T
pub asked_most : (x : Task) (t : ℕ) → TaskRule x → t ≤ most_length → asked_by t x ≤ (most_length + most_of_task) * most_of_task
asked_most x t ok h =
    mul-le-mul {n₂ = most_length + most_of_task} {m₂ = most_of_task} (omega (arith, div-le_self (t + (x.T - 1)) x.T, ok.period_most)) ok.work_most

pub asked_to_most : (ts : List ℕ) (i t j : ℕ) → LegalGroup ts → t ≤ most_length → i < length ts / 3 → j ≤ length ts / 3 →
    asked_to (tasks_of ts) i t j ≤ most_tasks * ((most_length + most_of_task) * most_of_task) + most_of_task
unfolding asked_to
asked_to_most ts i t j ok h l m =
    let x : ℕ → Task = task_at (tasks_of ts) in
    omega (
      arith,
      ok.few,
      (read_rule ts i (x i) ok l refl).work_most,
      sum_same ((most_length + most_of_task) * most_of_task) j,
      sum_le (λ k. asked_by t (x k)) (λ k. (most_length + most_of_task) * most_of_task) j (λ k u. asked_most (x k) t (read_rule ts k (x k) ok (omega arith) refl) h),
    )

pub asked_at_most : (ts : List ℕ) (i t : ℕ) → LegalGroup ts → t ≤ most_length → i < length (tasks_of ts) →
    asked (tasks_of ts) i t ≤ most_tasks * ((most_length + most_of_task) * most_of_task) + most_of_task
asked_at_most ts i t ok h l =
    let n = pieces_length _ 3 task ts in
    omega (arith, asked_to_whole (tasks_of ts) i t, asked_to_most ts i t i ok h (omega (arith, n)) (omega (arith, n)))

-- the deadline of a task as it is read is the task's, and small
pub read_due : (ts : List ℕ) (i : ℕ) (x : Task) (d : ℕ) → LegalGroup ts → i < length (tasks_of ts) → x ≡ task_at (tasks_of ts) i → d ≡ x.D →
    (d ≡ (task_at (tasks_of ts) i).D) × (d ≤ most_of_task)
read_due ts i x d ok l e is =
    let rule = read_rule ts i x ok (omega (arith, pieces_length _ 3 task ts)) e in
    (is ∙ ap (λ (y : Task). y.D) e, omega (arith, rule.due_most))

-- ---- the first length that suffices

-- no length below t suffices
abbrev pub Short : (ℕ → Bool) → ℕ → List Task → ℕ → ℕ → Type 0
Short σ P ts i t = (u : ℕ) → u < t → suffices σ P ts i u ≡ false

module _ (σ : ℕ → Bool) (P : ℕ) (ts : List Task) (i : ℕ) where
  -- length 0 is none
  pub short_first : Short σ P ts i 1
  short_first u l = test_no σ P ts i u (λ h. absurd (omega arith))

  -- as many ticks as are missing at t are needed at least: what is asked never falls, and a tick more supplies at most one more
  pub short_next : Periodic σ P → (t n a : ℕ) → n ≡ least_supply σ P t → a ≡ asked ts i t → n < a → Short σ P ts i t → Short σ P ts i (t + (a - n))
  short_next per t n a en ea h low u l =
      elim (dec_lt u t) [
        | yes v ↦ low u v
        | no v ↦
            let on : t + (u - t) ≡ u = omega arith in
            test_no σ P ts i u (λ w e.
            omega (arith, e, asked_up ts i t u (omega arith), least_up_by σ P per t (u - t), ap (least_supply σ P) on))
      ]

  pub bound_found : (t n a d : ℕ) → 1 ≤ t → t ≤ d → d ≡ (task_at ts i).D → n ≡ least_supply σ P t → a ≡ asked ts i t → a ≤ n → Short σ P ts i t →
      bound t ≡ response σ P ts i
  unfolding response
  bound_found t n a d l m ed en ea h low =
      sym (ap or_no_bound (some_first (suffices σ P ts i) (suc (task_at ts i).D) t (omega arith) (test_enough σ P ts i t l (omega arith)) low))

  pub no_bound_found : (t d : ℕ) → d < t → d ≡ (task_at ts i).D → Short σ P ts i t → no_bound ≡ response σ P ts i
  unfolding response
  no_bound_found t d h ed low = sym (ap or_no_bound (none_first (suffices σ P ts i) (suc (task_at ts i).D) (λ u l. low u (omega arith))))

-- ---- whether the task is there

pub tasks_count : (ts : List ℕ) → length (tasks_of ts) ≡ length ts / 3
tasks_count ts = pieces_length _ 3 task ts

module _ (ts : List ℕ) (i : ℕ) where
  pub absent : length ts / 3 ≤ i → fault 7 0 ≡ absent_fault (tasks_of ts) i
  unfolding absent_fault
  absent h = rw (le-leb (length (tasks_of ts)) i (omega (arith, pieces_length _ 3 task ts)))

  pub present : i < length ts / 3 → fine ≡ absent_fault (tasks_of ts) i
  unfolding absent_fault
  present h = rw (lt-leb (length (tasks_of ts)) i (omega (arith, pieces_length _ 3 task ts)))

pub ruleset asking = (rounded, asked_to_none, asked_to_next, asked_to_whole, asked_most, asked_to_most, read_rule, tasks_count)

pub ruleset responding = (read_due, short_first, asked_at_most)
