-- The cycle as the code finds it: the least common multiple grows by one task after the other
use mathlib.Core.Path.{◌≡◌, sym, ◌∙◌}
use mathlib.Core.List.{List}
use Prim.Native.Nat.{ℕ, ◌+◌, ◌*◌, ◌/◌, ◌≤◌, ◌<◌}
use native.Mathlib.Omega.{arith}
use native.Mathlib.Nat.{div-le_self, mul-le-mul, le_trans, le_of_dvd}
use native.Mathlib.Numerals.{add-one}
use lib.ListN.{length, drop}
use lib.Seq.{drop-cons, drop-length}
use borrow.Author.Tests.{lt-ltb, le-ltb, ltb-false}
use Rattle.scope.specs.Limits.{most_of_task, most_cycle}
use Rattle.scope.specs.Windows.{framed}
use Rattle.scope.specs.Tasks.{Task, task, tasks_of, task_at}
use Rattle.scope.specs.Cycle.{gcd, lcm, cycle}
use Rattle.scope.specs.Answers.{Fault.fine, Answer.given, Answer.refused, unless, cycle_fault}
use Rattle.theory.specs.Answers.{LegalGroup, unless_given, fault_if_fine}
use Rattle.theory.specs.Lists.{pieces_length}
use Rattle.theory.specs.Tasks.{TaskRules}
use Rattle.theory.specs.Cycle.{cycle_pos, cycle_frame}
use Rattle.tables.proofs.FaultLaws.{fault_of_lem, none_of}
use Rattle.tables.proofs.TaskLaws.{read_rule}

-- one task further
cycle_next : (h : ℕ) (ts : List Task) (i : ℕ) → i < length ts → cycle h (drop i ts) ≡ cycle (lcm h (task_at ts i).T) (drop (i + 1) ts)
unfolding cycle
cycle_next h ts i l = rw (drop-cons ts i (task 0 0 0) l, add-one i)

-- one turn of the loop: the period p of task x is read, and taken in
module _ (ts : List ℕ) (i : ℕ) (x : Task) (p : ℕ) (l : i < length ts / 3) (read : x ≡ task_at (tasks_of ts) i) (is : p ≡ x.T) where
  pub read_period : LegalGroup ts → (1 ≤ p) × (p ≤ most_of_task)
  read_period ok = let r = read_rule ts i x ok l read in (omega (arith, is, r.period), omega (arith, is, r.period_most))

  pub cycle_turn : (P h g : ℕ) → g ≡ gcd h p → cycle P (tasks_of ts) ≡ cycle h (drop i (tasks_of ts)) →
      cycle P (tasks_of ts) ≡ cycle (h / g * p) (drop (i + 1) (tasks_of ts))
  unfolding lcm
  cycle_turn P h g made found =
      let n : i < length (tasks_of ts) = omega (arith, pieces_length _ 3 task ts) in
      found ∙ cycle_next h (tasks_of ts) i n ∙ rw (made, is, read)

-- no task is left
pub cycle_end : (P h : ℕ) (ts : List ℕ) (i : ℕ) → i ≡ length ts / 3 → cycle P (tasks_of ts) ≡ cycle h (drop i (tasks_of ts)) → cycle P (tasks_of ts) ≡ h
unfolding cycle
cycle_end P h ts i e found = found ∙ rw (e ∙ sym (pieces_length _ 3 task ts), drop-length (tasks_of ts))

-- of two numbers up to their limits the quotient by any third, times the second, is small
pub product_most : (h g t : ℕ) → h ≤ most_cycle → t ≤ most_of_task → h / g * t ≤ most_cycle * most_of_task
product_most h g t a b = mul-le-mul {n₂ = most_cycle} {m₂ = most_of_task} (le_trans (div-le_self h g) a) b

-- what is over the limit stays over it: the cycle is a multiple of what is found so far
pub cycle_over : (P : ℕ) (ts : List Task) (h : ℕ) (rest : List Task) → 0 < P → TaskRules ts → cycle P ts ≡ cycle h rest →
    most_cycle < h → refused 6 0 ≡ unless (cycle_fault (framed P) ts) (cycle P ts)
unfolding cycle_fault
cycle_over P ts h rest p ok e l =
    let pos : 0 < cycle h rest = omega (arith, cycle_pos P ts p ok) in
    let grown : h ≤ cycle h rest = le_of_dvd pos (cycle_frame h rest) in
    rw (lt-ltb most_cycle (cycle P ts) (omega (arith, grown)))

-- no task is left, and the limit is kept
pub cycle_found : (P : ℕ) (ts : List Task) (h : ℕ) → cycle P ts ≡ h → h ≤ most_cycle → given h ≡ unless (cycle_fault (framed P) ts) (cycle P ts)
unfolding cycle_fault
cycle_found P ts h e l = rw (e, le-ltb most_cycle h l)

-- and back: a cycle that was found keeps the limit
module _ (P : ℕ) (ts : List Task) (h : ℕ) (e : given h ≡ unless (cycle_fault (framed P) ts) (cycle P ts)) where
  pub cycle_fine : fine ≡ cycle_fault (framed P) ts
  cycle_fine = none_of (cycle_fault (framed P) ts) _ h e

  pub cycle_same : cycle P ts ≡ h
  cycle_same = (unless_given (cycle_fault (framed P) ts) _ h (sym e)).1

  pub cycle_small : h ≤ most_cycle
  unfolding cycle_fault
  cycle_small = omega (arith, cycle_same, ltb-false most_cycle (cycle P ts) (fault_if_fine _ 6 0 (sym cycle_fine)))

pub ruleset cycled = (cycle_fine, cycle_same, cycle_small, fault_of_lem)

pub ruleset growing = (read_period, cycle_end, product_most, cycle_found)
