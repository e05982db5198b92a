-- Tasks as the code reads, tests and counts them
use mathlib.Core.Path.{◌≡◌, refl, sym, ◌∙◌}
use mathlib.Core.Bool.{Bool, true, false, cond, ◌&&◌}
use mathlib.Core.List.{List}
use Prim.Native.Nat.{ℕ, ◌+◌, ◌-◌, ◌*◌, ◌/◌, ◌≤◌, ◌<◌}
use native.Mathlib.Omega.{arith}
use native.Mathlib.Nat.{div-le_self, mul-le-mul}
use lib.ListN.{length}
use borrow.Author.Tests.{lt-ltb, le-ltb}
use Rattle.scope.specs.Numbers.{first_by, bad_count}
use Rattle.scope.specs.Limits.{most_tasks}
use Rattle.scope.specs.Tasks.{Task, task, tasks_of, task_at, task_legal, bad_task, task_demand}
use Rattle.scope.specs.Answers.{Fault.fault, Answer.given, Answer.refused, fault_if, task_list_fault, task_fault, task_answer}
use Rattle.theory.specs.Lists.{pieces_length, over_count}
use Rattle.theory.specs.Answers.{LegalGroup}
use Rattle.theory.specs.Tasks.{TaskRule}
use Rattle.std.specs.Prelude.{is_ok}
use Rattle.std.specs.declared.result.Result.{Result}
use Rattle.std.specs.declared.result.Result.TheVariants.{Ok, Err}
use Rattle.tables.specs.declared.answer.Refusal.{Refusal}
use Rattle.tables.specs.declared.task.Task as task_record
use Rattle.tables.specs.Told.{task_of, told_task}
use Rattle.tables.proofs.FaultLaws.{keeps, breaks}

-- ---- a && b as the code makes it: b where a holds, else a

pub and_yes : (a b : Bool) → a ≡ true → b ≡ a && b
and_yes a b e = rw e

pub and_no : (a b : Bool) → a ≡ false → a ≡ a && b
and_no a b e = rw e

-- ---- a task of a legal group, as it is read

pub read_rule : (ts : List ℕ) (i : ℕ) (x : Task) → LegalGroup ts → i < length ts / 3 → x ≡ task_at (tasks_of ts) i → TaskRule x
read_rule ts i x ok l e = rw e (ok.rules i (omega (arith, pieces_length _ 3 task ts)))

-- ---- one task alone

pub task_alone_lem : (x : Task) (t : Bool) → task_legal x ≡ t → cond t (given x) (refused 5 0) ≡ task_answer x
unfolding task_answer task_fault bad_task first_by
task_alone_lem x true e = rw e
task_alone_lem x false e = rw e

-- and back
pub taken_legal : (x y : Task) → given y ≡ task_answer x → true ≡ task_legal x
taken_legal x y e = sym (keeps (task_legal x) x 5 0 y (e ∙ sym (task_alone_lem x (task_legal x) refl))).0

pub refused_illegal : (x : Task) (n p : ℕ) → refused n p ≡ task_answer x → false ≡ task_legal x
refused_illegal x n p e = sym (breaks (task_legal x) x 5 0 n p (e ∙ sym (task_alone_lem x (task_legal x) refl)))

pub made_legal : (r : Result task_record.Task Refusal) (x : Task) → told_task r ≡ task_answer x → is_ok r ≡ task_legal x
made_legal (Ok y) x e = taken_legal x (task_of y) e
made_legal (Err r) x e = refused_illegal x _ _ e

-- ---- the demand of a task

pub demand_short : (x : Task) (t : ℕ) → t < x.D → 0 ≡ task_demand x t
unfolding task_demand
demand_short x t h = rw (lt-ltb t x.D h)

pub demand_long : (x : Task) (t : ℕ) → x.D ≤ t → ((t - x.D) / x.T + 1) * x.C ≡ task_demand x t
unfolding task_demand
demand_long x t h = rw (le-ltb t x.D h)

-- jobs of two 32-bit numbers, times a third: no more than 64 bits
pub work_most : (a b w : ℕ) → a < 4294967296 → w < 4294967296 → (a / b + 1) * w ≤ 4294967296 * 4294967295
work_most a b w h k = mul-le-mul {n₁ = a / b + 1} {m₁ = w} {n₂ = 4294967296} {m₂ = 4294967295} (omega (arith, div-le_self a b)) (omega arith)

-- ---- a list of tasks: in threes and not too many

module _ (ts : List ℕ) where
  pub list_by : (t : Bool) → bad_count 3 most_tasks ts ≡ t → fault_if t 4 0 ≡ task_list_fault ts
  unfolding task_list_fault
  list_by t e = rw e

  pub too_many : most_tasks < length ts / 3 → fault 4 0 ≡ task_list_fault ts
  too_many h = list_by true (over_count 3 most_tasks ts h)
