-- The demand of a group as it is summed, one record after the other
use mathlib.Core.Path.{◌≡◌, sym, ap, ◌∙◌}
use mathlib.Core.Bool.{true, false}
use mathlib.Core.List.{List}
use Prim.Native.Nat.{ℕ, ◌+◌, ◌^◌, ◌≤◌, ◌<◌}
use native.Mathlib.Omega.{arith}
use native.Mathlib.Numerals.{add-one}
use lib.ListN.{length, get_or}
use borrow.Author.Tests.{lt-ltb, le-ltb}
use Rattle.scope.specs.Limits.{most_tasks}
use Rattle.scope.specs.Numbers.{sum}
use Rattle.scope.specs.Tasks.{Task, tasks_of, task_at, task_legal, bad_task, task_demand}
use Rattle.scope.specs.Answers.{Fault.fine, Fault.fault, Answer.given, Answer.refused, length_fault, task_list_fault, task_fault, group_fault, demand_answer}
use Rattle.theory.specs.Numbers.{sum_le, sum_same}
use Rattle.theory.specs.Tasks.{demand_sum}
use Rattle.tables.specs.Told.{task_of}
use Rattle.tables.specs.declared.task.Task as records
use Rattle.tables.proofs.FaultLaws.{if_true, if_false, stopped, passed, refused_there, given_there, breaks_at_lem, breaks_nowhere}
use Rattle.records.specs.Numbers.{numbers_of}
use Rattle.records.proofs.NumberLaws as numbers
use Rattle.records.proofs.TaskLaws.{task_most}

module _ (ys : List records.Task) (t : ℕ) where
  abbrev ts : List Task
  ts = tasks_of (numbers_of ys)

  -- the demand of the first i records
  abbrev pub summed : ℕ → ℕ
  summed i = sum (λ k. task_demand (task_at ts k) t) i

  -- they keep their rule
  abbrev pub Kept : ℕ → Type 0
  Kept i = (k : ℕ) → k < i → task_legal (task_at ts k) ≡ true

  -- record i is added
  pub summed_more : (i : ℕ) → summed i + task_demand (task_of (get_or ys i numbers.none)) t ≡ summed (i + 1)
  unfolding sum
  summed_more i = rw (sym (numbers.task_at_lem ys i), add-one i)

  -- as many tasks as a group may have, of at most 2 ^ 52 each
  pub roomy : (i : ℕ) → Kept i → i ≤ most_tasks → t < 2 ^ 32 → summed i ≤ 2 ^ 57
  roomy i kept few h =
      omega (
        arith,
        sum_le (λ k. task_demand (task_at ts k) t) (λ k. 2 ^ 52) i (λ k j. task_most (task_at ts k) t (kept k j) h),
        sum_same (2 ^ 52) i,
      )

  pub too_many : most_tasks < length ys → refused 4 0 ≡ demand_answer (numbers_of ys) t
  unfolding demand_answer group_fault
  too_many h = refused_there _ (stopped _ (stopped _ (if_true _ 4 0 (lt-ltb _ _ h) ∙ sym (numbers.list_fault_lem ys))))

  module _ (few : length ys ≤ most_tasks) where
    list_kept : fine ≡ task_list_fault (numbers_of ys)
    list_kept = if_false _ 4 0 (le-ltb _ _ few) ∙ sym (numbers.list_fault_lem ys)

    -- record i is the first that breaks its rule
    pub broken_at : (i : ℕ) → i < length ys → Kept i → task_legal (task_of (get_or ys i numbers.none)) ≡ false → refused 5 i ≡ demand_answer (numbers_of ys) t
    unfolding demand_answer group_fault task_fault bad_task
    broken_at i h kept broken =
        refused_there _ (stopped _ (passed list_kept (breaks_at_lem 5 (λ k. task_legal (task_at ts k)) (length ts) i (omega (arith, numbers.tasks_length ys)) kept
        (ap task_legal (numbers.task_at_lem ys i) ∙ broken))))

    -- all of them keep it
    module _ (i : ℕ) (all : i ≡ length ys) (kept : Kept i) where
      group_kept : fine ≡ group_fault (numbers_of ys)
      unfolding group_fault task_fault bad_task
      group_kept =
          passed list_kept (breaks_nowhere 5 (λ k. task_legal (task_at ts k)) (length ts) (λ k h. kept k (omega (arith, numbers.tasks_length ys))))

      pub answered : fine ≡ length_fault t → given (summed i) ≡ demand_answer (numbers_of ys) t
      unfolding demand_answer
      answered e = ap given (rw (all, sym (numbers.tasks_length ys)) (sym (demand_sum ts t))) ∙ given_there _ (passed group_kept e)

      pub too_long : {n p : ℕ} → fault n p ≡ length_fault t → refused n p ≡ demand_answer (numbers_of ys) t
      unfolding demand_answer
      too_long e = refused_there _ (passed group_kept e)
