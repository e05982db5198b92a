use mathlib.Core.Bool.{true, false}
use mathlib.Core.Path.{◌≡◌}
use Prim.Native.Nat.{ℕ, ◌/◌, ◌≤◌, ◌<◌}
use lib.ListN.{length}
use native.Mathlib.Omega.{arith}
use Rattle.std.proofs.Common.{rules}
use Rattle.std.specs.declared.option.Option.TheVariants.{Some, None}
use Rattle.std.proofs.lemmas.Iterator.{first_from_Range}
use Rattle.scope.specs.Tasks.{task, tasks_of, task_at, task_legal, bad_task}
use Rattle.scope.specs.Answers.{task_fault}
use Rattle.theory.specs.Lists.{pieces_length}
use Rattle.tables.proofs.FaultLaws.{breaks_at_lem, breaks_nowhere}
use Rattle.tables.proofs.task.check_each_task.Goals as goal

pub returns-in-Some : goal.returns-in-Some
unfolding task_fault bad_task
returns-in-Some c =
    let a = c.args in
    let i = c.in-Some.i in
    let legal = λ (i : ℕ). task_legal (task_at (tasks_of a.tasks.now) i) in
    let f : (0 ≤ i) × (i < length a.tasks.now / 3) × (legal i ≡ false) × ((k : ℕ) → 0 ≤ k → k < i → legal k ≡ true) =
    first_from_Range (record { start = 0; end = length a.tasks.now / 3 }) _ _ (Some i) (λ i. legal i ≡ false) (λ i. legal i ≡ true) c.in-Some.ensures.ran
    (λ x q k. search rules) (λ x q k. (search rules, search rules)) in
    breaks_at_lem 5 legal _ i (omega (arith, f, pieces_length _ 3 task a.tasks.now)) (λ k h. f.3 k (omega arith) h) f.2

pub returns-in-None : goal.returns-in-None
unfolding task_fault bad_task
returns-in-None c =
    let a = c.args in
    let legal = λ (i : ℕ). task_legal (task_at (tasks_of a.tasks.now) i) in
    let f : (k : ℕ) → 0 ≤ k → k < length a.tasks.now / 3 → legal k ≡ true =
    first_from_Range (record { start = 0; end = length a.tasks.now / 3 }) _ _ None (λ i. legal i ≡ false) (λ i. legal i ≡ true) c.in-None.ensures.ran
    (λ x q k. search rules) (λ x q k. (search rules, search rules)) in
    breaks_nowhere 5 legal _ (λ k h. f k (omega arith) (omega (arith, pieces_length _ 3 task a.tasks.now)))
