use mathlib.Core.Path.{refl, sym, ap, ◌∙◌}
use native.Mathlib.Omega.{arith}
use borrow.Author.Count.{below_none, below_more}
use lib.ListN.{get_or}
use Rattle.scope.specs.Numbers.{sum}
use Rattle.scope.specs.Tasks.{task_legal}
use Rattle.scope.specs.Answers.{Answer.given}
use Rattle.tables.specs.Told.{task_of}
use Rattle.records.proofs.NumberLaws.{none, task_at_lem}
use Rattle.records.proofs.TaskLaws.{task_most}
use Rattle.records.proofs.SumLaws.{summed_more, roomy, too_many, broken_at, answered, too_long}
use Rattle.records.proofs.demand.demand.Goals as goal

pub returns-then-tasks-gt-MOST : goal.returns-then-tasks-gt-MOST
returns-then-tasks-gt-MOST c = too_many c.args.tasks.now c.args.length c.if-tasks-gt-MOST.true

pub loop-i-init : goal.loop-i-init
unfolding sum
loop-i-init c = record { kept = below_none _; added = refl }

pub returns-then-not-is_task : goal.returns-then-not-is_task
returns-then-not-is_task c =
    let l = c.loop-i in
    broken_at c.args.tasks.now c.args.length (omega arith) l.i (omega arith) l.invariant.kept (sym c.is_task.ensures ∙ c.if-not-is_task.true)

pub overflow_add-sum : goal.overflow_add-sum
overflow_add-sum c =
    let l = c.loop-i in
    omega (
      arith,
      l.invariant.added,
      roomy c.args.tasks.now c.args.length l.i l.invariant.kept (omega arith) (omega arith),
      c.demand-sum.ensures,
      task_most (task_of (get_or c.args.tasks.now l.i none)) c.args.length (sym c.is_task.ensures ∙ c.if-not-is_task.false) (omega arith),
    )

pub loop-i-preserved : goal.loop-i-preserved
loop-i-preserved c =
    let l = c.loop-i in
    record {
      kept = below_more _ _ l.invariant.kept (ap task_legal (task_at_lem c.args.tasks.now l.i) ∙ sym c.is_task.ensures ∙ c.if-not-is_task.false);
      added = omega (arith, l.invariant.added, c.demand-sum.ensures, summed_more c.args.tasks.now c.args.length l.i);
    }

pub returns-in_err-check_length : goal.returns-in_err-check_length
returns-in_err-check_length c =
    let l = c.loop-i in
    let r = too_long c.args.tasks.now c.args.length (omega arith) l.i (omega arith) l.invariant.kept c.in_err-check_length.ensures in
    grind (arith, r)

pub returns : goal.returns
returns c =
    let l = c.loop-i in
    ap given l.invariant.added ∙ answered c.args.tasks.now c.args.length (omega arith) l.i (omega arith) l.invariant.kept c.in_ok-check_length.ensures
