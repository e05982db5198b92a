use mathlib.Core.Path.{◌∙◌}
use native.Mathlib.Omega.{arith}
use Rattle.theory.specs.Rows.{table_row}
use Rattle.checker.proofs.BoundLaws.{read_due, short_next, bound_found, no_bound_found}
use Rattle.checker.proofs.bound.response_of.Goals as goal

pub returns-then-asked-least : goal.returns-then-asked-least
returns-then-asked-least c =
    let l = c.loop-length in
    let g = c.args.group in
    let due = read_due g.tasks.now _ _ _ g.legal c.requires c.task_at.ensures c.from-deadline.ensures in
    bound_found _ _ _ _ l.length _ _ _ l.invariant.0 c.loop-length-test.true due.0
    (c.from-least.ensures ∙ c.least_of.ensures) c.asked_of-asked.ensures c.if-asked-least.true l.invariant.1

pub loop-length-preserved : goal.loop-length-preserved
loop-length-preserved c =
    let l = c.loop-length in (
      omega arith,
      short_next _ _ _ _ (table_row _ _ c.args.table.legal).repeats l.length _ _
          (c.from-least.ensures ∙ c.least_of.ensures) c.asked_of-asked.ensures c.if-asked-least.false l.invariant.1,
    )

pub returns : goal.returns
returns c =
    let l = c.loop-length in
    let g = c.args.group in
    let due = read_due g.tasks.now _ _ _ g.legal c.requires c.task_at.ensures c.from-deadline.ensures in
    no_bound_found _ _ _ _ l.length _ c.loop-length-test.false due.0 l.invariant.1
