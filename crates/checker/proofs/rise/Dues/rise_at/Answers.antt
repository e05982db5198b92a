use mathlib.Core.Path.{ap}
use native.Mathlib.Omega.{arith}
use Rattle.checker.specs.declared.rise.Dues.{Dues}
use Rattle.checker.proofs.RiseLaws.{moving_none, by_most, moving_more, moving_all}
use Rattle.checker.proofs.rise.Dues.rise_at.Goals as goal

pub loop-i-init : goal.loop-i-init
loop-i-init c = moving_none _ c.args.group.legal _ _ c.requires.1

pub overflow_add-by : goal.overflow_add-by
overflow_add-by c =
    let l = c.loop-i in
    let g = c.args.group in
    omega (arith, by_most g.tasks.now g.legal _ l.i _ _ _ l.invariant c.loop-i-test.true _ c.reach-by.ensures.answer c.requires.0)

pub loop-i-preserved : goal.loop-i-preserved
loop-i-preserved c =
    let l = c.loop-i in
    let g = c.args.group in
    let due = ap (λ (d : Dues). d.due) c.reach-by.ensures.deadline in
    moving_more g.tasks.now g.legal _ l.i _ _ _ l.invariant c.loop-i-test.true _ _ _ due c.reach-by.ensures.answer c.min-next.ensures

pub returns : goal.returns
returns c =
    let l = c.loop-i in
    let g = c.args.group in
    moving_all g.tasks.now g.legal _ l.i _ _ _ (omega arith) l.invariant
