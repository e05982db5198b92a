use mathlib.Core.Path.{◌≡◌}
use native.Mathlib.Omega.{arith}
use Rattle.checker.proofs.StretchLaws.{on_le, counted_none, counted_more, counted_all}
use Rattle.checker.proofs.stretch.Stretch.new.Goals as goal

pub loop-init : goal.loop-init
loop-init c = counted_none _ _ c.args.table.legal _ c.new-to.ensures

pub overflow_add-supply : goal.overflow_add-supply
overflow_add-supply c =
    let l = c.loop in
    omega (arith, l.invariant.few, c.tick_at-supply.ensures, on_le c.args.table.windows.now l.to)

pub loop-preserved : goal.loop-preserved
loop-preserved c =
    let l = c.loop in
    counted_more _ _ c.args.table.legal l.counter l.to _ _ _ l.invariant c.tick_at-supply.ensures c.next-to.ensures

pub returns : goal.returns
returns c =
    let a = c.args in
    let l = c.loop in
    let e : l.counter ≡ a.length = omega arith in
    counted_all _ _ a.table.legal _ _ _ _ (rw e at l.invariant) c.new.ensures
