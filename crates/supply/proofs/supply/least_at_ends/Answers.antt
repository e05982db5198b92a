use native.Mathlib.Omega.{arith}
use Rattle.supply.proofs.SupplyLaws.{tried_none, known, still_behind, enough, stretch_is, passed_next, tried_next, all_tried}
use Rattle.supply.proofs.supply.least_at_ends.Goals as goal

pub loop-i-init : goal.loop-i-init
loop-i-init c = tried_none _ _ c.args.table.legal _ _ c.first-position.ensures

pub start_after-start-requires : goal.start_after-start-requires
start_after-start-requires c =
    let k = known _ _ _ _ c.loop-i.invariant.passed (omega arith) c.window_of-window.ensures in (k.order, omega (arith, k))

pub overflow_add-end : goal.overflow_add-end
overflow_add-end c =
    omega (arith, c.start_after-start.ensures, known _ _ _ _ c.loop-i.invariant.passed (omega arith) c.window_of-window.ensures)

pub moved-position-requires : goal.moved-position-requires
moved-position-requires c =
    let passed = c.loop-i.invariant.passed in
    let read = c.window_of-window.ensures in
    let start = c.start_after-start.ensures in
    (still_behind _ _ _ _ passed (omega arith) read start, omega (arith, start, known _ _ _ _ passed (omega arith) read))

pub upto-requires : goal.upto-requires
upto-requires c = (
  c.moved-position.ensures.0.stands,
  omega (arith, c.start_after-start.ensures, known _ _ _ _ c.loop-i.invariant.passed (omega arith) c.window_of-window.ensures),
)

pub overflow_sub-upto : goal.overflow_sub-upto
overflow_sub-upto c =
    enough _ _ _ _ c.loop-i.invariant.passed (omega arith) c.window_of-window.ensures c.start_after-start.ensures c.moved-position.ensures c.upto.ensures

pub loop-i-preserved : goal.loop-i-preserved
loop-i-preserved c =
    let so = c.loop-i.invariant in
    let read = c.window_of-window.ensures in
    let start = c.start_after-start.ensures in
    let at = c.moved-position.ensures in
    rw c.min-least.ensures
    (tried_next _ _ _ _ so (passed_next _ _ _ _ so.passed (omega arith) read start at.0)
    (stretch_is _ _ _ _ so.passed (omega arith) read start at c.upto.ensures))

pub returns : goal.returns
returns c = all_tried _ _ _ _ (omega arith) c.loop-i.invariant
