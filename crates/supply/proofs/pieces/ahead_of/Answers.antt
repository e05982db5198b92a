use native.Mathlib.Omega.{arith}
use mathlib.Core.Path.{◌≡◌}
use lib.ListN.{length}
use Prim.Native.Nat.{◌*◌, ◌/◌, ◌≤◌}
use Rattle.scope.specs.Limits.{most_frame}
use Rattle.theory.specs.Rows.{table_row}
use Rattle.theory.specs.Pieces.{ahead_none}
use Rattle.supply.specs.Ahead.{far_of}
use Rattle.supply.proofs.PositionLaws.{small}
use Rattle.supply.proofs.SupplyLaws.{passed_none, known, tick_is, still_behind, enough, stretch_is, passed_next}
use Rattle.supply.proofs.PieceLaws.{ticks_here, ticks_near, within_length, joins}
use Rattle.supply.proofs.pieces.ahead_of.Goals as goal

pub loop-i-init : goal.loop-i-init
loop-i-init c =
    let ok = c.args.table.legal in
    (passed_none _ _ ok _ _ c.first-position.ensures, omega arith, omega arith, ahead_none _ _ (table_row _ _ ok).repeats _ _ _)

pub start_after-start-requires : goal.start_after-start-requires
start_after-start-requires c =
    let k = known _ _ _ _ c.loop-i.invariant.0 (omega arith) c.window_of-window.ensures in (k.order, omega (arith, k))

pub overflow_add-end : goal.overflow_add-end
overflow_add-end c =
    omega (arith, c.start_after-start.ensures, known _ _ _ _ c.loop-i.invariant.0 (omega arith) c.window_of-window.ensures)

pub moved-position-requires : goal.moved-position-requires
moved-position-requires c =
    let passed = c.loop-i.invariant.0 in
    let read = c.window_of-window.ensures in
    let start = c.start_after-start.ensures in
    (still_behind _ _ _ _ passed (omega arith) read start, omega (arith, start, known _ _ _ _ passed (omega arith) read))

pub ticks_after-ticks-requires : goal.ticks_after-ticks-requires
ticks_after-ticks-requires c = let m = c.moved-position.ensures in (m.0.stands, omega (arith, m.1))

pub upto-requires : goal.upto-requires
upto-requires c = (
  c.moved-position.ensures.0.stands,
  omega (arith, c.start_after-start.ensures, known _ _ _ _ c.loop-i.invariant.0 (omega arith) c.window_of-window.ensures),
)

pub overflow_sub-supply : goal.overflow_sub-supply
overflow_sub-supply c =
    enough _ _ _ _ c.loop-i.invariant.0 (omega arith) c.window_of-window.ensures c.start_after-start.ensures c.moved-position.ensures c.upto.ensures

pub overflow_sub-supply-in-loop-i : goal.overflow_sub-supply-in-loop-i
overflow_sub-supply-in-loop-i c =
    (within_length _ _ c.args.table.legal _ c.requires.1
    (stretch_is _ _ _ _ c.loop-i.invariant.0 (omega arith) c.window_of-window.ensures c.start_after-start.ensures c.moved-position.ensures c.upto.ensures)).0

pub joined-ahead-requires : goal.joined-ahead-requires
joined-ahead-requires c =
    let m = c.moved-position in
    let ok = c.args.table.legal in
    let far : far_of c.ticks_after-ticks.result ≤ 8 * most_frame =
    omega (arith, ticks_near _ _ _ _ m.ensures c.ticks_after-ticks.ensures, small _ _ m.result m.ensures.0.stands) in
    let f = within_length _ _ ok _ c.requires.1
    (stretch_is _ _ _ _ c.loop-i.invariant.0 (omega arith) c.window_of-window.ensures c.start_after-start.ensures m.ensures c.upto.ensures) in
    omega (arith, far, f.1, c.requires.0, ok.frame_most)

pub loop-i-preserved : goal.loop-i-preserved
loop-i-preserved c =
    let so = c.loop-i.invariant in
    let read = c.window_of-window.ensures in
    let start = c.start_after-start.ensures in
    let at = c.moved-position.ensures in
    let after = rw (tick_is _ _ _ _ so.0 (omega arith) read start) at (ticks_here _ _ _ _ at c.ticks_after-ticks.ensures) in
    let j = joins _ _ c.args.table.legal c.requires.1 (stretch_is _ _ _ _ so.0 (omega arith) read start at c.upto.ensures) so.3 so.1 _ after in (
      passed_next _ _ _ _ so.0 (omega arith) read start at.0,
      rw c.joined-ahead.ensures j.rises,
      rw c.joined-ahead.ensures (omega (arith, j.most, so.2)),
      rw c.joined-ahead.ensures j.ahead,
    )

pub returns : goal.returns
returns c =
    let so = c.loop-i.invariant in
    let all : c.loop-i.i ≡ length c.args.table.windows.now / 2 = omega arith in
    record { legal = c.args.table.legal; some = so.1; most = so.2; ahead = rw all at so.3 }
