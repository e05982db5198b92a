use mathlib.Core.Path.{ap, ◌∙◌}
use native.Mathlib.Omega.{arith}
use Rattle.scope.specs.Windows.{framed, supplied_by}
use Rattle.theory.specs.Rows.{table_row}
use Rattle.theory.specs.Lags.{piece_lag, delay_fits}
use Rattle.supply.specs.declared.partition.Met.{Met}
use Rattle.supply.proofs.PartitionLaws.{edges_few, last_edge, last_none, counted_none, counted_next, lag_order, lag_is, lag_first, lag_all}
use Rattle.supply.proofs.WalkLaws.{walking_none, walking_next, walked, told_at, edge_more, edge_still}
use Rattle.supply.proofs.partition.measured.Goals as goal

pub loop-t-init : goal.loop-t-init
loop-t-init c =
    let ok = c.args.table.legal in
    rw c.into_iter-t-iterator.ensures.into_iter_gives (
      walking_none _ _ c.new-t-items.ensures,
      rw c.new-t-items.ensures.1 (counted_none _ _ _),
      rw c.new-t-items.ensures.1 (lag_first _ _ (table_row _ _ ok).repeats),
    )

pub edge_met-met-requires : goal.edge_met-met-requires
edge_met-met-requires c =
    let t = c.args.table in
    let so = c.loop-t.invariant in
    omega (arith, so.0.so.within, so.1.count, edges_few (framed t.frame) t.windows.now c.loop-t.t-iterator.t, t.legal.frame_most)

pub lag_with-requires : goal.lag_with-requires
lag_with-requires c =
    let p = told_at c.loop-t.invariant.0 _ _ c.next.new.self c.in-Some.ensures.steps in
    lag_order _ _ (table_row _ _ c.args.table.legal).repeats _ p.piece.ends c.least_at_ends-whole.ensures.1

pub loop-t-preserved : goal.loop-t-preserved
loop-t-preserved c =
    let t = c.args.table in
    let so = c.loop-t.invariant in
    let w = so.0 in
    let steps = c.in-Some.ensures.steps in
    let q = c.in-Some.piece in
    let p = told_at w _ _ c.next.new.self steps in
    let per = (table_row _ _ t.legal).repeats in (
      walking_next w _ _ _ steps,
      rw c.edge_met-met.ensures (counted_next so.1 _ _ (edge_more w _ _ c.next.new.self steps) (edge_still w _ _ c.next.new.self steps)),
      rw steps.3.1 (omega (
        arith,
        c.max-delay.ensures,
        c.lag_with.ensures,
        lag_is _ _ per _ p.piece.ends c.least_at_ends-whole.ensures.1,
        so.2,
        piece_lag (supplied_by (framed t.frame) t.windows.now) t.frame per c.loop-t.t-iterator.t q.end q.least q.rising p.piece,
      )),
    )

pub edge_met-all-requires : goal.edge_met-all-requires
edge_met-all-requires c =
    let t = c.args.table in
    let so = c.loop-t.invariant in
    omega (arith, so.0.so.within, so.1.count, edges_few (framed t.frame) t.windows.now c.loop-t.t-iterator.t, t.legal.frame_most)

pub overflow_cast-result : goal.overflow_cast-result
overflow_cast-result c =
    let ok = c.args.table.legal in
    let per = (table_row _ _ ok).repeats in
    let w = c.loop-t.invariant.0 in
    omega (arith, c.loop-t.invariant.2 ∙ lag_all _ _ per _ w.so.within (walked w c.in-None.ensures.steps), delay_fits _ _ per ok.frame_most)

pub returns : goal.returns
returns c =
    let so = c.loop-t.invariant in
    let w = so.0 in
    let ended = walked w c.in-None.ensures.steps in
    let all = counted_next so.1 _ _ (last_edge _ _ w.so ended) (last_none _ _ w.so ended) in
    let met = c.edge_met-all.ensures in record {
      whole = c.least_at_ends-whole.ensures.1;
      numbers = ap (λ (m : Met). m.count) met ∙ all.count;
      delay = so.2 ∙ lag_all _ _ (table_row _ _ c.args.table.legal).repeats _ w.so.within ended;
      same = ap (λ (m : Met). m.same) met ∙ all.same;
    }
