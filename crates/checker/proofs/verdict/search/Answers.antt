use mathlib.Core.Path.{refl, ap, ◌∙◌}
use Prim.Native.Nat.{◌<◌}
use native.Mathlib.Omega.{arith}
use native.Mathlib.Nat.{mod-lt}
use Rattle.scope.specs.Limits.{most_number}
use Rattle.theory.specs.Rows.{table_row}
use Rattle.tables.specs.Told.{verdict_of}
use Rattle.checker.proofs.DemandLaws.{demand_most}
use Rattle.checker.proofs.StretchLaws.{spans_slides, started_first, first_at, on_by_one, started_next, start_found}
use Rattle.checker.proofs.VerdictLaws.{judged, next_later, reached_next, reached_first, search_meets, search_misses}
use Rattle.checker.proofs.verdict.search.Goals as goal

pub search-init : goal.search-init
search-init c =
    let a = c.args in
    (refl, reached_first _ _ (table_row _ _ a.table.legal).repeats _ a.group.legal.rules _ _ c.rise_at-length.ensures)

-- the demand of the length, which is small
pub overflow_add-demand : goal.overflow_add-demand
overflow_add-demand c =
    let g = c.args.group in
    let s = c.search in
    let risen = c.rise_at-risen.ensures in
    let small = demand_most g.tasks.now s.length g.legal (omega (arith, c.search-test.true, c.requires)) in
    omega (arith, s.invariant.1.demanded, risen.by, small)

pub loop-start-init : goal.loop-start-init
loop-start-init c =
    let ok = c.args.table.legal in
    let spans = c.new-stretch.ensures in
    (c.search.invariant.0, first_at _ _ ok _ _ spans, started_first _ _ ok _ _ spans)

pub slid-stretch-requires : goal.slid-stretch-requires
slid-stretch-requires c =
    let ok = c.args.table.legal in
    spans_slides _ _ ok _ _ _ c.loop-start.invariant.2.spans (omega (arith, mod-lt c.search.length ok.frame, ok.frame_most))

pub loop-start-preserved : goal.loop-start-preserved
loop-start-preserved c =
    let ok = c.args.table.legal in
    let l = c.loop-start in
    let started = l.invariant.2 in
    let least = c.least_of-least.ensures in
    let next = on_by_one _ _ ok _ _ _ _ started least (λ e. omega (arith, e, c.if-stretch-least.false)) c.slid-stretch.ensures in (
      l.invariant.0,
      omega (arith, l.invariant.1, next),
      started_next _ _ ok _ _ _ _ started least (λ e. omega (arith, e, c.if-stretch-least.false)) c.slid-stretch.ensures,
    )

pub search-smaller : goal.search-smaller
search-smaller c =
    let a = c.args in
    let s = c.search in
    let short : s.length < most_number = omega (arith, c.search-test.true, c.requires) in
    let risen = c.rise_at-risen.ensures in
    omega (arith, c.search-test.true, next_later _ _ (table_row _ _ a.table.legal).repeats _ a.group.legal.rules _ _ _ short risen)

pub search-preserved : goal.search-preserved
search-preserved c =
    let a = c.args in
    let s = c.search in
    let per = (table_row _ _ a.table.legal).repeats in
    let short : s.length < most_number = omega (arith, c.search-test.true, c.requires) in
    let risen = c.rise_at-risen.ensures in
    let at = judged _ _ per _ _ _ _ _ _ _ _ s.invariant.1 risen c.known_or_least-supply.ensures in (
      s.invariant.0,
      reached_next _ _ per _ a.group.legal.rules _ _ _ _ _ short at (omega (arith, c.from.ensures, c.if-from-demand.false)),
    )

pub returns-after-search : goal.returns-after-search
returns-after-search c =
    let s = c.search in
    ap verdict_of s.invariant.0 ∙ search_meets _ _ (table_row _ _ c.args.table.legal).repeats _ _ s.length c.search-test.false s.invariant.1.past

pub returns-then-stretch-least : goal.returns-then-stretch-least
returns-then-stretch-least c =
    let s = c.search in
    let l = c.loop-start in
    let ok = c.args.table.legal in
    let per = (table_row _ _ ok).repeats in
    let risen = c.rise_at-risen.ensures in
    let at = judged _ _ per _ _ _ _ _ _ _ _ s.invariant.1 risen c.known_or_least-supply.ensures in
    let found = start_found _ _ ok _ _ _ l.invariant.2 c.least_of-least.ensures c.if-stretch-least.true in
    search_misses _ _ per _ _ _ _ _ _ _ _ c.search-test.true at (omega (arith, c.from.ensures, c.if-from-demand.true)) (l.invariant.1 ∙ found)
