use Rattle.replay.proofs.RecordsLaws.{few_records}
use Rattle.replay.proofs.OrderLaws.{passing_first, passing_found, passing_next, passing_end}
use Rattle.std.proofs.Common.{rules, arith, inl, sym, ◌∙◌}
use Rattle.replay.proofs.order.first_bad.Goals as goal

pub loop-i-init-derived : goal.loop-i-init-derived
loop-i-init-derived c =
    rw (
      c.into_iter-i-iterator.ensures.into_iter_gives,
      c.enumerate-i-items.ensures.source,
      c.enumerate-i-items.ensures.count,
      c.records.ensures,
    ) ((tt, tt, inl (omega (arith, few_records _ _ c.args.trace.fits c.ranges.trace.0))), tt)

pub loop-i-init : goal.loop-i-init
loop-i-init c =
    rw (
      c.into_iter-i-iterator.ensures.into_iter_gives,
      c.enumerate-i-items.ensures.source,
      c.enumerate-i-items.ensures.count,
    ) (passing_first _ _ _ c.records.ensures)

pub returns-then-breaks : goal.returns-then-breaks
returns-then-breaks c =
    let s = c.in-Some.ensures.steps in
    passing_found _ _ _ _ _ _ _ _ c.loop-i.invariant s.0 _ s.1 (sym c.breaks.ensures ∙ c.if-breaks.true)

pub overflow_add-j : goal.overflow_add-j
overflow_add-j c =
    let s = c.in-Some.ensures.steps in
    let p = passing_next _ _ _ _ _ _ _ _ c.loop-i.invariant s.0 (sym c.breaks.ensures ∙ c.if-breaks.false) in
    rw (c.from-j.ensures, c.is_release.ensures) (search (rules, p.few, s.1, s.3))

pub loop-i-preserved : goal.loop-i-preserved
loop-i-preserved c =
    let s = c.in-Some.ensures.steps in
    rw (s.2, c.from-j.ensures, c.is_release.ensures) (passing_next _ _ _ _ _ _ _ _ c.loop-i.invariant s.0 (sym c.breaks.ensures ∙ c.if-breaks.false))

pub returns : goal.returns
returns c = passing_end _ _ _ _ _ _ c.loop-i.invariant c.in-None.ensures.steps.0.0
