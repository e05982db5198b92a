use native.Mathlib.Omega.{arith}
use Rattle.machine.proofs.Said.{at_first, goes_next}
use Rattle.machine.proofs.tick.advance.Goals as goal

pub loop-s-init : goal.loop-s-init
loop-s-init c = at_first c.args.course _ _ (omega arith) c.requires _ c.new-s.ensures

pub loop-s-smaller : goal.loop-s-smaller
loop-s-smaller c =
    let l = c.loop-s in
    (goes_next c.args.course c.args.counts.now c.args.places.now (omega arith) c.requires l.s l.places l.counts l.invariant (omega arith) _ _ _ c.tick.ensures).1

pub loop-s-preserved : goal.loop-s-preserved
loop-s-preserved c =
    let l = c.loop-s in
    (goes_next c.args.course c.args.counts.now c.args.places.now (omega arith) c.requires l.s l.places l.counts l.invariant (omega arith) _ _ _ c.tick.ensures).0
