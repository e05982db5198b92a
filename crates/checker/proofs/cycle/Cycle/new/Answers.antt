use mathlib.Core.Path.{◌≡◌}
use Prim.Native.Nat.{◌+◌, ◌*◌, ◌/◌}
use lib.ListN.{drop}
use Rattle.scope.specs.Tasks.{tasks_of}
use Rattle.scope.specs.Cycle.{cycle}
use Rattle.theory.specs.Cycle.{gcd_pos}
use Rattle.checker.proofs.CycleLaws.{read_period, cycle_turn, cycle_over}
use Rattle.checker.proofs.cycle.Cycle.new.Goals as goal

pub nonzero_div-h : goal.nonzero_div-h
nonzero_div-h c =
    let g = c.args.group in
    let p = read_period g.tasks.now _ _ _ c.loop-i-test.true c.task_at.ensures c.from-period.ensures g.legal in
    rw c.gcd.ensures (gcd_pos _ _ p.0)

-- what is found is still on the way to the cycle
turn : (c : goal.After-gcd) →
    let a = c.args in let l = c.loop-i in
    cycle a.table.frame (tasks_of a.group.tasks.now)
    ≡ cycle (l.h / c.gcd.result * c.from-period.result) (drop (l.i + 1) (tasks_of a.group.tasks.now))
turn c = cycle_turn _ _ _ _ c.loop-i-test.true c.task_at.ensures c.from-period.ensures _ _ _ c.gcd.ensures c.loop-i.invariant.1

pub returns-then-h-gt-LONGEST : goal.returns-then-h-gt-LONGEST
returns-then-h-gt-LONGEST c =
    let a = c.args in cycle_over _ _ _ _ a.table.legal.frame a.group.legal.rules (turn c.before) c.if-h-gt-LONGEST.true

pub loop-i-preserved : goal.loop-i-preserved
loop-i-preserved c = (c.if-h-gt-LONGEST.false, turn c.before)
