use Rattle.checker.proofs.RiseLaws.{begun_more, begun_all}
use Rattle.checker.proofs.rise.Dues.new.Goals as goal

pub loop-i-preserved : goal.loop-i-preserved
loop-i-preserved c =
    let l = c.loop-i in begun_more _ c.args.group.legal l.i l.due _ c.loop-i-test.true c.task_at.ensures l.invariant

pub returns : goal.returns
returns c = let l = c.loop-i in begun_all _ c.args.group.legal l.i l.due c.loop-i-test.false l.invariant
