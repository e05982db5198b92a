use Rattle.checker.proofs.RiseLaws.{Moving}
use Rattle.checker.proofs.rise.Dues.rise_at.Given as goal

abbrev pub invariant-loop-i : goal.invariant-loop-i
invariant-loop-i l = Moving l.group.tasks.now l.group.legal l.length l.i l.self.due l.by l.next
