use Rattle.checker.proofs.RiseLaws.{Begun}
use Rattle.checker.proofs.rise.Dues.new.Given as goal

abbrev pub invariant-loop-i : goal.invariant-loop-i
invariant-loop-i l = Begun l.group.tasks.now l.group.legal l.i l.due
