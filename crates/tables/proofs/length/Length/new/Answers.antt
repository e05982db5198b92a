use Rattle.scope.specs.Answers.{length_answer, length_fault}
use borrow.Author.Tests.{lt-ltb, le-ltb}
use Rattle.tables.proofs.length.Length.new.Goals as goal

pub returns-then-ticks-gt-LONGEST : goal.returns-then-ticks-gt-LONGEST
unfolding length_answer length_fault
returns-then-ticks-gt-LONGEST c = rw (lt-ltb _ _ c.if-ticks-gt-LONGEST.true)

pub returns : goal.returns
unfolding length_answer length_fault
returns c = rw (le-ltb _ _ c.if-ticks-gt-LONGEST.false)
