use native.Mathlib.Nat.{zero-add}
use borrow.Author.Tests.{le-leb, lt-leb}
use Rattle.scope.specs.Windows.{gives}
use Rattle.tables.proofs.window.Window.holds.Goals as goal

pub returns-then-start-k : goal.returns-then-start-k
unfolding gives
returns-then-start-k c = rw (zero-add, ← c.from-start.ensures, ← c.from-end.ensures, le-leb _ _ c.if-start-k.true)

pub returns-else-start-k : goal.returns-else-start-k
unfolding gives
returns-else-start-k c = rw (zero-add, ← c.from-start.ensures, lt-leb _ _ c.if-start-k.false)
