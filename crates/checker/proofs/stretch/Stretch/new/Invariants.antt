use Rattle.scope.specs.Windows.{framed}
use Rattle.checker.proofs.StretchLaws.{Counted}
use Rattle.checker.proofs.stretch.Stretch.new.Given as goal

abbrev pub invariant-loop : goal.invariant-loop
invariant-loop l = Counted (framed l.table.frame) l.table.windows.now l.table.legal l.counter l.to l.supply
