use mathlib.Core.Path.{◌≡◌}
use lib.ListN.{drop}
use Rattle.scope.specs.Summary.{lengths_fault}
use Rattle.checker.proofs.margins.check_lengths.Given as goal

abbrev pub invariant-loop-length : goal.invariant-loop-length
invariant-loop-length l = lengths_fault l.lengths ≡ lengths_fault (drop l.length-index l.lengths)
