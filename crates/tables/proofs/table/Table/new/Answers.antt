use mathlib.Core.Path.{sym}
use Rattle.theory.specs.Answers.{pairs_legal}
use Rattle.tables.proofs.table.Table.new.Goals as goal

pub invariant_of-result : goal.invariant_of-result
invariant_of-result c = record { legal = pairs_legal _ _ (sym c.in_ok-check_table.ensures) }
