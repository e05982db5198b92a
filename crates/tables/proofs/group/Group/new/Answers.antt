use mathlib.Core.Path.{sym}
use Rattle.theory.specs.Answers.{group_legal}
use Rattle.tables.proofs.group.Group.new.Goals as goal

pub invariant_of-result : goal.invariant_of-result
invariant_of-result c = record { legal = group_legal _ (sym c.in_ok-check_tasks.ensures) }
