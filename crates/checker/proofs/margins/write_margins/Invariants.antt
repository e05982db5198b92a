use mathlib.Core.Path.{◌≡◌}
use Rattle.scope.specs.Tasks.{tasks_of}
use Rattle.scope.specs.Summary.{margin_from}
use Rattle.checker.proofs.MarginLaws.{margins_to}
use Rattle.checker.proofs.margins.write_margins.Given as goal

abbrev pub invariant-loop-i : goal.invariant-loop-i
invariant-loop-i l = l.out ≡ margins_to (margin_from l.table.frame l.summary (tasks_of l.group.tasks.now)) l.lengths l.initial.out l.i
