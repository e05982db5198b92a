use mathlib.Core.Path.{◌≡◌}
use Rattle.scope.specs.Tasks.{tasks_of}
use Rattle.checker.proofs.DemandLaws.{demand_to}
use Rattle.checker.proofs.demand.demand_of.Given as goal

abbrev pub invariant-loop-i : goal.invariant-loop-i
invariant-loop-i l = l.sum ≡ demand_to (tasks_of l.group.tasks.now) l.length l.i
