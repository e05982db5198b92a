use mathlib.Core.Path.{◌≡◌}
use Rattle.scope.specs.Tasks.{tasks_of}
use Rattle.checker.proofs.BoundLaws.{asked_to}
use Rattle.checker.proofs.bound.asked_of.Given as goal

abbrev pub invariant-loop-j : goal.invariant-loop-j
invariant-loop-j l = l.sum ≡ asked_to (tasks_of l.group.tasks.now) l.index l.length l.j
