use mathlib.Core.Path.{◌≡◌}
use Prim.Native.Nat.{◌+◌, ◌-◌}
use Rattle.scope.specs.Windows.{framed, supplied_by}
use Rattle.scope.specs.Tasks.{tasks_of}
use Rattle.tables.specs.declared.answer.Verdict.TheVariants.{Meets}
use Rattle.checker.proofs.StretchLaws.{Started}
use Rattle.checker.proofs.VerdictLaws.{Reached}
use Rattle.checker.proofs.verdict.search.Given as goal

abbrev pub invariant-loop-start : goal.invariant-loop-start
invariant-loop-start l =
    (l.found ≡ Meets l.cycle) × (l.start ≡ l.stretch.from.tick) × Started (framed l.table.frame) l.table.windows.now l.table.legal l.rest l.stretch

abbrev pub invariant-search : goal.invariant-search
invariant-search l =
    (l.found ≡ Meets l.cycle)
    × Reached (supplied_by (framed l.table.frame) l.table.windows.now) l.table.frame (tasks_of l.group.tasks.now) l.length l.demand l.supply l.dues.due

abbrev pub decreases-search : goal.decreases-search
decreases-search l = l.cycle + 1 - l.length
