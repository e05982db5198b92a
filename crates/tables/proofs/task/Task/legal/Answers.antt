use mathlib.Core.Path.{◌≡◌, sym, ◌∙◌}
use mathlib.Core.Bool.{Bool, ◌&&◌}
use Rattle.tables.specs.declared.task.Task.{Task}
use lib.Dec.{leb}
use Rattle.scope.specs.Tasks.{task_number, task_legal}
use Rattle.tables.proofs.TaskLaws.{and_yes, and_no}
use Rattle.tables.proofs.task.Task.legal.Lts as lts
use Rattle.tables.proofs.task.Task.legal.Tie as tie
use Rattle.tables.proofs.task.Task.legal.Reads as reads
use Rattle.tables.proofs.task.Task.legal.Goals.{then-in_range, else-in_range, then-in_range-2, else-in_range-2}
use Rattle.tables.proofs.task.Task.legal.Goals as goal

abbrev Joined1 : Type 0
Joined1 = lts.Joined1 tie.the-claims reads.Pre reads.Post

abbrev Joined2 : Type 0
Joined2 = lts.Joined2 tie.the-claims reads.Pre reads.Post

-- the first two numbers are within their limits, and all three
abbrev two : Task → Bool
two x = task_number x.work && task_number x.period

abbrev all : Task → Bool
all x = two x && task_number x.deadline

-- the first two tests, and the first three
after_two : (c : Joined1) → let x = c.args.self in c.if-in_range.value ≡ two x
after_two c =
    let x = c.args.self in
    let e = c.in_range.ensures in
    elim c.if-in_range.branch [
      | then-in_range w ↦ w.value-is ∙ w.in_range-then-in_range.ensures ∙ and_yes (task_number x.work) (task_number x.period) (sym e ∙ w.if-in_range.true)
      | else-in_range w ↦ w.value-is ∙ e ∙ and_no (task_number x.work) (task_number x.period) (sym e ∙ w.if-in_range.false)
    ]

after_three : (c : Joined2) → let x = c.args.self in c.if-in_range-2.value ≡ all x
after_three c =
    let x = c.args.self in
    let e = after_two c.before in
    elim c.if-in_range-2.branch [
      | then-in_range-2 w ↦ w.value-is ∙ w.in_range-then-in_range-2.ensures ∙ and_yes (two x) (task_number x.deadline) (sym e ∙ w.if-in_range-2.true)
      | else-in_range-2 w ↦ w.value-is ∙ e ∙ and_no (two x) (task_number x.deadline) (sym e ∙ w.if-in_range-2.false)
    ]

pub returns-then-in_range-3 : goal.returns-then-in_range-3
unfolding task_legal
returns-then-in_range-3 c = let x = c.args.self in
    and_yes (all x) (leb x.deadline x.period) (sym (after_three c.before) ∙ c.if-in_range-3.true)

pub returns-else-in_range-3 : goal.returns-else-in_range-3
unfolding task_legal
returns-else-in_range-3 c = let x = c.args.self in
    let e = after_three c.before in
    e ∙ and_no (all x) (leb x.deadline x.period) (sym e ∙ c.if-in_range-3.false)
