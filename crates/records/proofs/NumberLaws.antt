-- A group of task records and its numbers are the same tasks
use mathlib.Core.Path.{◌≡◌, refl}
use mathlib.Core.List.{List, [], ◌∷◌}
use Prim.Native.Nat.{ℕ, zero, suc, ◌*◌, ◌/◌}
use native.Mathlib.Omega.{arith}
use lib.Dec.{ltb}
use lib.ListN.{length, get_or}
use Rattle.scope.specs.Numbers.{pieces_from, pieces}
use Rattle.scope.specs.Limits.{most_tasks}
use Rattle.scope.specs.Tasks.{task, tasks_of, task_at}
use Rattle.scope.specs.Answers.{fault_if, task_list_fault}
use Rattle.theory.specs.Lists.{pieces_length, whole_count}
use Rattle.tables.specs.Told.{task_of}
use Rattle.tables.specs.declared.task.Task.{Task}
use Rattle.records.specs.Numbers.{numbers_of}

-- what lies past the end
abbrev pub none : Task
none = record { work = 0; period = 0; deadline = 0 }

pub numbers_length : (ys : List Task) → length (numbers_of ys) ≡ 3 * length ys
unfolding numbers_of
numbers_length [] = refl
numbers_length (y ∷ ys) = omega (arith, numbers_length ys)

pub tasks_length : (ys : List Task) → length (tasks_of (numbers_of ys)) ≡ length ys
tasks_length ys = omega (arith, pieces_length _ 3 task (numbers_of ys), numbers_length ys)

pub task_at_lem : (ys : List Task) (i : ℕ) → task_at (tasks_of (numbers_of ys)) i ≡ task_of (get_or ys i none)
unfolding numbers_of pieces_from pieces
task_at_lem [] i = refl
task_at_lem (y ∷ ys) zero = refl
task_at_lem (y ∷ ys) (suc i) = task_at_lem ys i

-- records are in threes: only their number can be at fault
pub list_fault_lem : (ys : List Task) → task_list_fault (numbers_of ys) ≡ fault_if (ltb most_tasks (length ys)) 4 0
unfolding task_list_fault
list_fault_lem ys =
    let e = numbers_length ys in
    let count : length (numbers_of ys) / 3 ≡ length ys = omega arith in
    rw (whole_count 3 most_tasks (numbers_of ys) (omega arith), count)
