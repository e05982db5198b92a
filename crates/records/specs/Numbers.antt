-- The numbers of a group of task records: C, T, D, C, T, D, .., as the entries of `checker` take them
use Rattle.std.specs.Prelude.{ℕ, suc, ◌*◌, List, [], ◌∷◌}
use Rattle.scope.specs.Limits.{most_tasks}
use Rattle.tables.specs.declared.task.Task.{Task}

unfoldable pub numbers_of : List Task → List ℕ
numbers_of [] = []
numbers_of (x ∷ xs) = x.work ∷ x.period ∷ x.deadline ∷ numbers_of xs

-- more records than a group may have are refused, whatever they hold, and one more is enough to see that
abbrev pub enough_records : ℕ
enough_records = suc most_tasks

abbrev pub enough_numbers : ℕ
enough_numbers = 3 * enough_records
