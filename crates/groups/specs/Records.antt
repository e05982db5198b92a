-- The task records that numbers are, C, T, D, C, T, D, .., and how many of them are lent to `records`
use Rattle.std.specs.Prelude.{ℕ, ◌/◌, ◌%◌, min, ◌≡◌, refl, List, [], ◌∷◌, length}
use Rattle.std.proofs.Common.{ap, arith}
use Rattle.scope.specs.Numbers.{pieces_from, pieces}
use Rattle.scope.specs.Limits.{most_tasks}
use Rattle.scope.specs.Answers.{Fault, Fault.fine, Fault.fault, task_list_fault}
use Rattle.tables.specs.declared.task.Task.{Task}
use Rattle.records.specs.Numbers.{numbers_of, enough_records}

abbrev pub record_of : ℕ → ℕ → ℕ → Task
record_of c t d = record { work = c; period = t; deadline = d }

unfoldable pub records_of : List ℕ → List Task
records_of ns = pieces 3 record_of ns

-- how many records are made: no more than a group may have
abbrev pub made_records : List ℕ → ℕ
made_records ns = min (length ns / 3) most_tasks

-- how many are lent: all that are made, or of a list that is refused more records than a group may have: these are refused alike, whatever they hold
abbrev pub lent_of : Fault → ℕ → ℕ
lent_of fine whole = whole
lent_of (fault number place) whole = enough_records

abbrev pub lent_records : List ℕ → ℕ
lent_records ns = lent_of (task_list_fault ns) (length ns / 3)

pub records_numbers : (ns : List ℕ) → length ns % 3 ≡ 0 → numbers_of (records_of ns) ≡ ns
unfolding records_of pieces_from pieces numbers_of
records_numbers [] h = refl
records_numbers (a ∷ []) h = absurd (omega arith)
records_numbers (a ∷ b ∷ []) h = absurd (omega arith)
records_numbers (a ∷ b ∷ c ∷ ns) h = ap (λ (l : List ℕ). a ∷ b ∷ c ∷ l) (records_numbers ns (omega arith))
