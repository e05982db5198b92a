-- The two halves of an edit as the code makes it: what is refused before the new list is looked at, and the new list put into lent memory
use Rattle.std.specs.Prelude.{ℕ, ◌/◌, List, length}
use Rattle.scope.specs.Numbers.{written}
use Rattle.scope.specs.Windows.{Board}
use Rattle.scope.specs.Answers.{Fault, Answer, ◌or_else◌, unless, unless_kept, room_fault}
use Rattle.scope.specs.Shared.{own, shared_fault}
use Rattle.scope.specs.Summary.{summary_of, summary_fault, Edit, index_fault, Edited}

unfoldable pub ready_fault : ℕ → Board → List ℕ → List ℕ → Edit → ℕ → Fault
ready_fault owners b list summary edit count =
    shared_fault owners b list or_else summary_fault b (own b list) summary or_else index_fault edit count

unfoldable pub store_fault : ℕ → Board → List ℕ → ℕ → ℕ → Fault
store_fault owners b new windows summary =
    shared_fault owners b new or_else room_fault (length new) windows or_else room_fault (length (summary_of b (own b new))) summary

unfoldable pub store_answer : ℕ → Board → List ℕ → ℕ → ℕ → Answer Edited
store_answer owners b new windows summary =
    unless (store_fault owners b new windows summary) (record { windows = length new / 3; numbers = length (summary_of b (own b new)) })

unfoldable pub store_windows : ℕ → Board → List ℕ → List ℕ → ℕ → List ℕ
store_windows owners b new windows summary = unless_kept (store_fault owners b new (length windows) summary) (written new windows) windows

unfoldable pub store_summary : ℕ → Board → List ℕ → ℕ → List ℕ → List ℕ
store_summary owners b new windows summary =
    unless_kept (store_fault owners b new windows (length summary)) (written (summary_of b (own b new)) summary) summary
