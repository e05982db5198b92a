-- What a table that was checked answers
use mathlib.Core.Path.{◌≡◌, sym, ◌∙◌}
use mathlib.Core.List.{List}
use Prim.Native.Nat.{ℕ, ◌≤◌}
use native.Mathlib.Omega.{arith}
use borrow.Author.Tests.{le-ltb, ne_eqb}
use Rattle.scope.specs.Limits.{most_frame, most_length}
use Rattle.scope.specs.Ticks.{least_supply}
use Rattle.scope.specs.Windows.{Board, supplied_by}
use Rattle.scope.specs.Answers.{Fault.fine, Answer.given, Answer.refused, ◌or_else◌, table_fault, frame_fault, window_fault, length_fault, least_supply_answer}
use Rattle.theory.specs.Answers.{LegalTable, window_list_fine, length_legal, room_fine}
use Rattle.tables.proofs.FaultLaws as faults
use Rattle.tables.proofs.FaultLaws.{or_fine, given_by, if_false}

-- a table that keeps its rules has no fault
pub table_fine : (b : Board) (ws : List ℕ) → LegalTable b ws → fine ≡ table_fault b ws
unfolding table_fault frame_fault window_fault
table_fine b ws ok =
    rw (window_list_fine ws ok.even ok.some ok.few, ne_eqb b.frame 0 (omega (arith, ok.frame)), le-ltb most_frame b.frame ok.frame_most, ok.windows)

-- checks one after the other, of a table, of a length and of room, and then the value
pub ruleset answered = (table_fine, length_legal, room_fine, faults.answered)

-- a list without a fault is not refused, of a length that may be asked
pub least_not_refused : (b : Board) (ws : List ℕ) (t : ℕ) → table_fault b ws ≡ fine → t ≤ most_length → (n p : ℕ) → refused n p ≡ least_supply_answer b ws t → ⊥
unfolding least_supply_answer length_fault
least_not_refused b ws t e h n p told =
    let answered : given (least_supply (supplied_by b ws) b.frame t) ≡ least_supply_answer b ws t =
    given_by (table_fault b ws or_else length_fault t) _
    (or_fine (table_fault b ws) (length_fault t) e ∙ sym (if_false _ 7 0 (le-ltb most_length t h))) in
    let other : refused n p ≡ given (least_supply (supplied_by b ws) b.frame t) = told ∙ sym answered in
    let z : ◌≡◌ {A = ℕ} 0 1 = cc in omega arith
