-- Demand 1, of what `edit_table` answers and leaves: where it refuses, both lent lists are as they were
use Rattle.std.specs.Prelude.{◌≡◌, refl, List, ℕ}
use Rattle.std.proofs.Common.{sym, ap, ◌∙◌}
use Rattle.scope.specs.Limits.{teams}
use Rattle.scope.specs.Summary.{edit_answer, edit_windows, edit_summary}
use Rattle.scope.specs.Examples.{XShared, XSummary}
use Rattle.scope.specs.Computing.{everything}
use Rattle.theory.specs.Refused.{edit_kept}
use Rattle.std.specs.declared.result.Result.{Result}
use Rattle.std.specs.declared.result.Result.TheVariants.{Err}
use Rattle.tables.specs.declared.board.Board.{Board}
use Rattle.tables.specs.declared.answer.Refusal.{Refusal}
use Rattle.tables.specs.declared.answer.Refusal.TheVariants.{Asked}
use Rattle.tables.specs.declared.answer.Edited.{Edited}
use Rattle.tables.specs.Told.{number, place, board_of, told_edited}
use Rattle.edits.specs.declared.edit.Edit.{Edit}
use Rattle.edits.specs.declared.edit.Edit.TheVariants.{Remove}
use Rattle.edits.specs.Told.{edit_of}

pub edit_refused : (b : Board) (count : ℕ) (windows summary left held : List ℕ) (edit : Edit) (r : Result Edited Refusal) →
    told_edited r ≡ edit_answer teams (board_of b) count windows summary (edit_of edit) →
    left ≡ edit_windows teams (board_of b) count windows summary (edit_of edit) → held ≡ edit_summary teams (board_of b) count windows summary (edit_of edit) →
    (e : Refusal) → r ≡ Err e → (left ≡ windows) × (held ≡ summary)
edit_refused b count windows summary left held edit r told wrote kept e is =
    let k = edit_kept (number e) (place e) teams (board_of b) count windows summary (edit_of edit) (sym told ∙ ap told_edited is) in
    (wrote ∙ k.0, kept ∙ k.1)

-- X among two teams has no fifth window
abbrev x_board : Board
x_board = record { frame = 8; owner = 0; shortest = 1; rule = 1; lost = 0 }

x_no_fifth : (left held : List ℕ) → left ≡ edit_windows teams (board_of x_board) 4 XShared XSummary (edit_of (Remove 4)) →
    held ≡ edit_summary teams (board_of x_board) 4 XShared XSummary (edit_of (Remove 4)) → (left ≡ XShared) × (held ≡ XSummary)
unfolding everything
x_no_fifth left held wrote kept = edit_refused x_board 4 XShared XSummary left held (Remove 4) (Err Asked) refl wrote kept Asked refl
