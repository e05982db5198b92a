-- Request 6, of what the code answers: after `edit_table` the least supply from the summary that it left is the least supply of the windows that it left
use Rattle.std.specs.Prelude.{◌≡◌, List, ℕ}
use Rattle.std.proofs.Math.Path.{refl}
use Rattle.std.proofs.Common.{sym, ap, ◌∙◌}
use Rattle.scope.specs.Limits.{teams}
use Rattle.scope.specs.Answers.{Fault.fine}
use Rattle.scope.specs.Shared.{own, least_supply_for}
use Rattle.scope.specs.Summary.{summary_fault, least_from_for, table_in, edit_answer, edit_windows, edit_summary}
use Rattle.scope.specs.Examples.{XShared, XSummary}
use Rattle.scope.specs.Computing.{everything}
use Rattle.theory.specs.Summaries.{summary_agrees}
use Rattle.theory.specs.Edits.{edit_leaves}
use Rattle.std.specs.declared.result.Result.{Result}
use Rattle.std.specs.declared.result.Result.TheVariants.{Ok}
use Rattle.tables.specs.declared.board.Board.{Board}
use Rattle.tables.specs.declared.answer.Edited.{Edited}
use Rattle.tables.specs.declared.answer.Refusal.{Refusal}
use Rattle.tables.specs.Told.{board_of, told_amount, told_edited}
use Rattle.tables.specs.Determined.{amount_determined}
use Rattle.edits.specs.declared.edit.Edit.{Edit}
use Rattle.edits.specs.declared.edit.Edit.TheVariants.{Move}
use Rattle.edits.specs.Told.{edit_of}

module _ (b : Board) (count : ℕ) (windows summary left held : List ℕ) (edit : Edit) (r : Result Edited Refusal) (w n : ℕ)
    (promised : told_edited r ≡ edit_answer teams (board_of b) count windows summary (edit_of edit))
    (wrote : left ≡ edit_windows teams (board_of b) count windows summary (edit_of edit))
    (kept : held ≡ edit_summary teams (board_of b) count windows summary (edit_of edit)) (is : r ≡ Ok (record { windows = w; numbers = n })) where
  pub left_belongs : summary_fault (board_of b) (own (board_of b) (table_in w left)) held ≡ fine
  left_belongs = rw (wrote, kept) (edit_leaves teams (board_of b) count windows summary (edit_of edit) _ (sym promised ∙ ap told_edited is)).belongs

  pub edited_same : (t : ℕ) (from plain : Result ℕ Refusal) → told_amount from ≡ least_from_for (board_of b) (table_in w left) held t →
      told_amount plain ≡ least_supply_for (board_of b) (table_in w left) t → from ≡ plain
  edited_same t from plain told plainly =
      amount_determined from plain (told ∙ summary_agrees (board_of b) (table_in w left) held t left_belongs ∙ sym plainly)

-- of X among two teams, whose first window loses a tick
module _ (left held : List ℕ) where
  abbrev x_board : Board
  x_board = record { frame = 8; owner = 0; shortest = 1; rule = 1; lost = 0 }

  x_edited_same : left ≡ edit_windows teams (board_of x_board) 4 XShared XSummary (edit_of (Move 0 0 1)) →
      held ≡ edit_summary teams (board_of x_board) 4 XShared XSummary (edit_of (Move 0 0 1)) → (from plain : Result ℕ Refusal) →
      told_amount from ≡ least_from_for (board_of x_board) (table_in 4 left) held 15 → told_amount plain ≡ least_supply_for (board_of x_board) (table_in 4 left) 15 → from ≡ plain
  unfolding everything
  x_edited_same wrote kept = edited_same x_board 4 XShared XSummary left held (Move 0 0 1) (Ok (record { windows = 4; numbers = 7 })) 4 7 refl wrote kept refl 15
