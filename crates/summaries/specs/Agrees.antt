-- Request 6, of what the code answers: the least supply from a summary that belongs, and so from one that was made, is the least supply, refusals too
use Rattle.std.specs.Prelude.{◌≡◌, List, ℕ, length, replicate}
use Rattle.std.proofs.Math.Path.{refl}
use Rattle.std.proofs.Common.{sym, ap, ◌∙◌}
use Rattle.scope.specs.Answers.{Fault.fine}
use Rattle.scope.specs.Shared.{own, least_supply_for}
use Rattle.scope.specs.Summary.{summary_fault, make_for, make_out_for, least_from_for}
use Rattle.scope.specs.Examples.{XShared, XSummary}
use Rattle.scope.specs.Computing.{everything}
use Rattle.theory.specs.Summaries.{summary_agrees, made_belongs}
use Rattle.tables.specs.declared.board.Board.{Board}
use Rattle.std.specs.declared.result.Result.{Result}
use Rattle.std.specs.declared.result.Result.TheVariants.{Ok}
use Rattle.tables.specs.declared.answer.Refusal.{Refusal}
use Rattle.tables.specs.Told.{board_of, told_amount}
use Rattle.tables.specs.Determined.{amount_determined}

module _ (b : Board) (ws : List ℕ) (t : ℕ) (from plain : Result ℕ Refusal) (plainly : told_amount plain ≡ least_supply_for (board_of b) ws t) where
  pub same_amount : (summary : List ℕ) → summary_fault (board_of b) (own (board_of b) ws) summary ≡ fine → told_amount from ≡ least_from_for (board_of b) ws summary t →
      from ≡ plain
  same_amount summary belongs told = amount_determined from plain (told ∙ summary_agrees (board_of b) ws summary t belongs ∙ sym plainly)

  -- from what `make_summary` left
  pub made_same : (out left : List ℕ) (made : Result ℕ Refusal) (n : ℕ) → told_amount made ≡ make_for (board_of b) ws (length out) → left ≡ make_out_for (board_of b) ws out →
      made ≡ Ok n → told_amount from ≡ least_from_for (board_of b) ws left t → from ≡ plain
  made_same out left made n promised wrote is told =
      let belongs = (made_belongs (board_of b) ws out n (sym promised ∙ ap told_amount is)).0 in
      same_amount left (ap (summary_fault (board_of b) (own (board_of b) ws)) wrote ∙ belongs) told

-- of X among two teams: from its summary, and from what making it leaves in room for two numbers more
abbrev x_board : Board
x_board = record { frame = 8; owner = 0; shortest = 1; rule = 1; lost = 0 }

module _ (from plain : Result ℕ Refusal) (plainly : told_amount plain ≡ least_supply_for (board_of x_board) XShared 15) where
  x_same : told_amount from ≡ least_from_for (board_of x_board) XShared XSummary 15 → from ≡ plain
  unfolding everything
  x_same = same_amount x_board XShared 15 from plain plainly XSummary refl

  x_made_same : told_amount from ≡ least_from_for (board_of x_board) XShared (make_out_for (board_of x_board) XShared (replicate 9 9)) 15 → from ≡ plain
  unfolding everything
  x_made_same = made_same x_board XShared 15 from plain plainly (replicate 9 9) _ (Ok 7) 7 refl refl refl
