-- Demand 1, of what `margins` answers and leaves: where it refuses, the lent buffer is as it was
use Rattle.std.specs.Prelude.{◌≡◌, refl, List, [], ◌∷◌, ℕ, ℤ, pos, length}
use Rattle.scope.specs.Summary.{margins_for, margins_out_for}
use Rattle.scope.specs.Examples.{XShared, XSummary}
use Rattle.scope.specs.Computing.{everything}
use Rattle.theory.specs.Refused.{margins_kept}
use Rattle.tables.specs.declared.board.Board.{Board}
use Rattle.tables.specs.declared.answer.Refusal.{Refusal}
use Rattle.tables.specs.declared.answer.Refusal.TheVariants.{Room}
use Rattle.std.specs.declared.result.Result.{Result}
use Rattle.std.specs.declared.result.Result.TheVariants.{Err}
use Rattle.tables.specs.Told.{board_of, told_amount}
use Rattle.tables.specs.Refused.{amount_refused}

pub margins_refused : (b : Board) (ws summary ts lengths : List ℕ) (out left : List ℤ) (r : Result ℕ Refusal) →
    told_amount r ≡ margins_for (board_of b) ws summary ts lengths (length out) → left ≡ margins_out_for (board_of b) ws summary ts lengths out →
    (e : Refusal) → r ≡ Err e → left ≡ out
unfolding margins_for margins_out_for
margins_refused b ws summary ts lengths out left r =
    amount_refused (board_of b) ws _ _ out left r (λ n p l. margins_kept n p (board_of b) l summary ts lengths out)

-- two margins of X have no room in one number
x_crowded : (left : List ℤ) → left ≡ margins_out_for (board_of (record { frame = 8; owner = 0; shortest = 1; rule = 1; lost = 0 })) XShared XSummary [] (3 ∷ 6 ∷ []) (pos 9 ∷ []) →
    left ≡ pos 9 ∷ []
unfolding everything
x_crowded left wrote =
    margins_refused (record { frame = 8; owner = 0; shortest = 1; rule = 1; lost = 0 }) XShared XSummary [] (3 ∷ 6 ∷ []) (pos 9 ∷ []) left (Err (Room 2)) refl wrote (Room 2) refl
