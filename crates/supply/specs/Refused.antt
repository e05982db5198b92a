-- Demand 1, of what `critical` answers and leaves: where it refuses, the lent buffer is as it was
use Rattle.std.specs.Prelude.{◌≡◌, List, ℕ, length}
use Rattle.scope.specs.Shared.{critical_for, critical_out_for}
use Rattle.theory.specs.Refused.{critical_kept}
use Rattle.tables.specs.declared.board.Board.{Board}
use Rattle.tables.specs.declared.answer.Refusal.{Refusal}
use Rattle.std.specs.declared.result.Result.{Result}
use Rattle.std.specs.declared.result.Result.TheVariants.{Err}
use Rattle.tables.specs.Told.{board_of, told_amount}
use Rattle.tables.specs.Refused.{amount_refused}

pub critical_refused : (b : Board) (ws out left : List ℕ) (r : Result ℕ Refusal) →
    told_amount r ≡ critical_for (board_of b) ws (length out) → left ≡ critical_out_for (board_of b) ws out → (e : Refusal) → r ≡ Err e → left ≡ out
unfolding critical_for critical_out_for
critical_refused b ws out left r = amount_refused (board_of b) ws _ _ out left r (λ n p l. critical_kept n p (board_of b) l out)
