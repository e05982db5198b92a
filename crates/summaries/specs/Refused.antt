-- Demand 1, of what `make_summary` answers and leaves: where it refuses, the lent buffer is as it was
use Rattle.std.specs.Prelude.{◌≡◌, refl, List, ℕ, length, replicate}
use Rattle.scope.specs.Summary.{make_for, make_out_for}
use Rattle.scope.specs.Examples.{XShared}
use Rattle.scope.specs.Computing.{everything}
use Rattle.theory.specs.Refused.{make_kept}
use Rattle.std.specs.declared.result.Result.{Result}
use Rattle.std.specs.declared.result.Result.TheVariants.{Err}
use Rattle.tables.specs.declared.board.Board.{Board}
use Rattle.tables.specs.declared.answer.Refusal.{Refusal}
use Rattle.tables.specs.declared.answer.Refusal.TheVariants.{Room}
use Rattle.tables.specs.Told.{board_of, told_amount}
use Rattle.tables.specs.Refused.{amount_refused}

pub make_refused : (b : Board) (ws out left : List ℕ) (r : Result ℕ Refusal) →
    told_amount r ≡ make_for (board_of b) ws (length out) → left ≡ make_out_for (board_of b) ws out → (e : Refusal) → r ≡ Err e → left ≡ out
unfolding make_for make_out_for
make_refused b ws out left r = amount_refused (board_of b) ws _ _ out left r (λ n p l. make_kept n p (board_of b) l out)

-- X's summary has 7 numbers
x_short : (left : List ℕ) → left ≡ make_out_for (board_of (record { frame = 8; owner = 0; shortest = 1; rule = 1; lost = 0 })) XShared (replicate 6 9) → left ≡ replicate 6 9
unfolding everything
x_short left wrote =
    make_refused (record { frame = 8; owner = 0; shortest = 1; rule = 1; lost = 0 }) XShared (replicate 6 9) left (Err (Room 7)) refl wrote (Room 7) refl
