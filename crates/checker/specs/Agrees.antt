-- Request 6, of what the code answers: each number that `margins` writes is what `margin` answers of its length
use Rattle.std.specs.Prelude.{◌≡◌, refl, List, [], ◌∷◌, ℕ, ◌<◌, ℤ, pos, length, get_or}
use Rattle.std.proofs.Common.{sym, ap, ◌∙◌, arith}
use Rattle.scope.specs.Answers.{Answer.given}
use Rattle.scope.specs.Shared.{margin_for}
use Rattle.scope.specs.Summary.{margins_for, margins_out_for}
use Rattle.scope.specs.Examples.{XShared, XSummary}
use Rattle.scope.specs.Computing.{everything}
use Rattle.theory.specs.Summaries.{margins_each}
use Rattle.tables.specs.declared.board.Board.{Board}
use Rattle.std.specs.declared.result.Result.{Result}
use Rattle.std.specs.declared.result.Result.TheVariants.{Ok}
use Rattle.tables.specs.declared.answer.Refusal.{Refusal}
use Rattle.tables.specs.Told.{board_of, told_amount, told_margin}
use Rattle.tables.specs.Determined.{margin_determined}

pub margins_same : (b : Board) (ws summary ts lengths : List ℕ) (out left : List ℤ) (r : Result ℕ Refusal) (n : ℕ) →
    told_amount r ≡ margins_for (board_of b) ws summary ts lengths (length out) → left ≡ margins_out_for (board_of b) ws summary ts lengths out → r ≡ Ok n →
    (j : ℕ) → j < length lengths → (m : Result ℤ Refusal) → told_margin m ≡ margin_for (board_of b) ws ts (get_or lengths j 0) → m ≡ Ok (get_or left j (pos 0))
margins_same b ws summary ts lengths out left r n promised wrote is j h m told =
    margin_determined m (Ok (get_or left j (pos 0)))
    (told ∙ margins_each (board_of b) ws summary ts lengths out n (sym promised ∙ ap told_amount is) j h
    ∙ ap (λ (l : List ℤ). given (get_or l j (pos 0))) (sym wrote))

-- W6 misses by one tick at length 6
abbrev x_board : Board
x_board = record { frame = 8; owner = 0; shortest = 1; rule = 1; lost = 0 }

w6_same : (left : List ℤ) → left ≡ margins_out_for (board_of x_board) XShared XSummary (1 ∷ 4 ∷ 4 ∷ 2 ∷ 8 ∷ 6 ∷ []) (6 ∷ []) (pos 9 ∷ []) →
    (m : Result ℤ Refusal) → told_margin m ≡ margin_for (board_of x_board) XShared (1 ∷ 4 ∷ 4 ∷ 2 ∷ 8 ∷ 6 ∷ []) 6 → m ≡ Ok (get_or left 0 (pos 0))
unfolding everything
w6_same left wrote m told =
    margins_same x_board XShared XSummary (1 ∷ 4 ∷ 4 ∷ 2 ∷ 8 ∷ 6 ∷ []) (6 ∷ []) (pos 9 ∷ []) left (Ok 1) 1 refl wrote refl 0 (omega arith) m told
