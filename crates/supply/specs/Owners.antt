-- Request 4, of what `supplied` answers: no tick is supplied to both owners
use Rattle.std.specs.Prelude.{◌≡◌, refl, Bool, List, ℕ}
use Rattle.std.proofs.Common.{sym, ◌∙◌}
use Rattle.std.proofs.Math.Path.{ap}
use Rattle.std.proofs.Math.Bool.{true}
use Rattle.scope.specs.Limits.{teams}
use Rattle.scope.specs.Windows.{supplied_by}
use Rattle.scope.specs.Answers.{Fault.fine, Answer.given, table_fault, supplied_answer}
use Rattle.scope.specs.Shared.{own, whole_fault, shared_fault, supplied_for}
use Rattle.scope.specs.Examples.{XShared}
use Rattle.scope.specs.Computing.{everything}
use Rattle.theory.specs.Answers.{unless_given}
use Rattle.theory.specs.Shared.{shared_parts, asked_given, one_owner_a_tick}
use Rattle.tables.specs.declared.board.Board.{Board}
use Rattle.std.specs.declared.result.Result.{Result}
use Rattle.std.specs.declared.result.Result.TheVariants.{Ok}
use Rattle.tables.specs.declared.answer.Refusal.{Refusal}
use Rattle.tables.specs.Told.{board_of, told_supplied}

-- a tick that is answered as supplied is one of the owner's, on a list that has no fault
module _ (b : Board) (ws : List ℕ) (k : ℕ) (x : Result Bool Refusal) (told : told_supplied x ≡ supplied_for (board_of b) ws k) (is : x ≡ Ok true) where
  answers : (shared_fault teams (board_of b) ws ≡ fine) × (supplied_answer (board_of b) (own (board_of b) ws) k ≡ given true)
  unfolding supplied_for
  answers = asked_given teams (board_of b) ws (λ l. supplied_answer (board_of b) l k) true (sym told ∙ ap told_supplied is)

  whole : whole_fault teams (board_of b) ws ≡ fine
  whole = (shared_parts teams (board_of b) ws answers.0).0

  on : supplied_by (board_of b) (own (board_of b) ws) k ≡ true
  unfolding supplied_answer
  on = (unless_given (table_fault (board_of b) (own (board_of b) ws)) _ true answers.1).1

pub one_owner_answered : (b c : Board) (ws : List ℕ) (k : ℕ) (x y : Result Bool Refusal) → b.frame ≡ c.frame →
    told_supplied x ≡ supplied_for (board_of b) ws k → x ≡ Ok true → told_supplied y ≡ supplied_for (board_of c) ws k → y ≡ Ok true → b.owner ≡ c.owner
one_owner_answered b c ws k x y framed told is told' is' =
    one_owner_a_tick teams (board_of b) (board_of c) ws (whole b ws k x told is) framed k (on b ws k x told is) (on c ws k y told' is')

-- tick 2 of X's table is owner 1's
tick_two : (x : Result Bool Refusal) → told_supplied x ≡ supplied_for (board_of (record { frame = 8; owner = 0; shortest = 1; rule = 1; lost = 0 })) XShared 2 → x ≡ Ok true → ◌≡◌ {A = ℕ} 0 1
unfolding everything
tick_two x told is =
    one_owner_answered (record { frame = 8; owner = 0; shortest = 1; rule = 1; lost = 0 }) (record { frame = 8; owner = 1; shortest = 1; rule = 1; lost = 0 }) XShared 2 x (Ok true) refl told is refl refl
