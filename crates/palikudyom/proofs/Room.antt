-- What was delivered to lent memory fits there
use Rattle.std.proofs.Common.{◌≡◌, sym, List, ℕ, ◌≤◌, length, arith, ltb-false}
use Rattle.std.proofs.lemmas.List.{length-take-le}
use Rattle.std.specs.Result.{result_unwrap_or}
use Rattle.std.specs.declared.result.Result.{Result}
use Rattle.std.specs.declared.result.Result.TheVariants.{Ok, Err}
use Rattle.scope.specs.Verdict.{Verdict}
use Rattle.scope.specs.Answers.{Answer, Answer.given, unless, room_fault}
use Rattle.scope.specs.Line.{line, line_answer}
use Rattle.scope.specs.Shared.{as_owned, as_owned_answer}
use Rattle.theory.specs.Answers.{fault_if_fine, unless_given}
use Rattle.tables.specs.declared.answer.Refusal.{Refusal}
use Rattle.tables.specs.Told.{told_amount}

fits : (needed room n : ℕ) → given n ≡ unless (room_fault needed room) needed → n ≤ room
unfolding room_fault
fits needed room n e =
    let u = unless_given (room_fault needed room) needed n (sym e) in
    omega (arith, u.1, ltb-false room needed (fault_if_fine _ 8 needed u.0))

pub line_fits : (a : Answer Verdict) (room n : ℕ) → given n ≡ line_answer a room → n ≤ room
unfolding line_answer
line_fits a room = fits (length (line a)) room

-- the bytes of a line that was delivered
pub ruleset line_written = (line_fits, length-take-le)

pub owned_fits : (o : ℕ) (ws : List ℕ) (room : ℕ) (r : Result ℕ Refusal) → told_amount r ≡ as_owned_answer o ws room → result_unwrap_or r 0 ≤ room
unfolding as_owned_answer
owned_fits o ws room (Ok n) e = fits (length (as_owned o ws)) room n e
owned_fits o ws room (Err refusal) e = omega arith
