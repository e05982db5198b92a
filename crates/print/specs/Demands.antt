-- Demand 1, of what `line` and `write_plan` answer: where they refuse, the lent buffer is as it was
use Rattle.std.specs.Prelude.{ℕ, ◌≡◌, List, length}
use Rattle.std.proofs.Common.{sym, ap, ◌∙◌}
use Rattle.scope.specs.Verdict as Verdicts
use Rattle.scope.specs.Answers.{Answer}
use Rattle.scope.specs.Plan.{Plan, write_answer, write_out}
use Rattle.scope.specs.Line.{line_answer, line_out}
use Rattle.theory.specs.Refused.{line_kept, write_kept}
use Rattle.std.specs.declared.result.Result.{Result}
use Rattle.std.specs.declared.result.Result.TheVariants.{Err}
use Rattle.tables.specs.declared.answer.Refusal.{Refusal}
use Rattle.tables.specs.Told.{number, place, told_amount}

module _ (out left : List ℕ) (r : Result ℕ Refusal) (e : Refusal) (is : r ≡ Err e) where
  pub line_refused : (a : Answer Verdicts.Verdict) → told_amount r ≡ line_answer a (length out) → left ≡ line_out a out → left ≡ out
  line_refused a told wrote = wrote ∙ line_kept (number e) (place e) a out (sym told ∙ ap told_amount is)

  pub write_refused : (p : Plan) → told_amount r ≡ write_answer p (length out) → left ≡ write_out p out → left ≡ out
  write_refused p told wrote = wrote ∙ write_kept (number e) (place e) p out (sym told ∙ ap told_amount is)
