-- Demand 1, of any entry that answers an amount and is lent a buffer: where it refuses, the buffer is as it was; and of any kind of answer: what a refusal is
-- given for
use Rattle.std.specs.Prelude.{◌≡◌, ◌↔◌, List, ℕ}
use Rattle.std.proofs.Common.{sym, ap, ◌∙◌}
use Rattle.scope.specs.Limits.{teams}
use Rattle.scope.specs.Windows.{Board}
use Rattle.scope.specs.Answers.{Answer, Answer.refused}
use Rattle.scope.specs.Shared.{asked_for, kept}
use Rattle.theory.specs.Refused.{asked_kept}
use Rattle.tables.specs.declared.answer.Refusal.{Refusal}
use Rattle.std.specs.declared.result.Result.{Result}
use Rattle.std.specs.declared.result.Result.TheVariants.{Err}
use Rattle.tables.specs.Told.{number, place, no, told_amount}

pub amount_refused : {B : Type 0} (b : Board) (ws : List ℕ) (entry : List ℕ → Answer ℕ) (leaves : List ℕ → List B) (out left : List B) (r : Result ℕ Refusal) →
    ((n p : ℕ) (windows : List ℕ) → entry windows ≡ refused n p → leaves windows ≡ out) →
    told_amount r ≡ asked_for teams b ws refused entry → left ≡ asked_for teams b ws (kept out) leaves → (e : Refusal) → r ≡ Err e → left ≡ out
amount_refused b ws entry leaves out left r keeps told wrote e is =
    wrote ∙ asked_kept (number e) (place e) teams b ws entry leaves out (keeps (number e) (place e)) (sym told ∙ ap told_amount is)

-- a promised answer is a refusal exactly where its definition is, whatever that is exactly for
pub told_refused : {R A : Type 0} (told : R → Answer A) (by : Refusal → R) → ((r : Refusal) → told (by r) ≡ no r) → ((x y : R) → told x ≡ told y → x ≡ y) →
    (r : Refusal) (x : R) {a : Answer A} → told x ≡ a → {S : Type 0} → ((a ≡ no r) ↔ S) → (x ≡ by r) ↔ S
told_refused told by tells determined r x promised exactly = (
  λ e. exactly.0 (sym promised ∙ ap told e ∙ tells r),
  λ t. determined x (by r) (promised ∙ exactly.1 t ∙ sym (tells r)),
)
