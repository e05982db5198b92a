-- Demand 1, of what a host is told and finds: where the code is 0, a refusal's, the lent buffer is as it was
use Rattle.std.specs.Prelude.{ℕ, ◌≡◌, refl, List, ℤ, length}
use Rattle.std.proofs.Common.{sym, ap, ◌∙◌}
use native.Mathlib.Omega.{arith}
use Rattle.scope.specs.Windows.{Board}
use Rattle.scope.specs.Verdict.{Verdict}
use Rattle.scope.specs.Run.{Outcome, Outcome.met, Outcome.missed}
use Rattle.scope.specs.Answers as Answers
use Rattle.scope.specs.Answers.{Answer.given, Answer.refused, critical_answer, critical_out, run_answer, run_out}
use Rattle.scope.specs.Limits.{teams}
use Rattle.scope.specs.Shared.{critical_for, critical_out_for, run_for, run_out_for}
use Rattle.scope.specs.Summary.{make_answer, make_out, make_for, make_out_for, margins_answer, margins_out, margins_for, margins_out_for, Edit, edit_answer, edit_windows, edit_summary}
use Rattle.scope.specs.Plan.{Plan, write_answer, write_out}
use Rattle.scope.specs.Line.{line_answer, line_out}
use Rattle.theory.specs.Refused.{critical_kept, run_kept, make_kept, margins_kept, edit_kept, write_kept, line_kept, asked_kept}
use Rattle.host.specs.declared.answer.Answer.{Answer}
use Rattle.host.specs.Told.{told, amount, ended, ran, edited, c_amount, c_ran, c_edited}

-- of values whose code is never 0
refusal_is : {A : Type 0} (value : A → Answer) → ((x : A) → (value x).code ≡ 0 → ⊥) → (x : Answers.Answer A) →
    (told value x).code ≡ 0 → (n : ℕ) × (p : ℕ) × (x ≡ refused n p)
refusal_is value coded (given x) e = absurd (coded x e)
refusal_is value coded (refused n p) e = (n, p, refl)

coded_refusal : {A : Type 0} (value : A → Answer) → ((x : A) → (value x).code ≡ 0 → ⊥) → (r : Answer) → r.code ≡ 0 → (x : Answers.Answer A) →
    r ≡ told value x → (n : ℕ) × (p : ℕ) × (x ≡ refused n p)
coded_refusal value coded r zero-code x e = refusal_is value coded x (sym (ap (λ (a : Answer). a.code) e) ∙ zero-code)

amount_refused : (r : Answer) → r.code ≡ 0 → (x : Answers.Answer ℕ) → r ≡ c_amount x → (n : ℕ) × (p : ℕ) × (x ≡ refused n p)
amount_refused = coded_refusal amount (λ n c. omega arith)

module _ (out left : List ℕ) (r : Answer) (zero-code : r.code ≡ 0) where
  pub host_critical_refused : (b : Board) (ws : List ℕ) → r ≡ c_amount (critical_for b ws (length out)) → left ≡ critical_out_for b ws out → left ≡ out
  unfolding critical_for critical_out_for
  host_critical_refused b ws e wrote =
      let x = amount_refused r zero-code _ e in
      wrote ∙ asked_kept x.0 x.1 teams b ws (λ l. critical_answer b l (length out)) (λ l. critical_out b l out) out (λ l. critical_kept x.0 x.1 b l out) x.2

  pub host_make_refused : (b : Board) (ws : List ℕ) → r ≡ c_amount (make_for b ws (length out)) → left ≡ make_out_for b ws out → left ≡ out
  unfolding make_for make_out_for
  host_make_refused b ws e wrote =
      let x = amount_refused r zero-code _ e in
      wrote ∙ asked_kept x.0 x.1 teams b ws (λ l. make_answer b l (length out)) (λ l. make_out b l out) out (λ l. make_kept x.0 x.1 b l out) x.2

  pub host_line_refused : (a : Answers.Answer Verdict) → r ≡ c_amount (line_answer a (length out)) → left ≡ line_out a out → left ≡ out
  host_line_refused a e wrote = let x = amount_refused r zero-code _ e in wrote ∙ line_kept x.0 x.1 a out x.2

  pub host_write_refused : (p : Plan) → r ≡ c_amount (write_answer p (length out)) → left ≡ write_out p out → left ≡ out
  host_write_refused p e wrote = let x = amount_refused r zero-code _ e in wrote ∙ write_kept x.0 x.1 p out x.2

  pub host_run_refused : (b : Board) (ws ts : List ℕ) (n : ℕ) (js : List ℕ) →
      r ≡ c_ran (run_for b ws ts n js (length out)) → left ≡ run_out_for b ws ts n js out → left ≡ out
  unfolding run_for run_out_for
  host_run_refused b ws ts n js e wrote =
      let x = coded_refusal ran (λ y. coded y.outcome y.backlog) r zero-code _ e in
      wrote ∙ asked_kept x.0 x.1 teams b ws (λ l. run_answer b l ts n js (length out)) (λ l. run_out b l ts n js out) out
      (λ l. run_kept x.0 x.1 b l ts n js out) x.2
    where
      coded : (o : Outcome) (backlog : ℕ) → (ended o backlog).code ≡ 0 → ⊥
      coded met backlog c = omega arith
      coded (missed k j) backlog c = omega arith

-- memory for signed numbers
pub host_margins_refused : (out left : List ℤ) (r : Answer) → r.code ≡ 0 → (b : Board) (ws summary ts lengths : List ℕ) →
    r ≡ c_amount (margins_for b ws summary ts lengths (length out)) → left ≡ margins_out_for b ws summary ts lengths out → left ≡ out
unfolding margins_for margins_out_for
host_margins_refused out left r zero-code b ws summary ts lengths e wrote =
    let x = amount_refused r zero-code _ e in
    wrote ∙ asked_kept x.0 x.1 teams b ws (λ l. margins_answer b l summary ts lengths (length out)) (λ l. margins_out b l summary ts lengths out) out
    (λ l. margins_kept x.0 x.1 b l summary ts lengths out) x.2

-- both memories of an edit
pub host_edit_refused : (memory summary list held : List ℕ) (r : Answer) → r.code ≡ 0 → (b : Board) (count : ℕ) (edit : Edit) →
    r ≡ c_edited (edit_answer teams b count memory summary edit) → list ≡ edit_windows teams b count memory summary edit →
    held ≡ edit_summary teams b count memory summary edit → (list ≡ memory) × (held ≡ summary)
host_edit_refused memory summary list held r zero-code b count edit e wrote made =
    let x = coded_refusal edited (λ y c. omega arith) r zero-code _ e in
    let old = edit_kept x.0 x.1 teams b count memory summary edit x.2 in
    (wrote ∙ old.0, made ∙ old.1)
