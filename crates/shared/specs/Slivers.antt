-- Request 5, of what the entries answer: 12 exactly when, and that what is not refused by 12 is answered the same with every smaller shortest window from 1 on.
-- Once over every kind of answer, whose cases are told apart; then of `verdict`
use Rattle.std.specs.Prelude.{ℕ, ◌≤◌, ◌≡◌, refl, ◌↔◌, List}
use Rattle.std.proofs.Common.{sym, ◌∙◌, arith}
use Rattle.std.specs.declared.result.Result.{Result}
use Rattle.std.specs.declared.result.Result.TheVariants.{Ok, Err}
use Rattle.scope.specs.Limits.{teams}
use Rattle.scope.specs.Windows as Windows
use Rattle.scope.specs.Answers.{Answer, Answer.refused, verdict_answer}
use Rattle.scope.specs.Shared.{as_owned, asked_for, verdict_for}
use Rattle.scope.specs.Examples.{X, XShared}
use Rattle.scope.specs.Computing.{everything}
use Rattle.theory.specs.Alone.{Entry, Alike, verdict_entry}
use Rattle.theory.specs.Shortest.{Known, verdict_known, Twelve, exactly_twelve, smaller_answer}
use Rattle.theory.specs.Applied.{w6}
use Rattle.tables.specs.declared.board.Board.{Board}
use Rattle.tables.specs.declared.answer.Refusal.{Refusal}
use Rattle.tables.specs.declared.answer.Refusal.TheVariants.{Sliver}
use Rattle.tables.specs.declared.answer.Verdict.{Verdict}
use Rattle.tables.specs.declared.answer.Verdict.TheVariants.{Miss}
use Rattle.tables.specs.Told.{board_of, no, told_verdict}
use Rattle.tables.specs.Determined.{verdict_determined}
use Rattle.tables.specs.Refused.{told_refused}

module _ {R A : Type 0} (told : R → Answer A) (by : Refusal → R) (tells : (r : Refusal) → told (by r) ≡ no r) (determined : (x y : R) → told x ≡ told y → x ≡ y)
    (entry : Windows.Board → List ℕ → Answer A) (b : Board) (known : Known (entry (board_of b))) (ws : List ℕ)
    (x : R) (promised : told x ≡ asked_for teams (board_of b) ws refused (entry (board_of b))) where
  pub sliver_answered : (p : ℕ) → (x ≡ by (Sliver p)) ↔ Twelve teams (board_of b) ws p
  sliver_answered p = told_refused told by tells determined (Sliver p) x promised (exactly_twelve teams (board_of b) ws (entry (board_of b)) known p)

  pub smaller_answered : Entry refused entry → (c : Board) → Alike (board_of b) (board_of c) → b.owner ≡ c.owner → 1 ≤ c.shortest → c.shortest ≤ b.shortest →
      ((p : ℕ) → x ≡ by (Sliver p) → ⊥) → (y : R) → told y ≡ asked_for teams (board_of c) ws refused (entry (board_of c)) → x ≡ y
  smaller_answered is c alike owner least less spared y promised' =
      determined x y (promised ∙ smaller_answer teams (board_of b) (board_of c) ws alike owner least less is
      (λ p e. spared p (determined x (by (Sliver p)) (promised ∙ e ∙ sym (tells (Sliver p))))) ∙ sym promised')

-- of `verdict`, whatever the group
module _ (b : Board) (ws ts : List ℕ) (v : Result Verdict Refusal) (promised : told_verdict v ≡ verdict_for (board_of b) ws ts) where
  pub verdict_sliver : (p : ℕ) → (v ≡ Err (Sliver p)) ↔ Twelve teams (board_of b) ws p
  unfolding verdict_for
  verdict_sliver =
      sliver_answered told_verdict Err (λ r. refl) verdict_determined (λ d l. verdict_answer d l ts) b (verdict_known (board_of b) ts) ws v promised

  pub verdict_smaller : (c : Board) → Alike (board_of b) (board_of c) → b.owner ≡ c.owner → 1 ≤ c.shortest → c.shortest ≤ b.shortest →
      ((p : ℕ) → v ≡ Err (Sliver p) → ⊥) → (w : Result Verdict Refusal) → told_verdict w ≡ verdict_for (board_of c) ws ts → v ≡ w
  unfolding verdict_for
  verdict_smaller =
      smaller_answered told_verdict Err (λ r. refl) verdict_determined (λ d l. verdict_answer d l ts) b (verdict_known (board_of b) ts) ws v promised (verdict_entry ts)

-- ---- at X, whose windows have two ticks each, and the rest of its frame as owner 1's, who has one of one tick, window 3

abbrev board : ℕ → Board
board m = record { frame = 8; owner = 0; shortest = m; rule = 1; lost = 0 }

x_refused : (v : Result Verdict Refusal) → told_verdict v ≡ verdict_for (board_of (board 2)) XShared w6 → Twelve teams (board_of (board 2)) XShared 3
unfolding everything
x_refused v promised = (verdict_sliver (board 2) XShared w6 v promised 3).0 (verdict_determined v (Err (Sliver 3)) promised)

x_smaller : (v w : Result Verdict Refusal) → told_verdict v ≡ verdict_for (board_of (board 2)) (as_owned 0 X) w6 → told_verdict w ≡ verdict_for (board_of (board 1)) (as_owned 0 X) w6 →
    (v ≡ w) × (w ≡ Ok (Miss 6 2 3 2))
unfolding everything
x_smaller v w told told' =
    let is : v ≡ Ok (Miss 6 2 3 2) = verdict_determined v (Ok (Miss 6 2 3 2)) told in
    let same : v ≡ w =
    verdict_smaller (board 2) (as_owned 0 X) w6 v told (board 1) (record { frame = refl; rule = refl; lost = refl }) refl (omega arith) (omega arith)
    (λ p e. let z : Ok (Miss 6 2 3 2) ≡ Err (Sliver p) = sym is ∙ e in let n : ◌≡◌ {A = ℕ} 0 1 = cc in omega arith) w told' in
    (same, sym same ∙ is)
