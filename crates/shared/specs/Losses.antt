-- Request 7, of what the entries answer: 13 exactly when; rule 1 and rule 2 without a loss alike; on the table that is left as on the board; and that more lost
-- ticks supply no more. Once over every kind of answer, whose cases are told apart, where every entry has it; then of `verdict` and the least supply
use Rattle.std.specs.Prelude.{ℕ, ◌≤◌, ◌<◌, ◌≡◌, refl, ◌↔◌, List}
use Rattle.std.proofs.Common.{sym, ◌∙◌, arith}
use Rattle.std.specs.declared.result.Result.{Result}
use Rattle.std.specs.declared.result.Result.TheVariants.{Ok, Err}
use Rattle.scope.specs.Limits.{teams}
use Rattle.scope.specs.Windows as Windows
use Rattle.scope.specs.Answers.{Fault.fine, Answer, Answer.refused, verdict_answer}
use Rattle.scope.specs.Shared.{own_left, as_owned, shared_fault, asked_for, least_supply_for, verdict_for}
use Rattle.scope.specs.Examples.{XShared}
use Rattle.scope.specs.Computing.{everything}
use Rattle.theory.specs.Alone.{Entry, verdict_entry}
use Rattle.theory.specs.Shortest.{Known, verdict_known}
use Rattle.theory.specs.Lost.{rule_one, NoLoss, no_loss}
use Rattle.theory.specs.Thirteen.{Thirteen, exactly_thirteen}
use Rattle.theory.specs.MoreLost.{more_lost_amount, less_lost_meets}
use Rattle.theory.specs.Applied.{w4, in_five}
use Rattle.tables.specs.declared.board.Board.{Board}
use Rattle.tables.specs.declared.answer.Refusal.{Refusal}
use Rattle.tables.specs.declared.answer.Refusal.TheVariants.{Loss}
use Rattle.tables.specs.declared.answer.Verdict.{Verdict}
use Rattle.tables.specs.declared.answer.Verdict.TheVariants.{Meets, Miss}
use Rattle.tables.specs.Told.{board_of, no, told_amount, told_verdict}
use Rattle.tables.specs.Determined.{verdict_determined}
use Rattle.tables.specs.Refused.{told_refused}

module _ {R A : Type 0} (told : R → Answer A) (by : Refusal → R) (tells : (r : Refusal) → told (by r) ≡ no r) (determined : (x y : R) → told x ≡ told y → x ≡ y)
    (entry : Windows.Board → List ℕ → Answer A) (b : Board) (ws : List ℕ) (x : R) (promised : told x ≡ asked_for teams (board_of b) ws refused (entry (board_of b))) where
  pub loss_answered : Known (entry (board_of b)) → (x ≡ by Loss) ↔ Thirteen teams (board_of b) ws 0
  loss_answered known = told_refused told by tells determined Loss x promised (exactly_thirteen teams (board_of b) ws (entry (board_of b)) known 0)

  module _ (is : Entry refused entry) (c : Board) where
    pub no_loss_answered : NoLoss (board_of b) (board_of c) → (y : R) → told y ≡ asked_for teams (board_of c) ws refused (entry (board_of c)) → x ≡ y
    no_loss_answered alike y promised' = determined x y (promised ∙ no_loss (board_of b) (board_of c) alike is teams ws ∙ sym promised')

    pub left_answered : shared_fault teams (board_of b) ws ≡ fine → (o : ℕ) → o < teams → board_of c ≡ Windows.framed_for b.frame o →
        (y : R) → told y ≡ asked_for teams (board_of c) (as_owned o (own_left (board_of b) ws)) refused (entry (board_of c)) → x ≡ y
    left_answered listed o exists only y promised' =
        determined x y (promised ∙ rule_one is teams (board_of b) ws listed o exists ∙ rw (← only) (sym promised'))

-- ---- of `verdict`, whatever the group

module _ (b : Board) (ws ts : List ℕ) (v : Result Verdict Refusal) (promised : told_verdict v ≡ verdict_for (board_of b) ws ts) where
  pub verdict_loss : (v ≡ Err Loss) ↔ Thirteen teams (board_of b) ws 0
  unfolding verdict_for
  verdict_loss = loss_answered told_verdict Err (λ r. refl) verdict_determined (λ d l. verdict_answer d l ts) b ws v promised (verdict_known (board_of b) ts)

  pub verdict_no_loss : (c : Board) → NoLoss (board_of b) (board_of c) → (w : Result Verdict Refusal) → told_verdict w ≡ verdict_for (board_of c) ws ts → v ≡ w
  unfolding verdict_for
  verdict_no_loss = no_loss_answered told_verdict Err (λ r. refl) verdict_determined (λ d l. verdict_answer d l ts) b ws v promised (verdict_entry ts)

  pub verdict_left : (c : Board) → shared_fault teams (board_of b) ws ≡ fine → (o : ℕ) → o < teams → board_of c ≡ Windows.framed_for b.frame o →
      (w : Result Verdict Refusal) → told_verdict w ≡ verdict_for (board_of c) (as_owned o (own_left (board_of b) ws)) ts → v ≡ w
  unfolding verdict_for
  verdict_left = left_answered told_verdict Err (λ r. refl) verdict_determined (λ d l. verdict_answer d l ts) b ws v promised (verdict_entry ts)

-- ---- of two boards, of which c loses no fewer ticks

module _ (b c : Board) (framed : b.frame ≡ c.frame) (less : b.lost ≤ c.lost) (owner : b.owner ≡ c.owner) (ws : List ℕ) where
  -- the least supply on c is no greater
  pub amount_more_lost : (t p q : ℕ) → told_amount (Ok p) ≡ least_supply_for (board_of c) ws t → told_amount (Ok q) ≡ least_supply_for (board_of b) ws t → p ≤ q
  amount_more_lost t p q e f = more_lost_amount (board_of b) (board_of c) framed less owner ws t p q (sym e) (sym f)

  -- and who is let in on c is let in on b
  pub verdict_less_lost : b.shortest ≡ c.shortest → b.rule ≡ c.rule → (ts : List ℕ) (H : ℕ) → told_verdict (Ok (Meets H)) ≡ verdict_for (board_of c) ws ts →
      (v : Result Verdict Refusal) → told_verdict v ≡ verdict_for (board_of b) ws ts → v ≡ Ok (Meets H)
  verdict_less_lost shortest rule ts H e v promised =
      verdict_determined v (Ok (Meets H)) (promised ∙ less_lost_meets (board_of b) (board_of c) framed less owner shortest rule ws ts H (sym e))

-- ---- at X among two teams, of whose windows a board that loses one tick leaves (1,2) and (6,7), and one that loses two nothing

abbrev board : ℕ → ℕ → Board
board r q = record { frame = 8; owner = 0; shortest = 1; rule = r; lost = q }

x_lost : (v : Result Verdict Refusal) → told_verdict v ≡ verdict_for (board_of (board 2 2)) XShared w4 → Thirteen teams (board_of (board 2 2)) XShared 0
unfolding everything
x_lost v promised = (verdict_loss (board 2 2) XShared w4 v promised).0 (verdict_determined v (Err Loss) promised)

x_none_lost : (v w : Result Verdict Refusal) → told_verdict v ≡ verdict_for (board_of (board 1 0)) XShared w4 → told_verdict w ≡ verdict_for (board_of (board 2 0)) XShared w4 → v ≡ w
x_none_lost v w told told' =
    verdict_no_loss (board 1 0) XShared w4 v told (board 2 0)
    (record { frame = refl; owner = refl; shortest = refl; one = refl; two = refl; whole = refl; nothing = refl }) w told'

x_left : (v : Result Verdict Refusal) → told_verdict v ≡ verdict_for (board_of (board 2 1)) XShared w4 → v ≡ Ok (Miss 4 2 1 0)
unfolding everything
x_left v promised = verdict_left (board 2 1) XShared w4 v promised (board 1 0) refl 0 (omega arith) refl (Ok (Miss 4 2 1 0)) refl

x_less : (t p q : ℕ) → told_amount (Ok p) ≡ least_supply_for (board_of (board 2 1)) XShared t → told_amount (Ok q) ≡ least_supply_for (board_of (board 1 0)) XShared t → p ≤ q
x_less = amount_more_lost (board 1 0) (board 2 1) refl (omega arith) refl XShared

x_less_lost : (v : Result Verdict Refusal) → told_verdict v ≡ verdict_for (board_of (board 2 0)) XShared in_five → v ≡ Ok (Meets 8)
unfolding everything
x_less_lost = verdict_less_lost (board 2 0) (board 2 1) refl (omega arith) refl XShared refl refl in_five 8 refl
