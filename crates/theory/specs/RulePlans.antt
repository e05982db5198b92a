-- Document 02, request 7, of plan files: a file of either older form is answered as the same file with rule 1 and no lost tick told, and one of rule 2 without a
-- loss as one of rule 1. Of any bytes
use Rattle.std.specs.Prelude.{◌≡◌, cond, ◌⊎◌, ℕ, zero, suc, ◌+◌, ◌≤◌, eqb}
use Rattle.std.proofs.Math.Path.{refl, ap}
use Rattle.std.proofs.Common.{sym, ◌∙◌, arith, length-append}
use Rattle.std.proofs.Math.Logic.{inl, inr}
use mathlib.Core.List.{List, [], ◌∷◌, ◌++◌, append-nil, append_assoc}
use Rattle.std.proofs.Math.ListN.{length}
use Rattle.scope.specs.Limits.{teams, most_number}
use Rattle.scope.specs.Answers.{Answer, Answer.given, Answer.refused}
use Rattle.scope.specs.Plan.{Plan, plan_of, number_bytes_within, number_bytes, numbers_bytes}
use Rattle.scope.specs.Shared.{as_owned, verdict_for, plan_board, plan_answer}
use Rattle.theory.specs.Alone.{verdict_entry}
use Rattle.theory.specs.Lost.{no_loss}
use Rattle.theory.specs.Seven.{UpTo}
use Rattle.theory.specs.Forms.{with_settings, refused_behind, judged_behind}
use Rattle.theory.specs.Shortest.{old_form}

module _ (m : ℕ) (few : m ≤ most_number) (bytes : List ℕ) where
  -- ---- m alone before P

  one_setting : UpTo most_number (m ∷ [])
  one_setting zero l = few
  one_setting (suc i) l = absurd (omega arith)

  one_bytes : numbers_bytes (m ∷ []) ++ bytes ≡ number_bytes m ++ bytes
  unfolding numbers_bytes
  one_bytes = rw append-nil

  m_judged : (p : Plan) → plan_of 0 bytes ≡ given p →
      plan_answer 1 (number_bytes m ++ bytes) ≡ verdict_for (plan_board (with_settings (m ∷ []) p)) (as_owned 0 p.windows) p.tasks
  m_judged p e = ap (plan_answer 1) (sym one_bytes) ∙ judged_behind (m ∷ []) bytes one_setting p e

  -- ---- m, rule r, which is 1 or 2, and no lost tick

  module _ (r : ℕ) (which : (r ≡ 1) ⊎ (r ≡ 2)) where
    three_settings : UpTo most_number (m ∷ r ∷ 0 ∷ [])
    three_settings zero l = few
    three_settings (suc zero) l = elim which [ inl e ↦ omega arith | inr e ↦ omega arith ]
    three_settings (suc (suc zero)) l = omega arith
    three_settings (suc (suc (suc i))) l = absurd (omega arith)

    three_bytes : numbers_bytes (m ∷ r ∷ 0 ∷ []) ++ bytes ≡ number_bytes m ++ (r ∷ 0 ∷ bytes)
    unfolding numbers_bytes number_bytes number_bytes_within
    three_bytes =
        elim which [
          | inl e ↦ rw e (append_assoc (number_bytes m) (1 ∷ 0 ∷ []) bytes)
          | inr e ↦ rw e (append_assoc (number_bytes m) (2 ∷ 0 ∷ []) bytes)
        ]

    three_length : length (numbers_bytes (m ∷ r ∷ 0 ∷ [])) ≡ length (number_bytes m) + 2
    unfolding numbers_bytes number_bytes number_bytes_within
    three_length =
        elim which [
          | inl e ↦ rw e (length-append (number_bytes m) (1 ∷ 0 ∷ []))
          | inr e ↦ rw e (length-append (number_bytes m) (2 ∷ 0 ∷ []))
        ]

    ruled_judged : (p : Plan) → plan_of 0 bytes ≡ given p →
        plan_answer 3 (number_bytes m ++ (r ∷ 0 ∷ bytes)) ≡ verdict_for (plan_board (with_settings (m ∷ r ∷ 0 ∷ []) p)) (as_owned 0 p.windows) p.tasks
    ruled_judged p e = ap (plan_answer 3) (sym three_bytes) ∙ judged_behind (m ∷ r ∷ 0 ∷ []) bytes three_settings p e

    ruled_refused : (n o : ℕ) → plan_of 0 bytes ≡ refused n o →
        plan_answer 3 (number_bytes m ++ (r ∷ 0 ∷ bytes)) ≡ refused n (cond (eqb n 9) (length (number_bytes m) + 2 + o) o)
    ruled_refused n o e =
        ap (plan_answer 3) (sym three_bytes) ∙ refused_behind (m ∷ r ∷ 0 ∷ []) bytes three_settings n o e
        ∙ ap (λ (k : ℕ). refused n (cond (eqb n 9) (k + o) o)) three_length

  -- ---- what the forms answer

  -- the form with m first is rule 1: it is answered as with rule 1 and no lost tick behind m
  pub m_first_form : (p : Plan) → plan_of 0 bytes ≡ given p → plan_answer 3 (number_bytes m ++ (1 ∷ 0 ∷ bytes)) ≡ plan_answer 1 (number_bytes m ++ bytes)
  m_first_form p e = ruled_judged 1 (inl refl) p e ∙ sym (m_judged p e)

  -- and what is no plan there is refused as there, 9 two bytes later
  pub m_first_refused : (n o : ℕ) → plan_of 0 bytes ≡ refused n o →
      (plan_answer 1 (number_bytes m ++ bytes) ≡ refused n (cond (eqb n 9) (length (number_bytes m) + o) o))
      × (plan_answer 3 (number_bytes m ++ (1 ∷ 0 ∷ bytes)) ≡ refused n (cond (eqb n 9) (length (number_bytes m) + 2 + o) o))
  unfolding numbers_bytes
  m_first_refused n o e =
      let one : length (numbers_bytes (m ∷ [])) ≡ length (number_bytes m) = ap length (append-nil (number_bytes m)) in (
        ap (plan_answer 1) (sym one_bytes) ∙ refused_behind (m ∷ []) bytes one_setting n o e ∙ ap (λ (k : ℕ). refused n (cond (eqb n 9) (k + o) o)) one,
        ruled_refused 1 (inl refl) n o e,
      )

  -- rule 2 without a loss is answered, and refused, as rule 1
  pub no_loss_plan : plan_answer 3 (number_bytes m ++ (1 ∷ 0 ∷ bytes)) ≡ plan_answer 3 (number_bytes m ++ (2 ∷ 0 ∷ bytes))
  unfolding verdict_for
  no_loss_plan = go (plan_of 0 bytes) refl
    where
      asked : (p : Plan) → verdict_for (plan_board (with_settings (m ∷ 1 ∷ 0 ∷ []) p)) (as_owned 0 p.windows) p.tasks
          ≡ verdict_for (plan_board (with_settings (m ∷ 2 ∷ 0 ∷ []) p)) (as_owned 0 p.windows) p.tasks
      asked p =
          no_loss (plan_board (with_settings (m ∷ 1 ∷ 0 ∷ []) p)) (plan_board (with_settings (m ∷ 2 ∷ 0 ∷ []) p))
          (record { frame = refl; owner = refl; shortest = refl; one = refl; two = refl; whole = refl; nothing = refl })
          (verdict_entry p.tasks) teams (as_owned 0 p.windows)

      go : (a : Answer Plan) → plan_of 0 bytes ≡ a → plan_answer 3 (number_bytes m ++ (1 ∷ 0 ∷ bytes)) ≡ plan_answer 3 (number_bytes m ++ (2 ∷ 0 ∷ bytes))
      go (refused n o) e = ruled_refused 1 (inl refl) n o e ∙ sym (ruled_refused 2 (inr refl) n o e)
      go (given p) e = ruled_judged 1 (inl refl) p e ∙ asked p ∙ sym (ruled_judged 2 (inr refl) p e)

-- the oldest form, which tells no setting, is rule 1 too: it is answered as with m = 1, rule 1 and no lost tick before it
module _ (bytes : List ℕ) where
  pub oldest_form : (p : Plan) → plan_of 0 bytes ≡ given p → plan_answer 3 (1 ∷ 1 ∷ 0 ∷ bytes) ≡ plan_answer 0 bytes
  unfolding number_bytes number_bytes_within
  oldest_form p e = m_first_form 1 (omega arith) bytes p e ∙ old_form bytes p e

  -- and what is no plan there is refused as there, 9 three bytes later
  pub oldest_refused : (n o : ℕ) → plan_of 0 bytes ≡ refused n o → plan_answer 3 (1 ∷ 1 ∷ 0 ∷ bytes) ≡ refused n (cond (eqb n 9) (3 + o) o)
  unfolding number_bytes number_bytes_within
  oldest_refused n o e = (m_first_refused 1 (omega arith) bytes n o e).1
