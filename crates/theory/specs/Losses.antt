-- Document 02, request 7: when a board and one owner's windows are refused by 13, and by which of its four causes
use Rattle.std.specs.Prelude.{◌≡◌, Bool, not, ◌&&◌, ◌||◌, ◌↔◌, ◌≢◌, List, [], ℕ, ◌≤◌, ◌<◌, ltb, length}
use Rattle.std.proofs.Math.Path.{refl}
use Rattle.std.proofs.Common.{sym, ap, ◌∙◌, arith}
use Rattle.std.proofs.Math.Bool.{true, false, or-true}
use Rattle.std.proofs.Math.Decide.{ℕ_discrete, dec_lt}
use Rattle.std.proofs.Math.Dec.{eqb}
use borrow.Author.Tests.{lt-ltb, le-ltb, eqb-true, eqb-false, ne_eqb}
use Rattle.scope.specs.Limits.{most_lost}
use Rattle.scope.specs.Windows.{Board, windows_of}
use Rattle.scope.specs.Answers.{Fault, Fault.fine, Fault.fault, fault_if, ◌or_else◌, rule_fault}
use Rattle.scope.specs.Shared.{left_of, lost_fault}
use Rattle.theory.specs.Lists.{none_listed}
use Rattle.theory.specs.Answers.{fault_not_fine}

-- the four causes. What is left is nothing where every window is no longer than the lost ticks (Left, `left_supplied`: then no tick is supplied)
pub data Cause (b : Board) (mine : List ℕ) : Type 0 where
  no_such_rule : b.rule ≢ 1 → b.rule ≢ 2 → Cause b mine
  too_many_lost : most_lost < b.lost → Cause b mine
  lost_under_one : b.rule ≡ 1 → 0 < b.lost → Cause b mine
  none_left : left_of b.lost (windows_of mine) ≡ [] → Cause b mine

module _ (b : Board) where
  abbrev bad : Bool
  bad = not (eqb b.rule 1 || eqb b.rule 2) || ltb most_lost b.lost || (eqb b.rule 1 && ltb 0 b.lost)

  pub few_fine : b.lost ≤ most_lost → (b.rule ≡ 2) → rule_fault b ≡ fine
  unfolding rule_fault
  few_fine h e = rw (e, le-ltb most_lost b.lost h)

  pub one_fine : b.rule ≡ 1 → b.lost ≡ 0 → rule_fault b ≡ fine
  unfolding rule_fault
  one_fine e z = rw (e, z)

  pub no_rule : b.rule ≢ 1 → b.rule ≢ 2 → rule_fault b ≡ fault 13 0
  unfolding rule_fault
  no_rule r s = rw (ne_eqb b.rule 1 r, ne_eqb b.rule 2 s)

  pub over_lost : most_lost < b.lost → rule_fault b ≡ fault 13 0
  unfolding rule_fault
  over_lost h = rw (lt-ltb most_lost b.lost h, or-true (not (eqb b.rule 1 || eqb b.rule 2)))

  pub one_lost : b.rule ≡ 1 → 0 < b.lost → rule_fault b ≡ fault 13 0
  unfolding rule_fault
  one_lost r h = rw (r, lt-ltb 0 b.lost h, or-true (ltb most_lost b.lost))

  -- a rule or lost ticks that no board has are refused, by one of the first three causes
  ruled_or : (mine : List ℕ) → (rule_fault b ≡ fault 13 0 → Cause b mine) × (Cause b mine → (left_of b.lost (windows_of mine) ≡ [] → ⊥) → rule_fault b ≡ fault 13 0)
  unfolding rule_fault
  ruled_or mine = (only, so)
    where
      only : fault_if bad 13 0 ≡ fault 13 0 → Cause b mine
      only e =
          elim (dec_lt most_lost b.lost) [
            | yes h ↦ too_many_lost h
            | no h ↦ elim (ℕ_discrete b.rule 1) [
              | yes r ↦ elim (ℕ_discrete b.lost 0) [
                | yes z ↦ absurd (fault_not_fine (sym e ∙ one_fine r z))
                | no z ↦ lost_under_one r (omega arith)
              ]
              | no r ↦ elim (ℕ_discrete b.rule 2) [
                | yes s ↦ absurd (fault_not_fine (sym e ∙ few_fine (omega arith) s))
                | no s ↦ no_such_rule r s
              ]
            ]
          ]

      so : Cause b mine → (left_of b.lost (windows_of mine) ≡ [] → ⊥) → fault_if bad 13 0 ≡ fault 13 0
      so (no_such_rule r s) u = no_rule r s
      so (too_many_lost h) u = over_lost h
      so (lost_under_one r h) u = one_lost r h
      so (none_left e) u = absurd (u e)

  pub rule_number : (n p : ℕ) → rule_fault b ≡ fault n p → fault 13 0 ≡ fault n p
  unfolding rule_fault
  rule_number n p = go bad
    where
      go : (t : Bool) → fault_if t 13 0 ≡ fault n p → fault 13 0 ≡ fault n p
      go true e = e
      go false e = absurd (fault_not_fine (sym e))

  -- so where 13 comes in any case it is no matter which cause comes first
  pub rule_or : fault 13 0 ≡ (rule_fault b or_else fault 13 0)
  rule_or = go (rule_fault b) rule_number
    where
      go : (f : Fault) → ((n p : ℕ) → f ≡ fault n p → fault 13 0 ≡ fault n p) → fault 13 0 ≡ (f or_else fault 13 0)
      go fine h = refl
      go (fault n p) h = h n p refl

-- a rule and lost ticks that a board can have, it can have with fewer lost
pub less_ruled : (b c : Board) → b.rule ≡ c.rule → b.lost ≤ c.lost → rule_fault c ≡ fine → rule_fault b ≡ fine
less_ruled b c rule less can =
    elim (ℕ_discrete c.rule 1) [
      | yes e ↦ elim (ℕ_discrete c.lost 0) [
        | yes z ↦ one_fine b (rule ∙ e) (omega arith)
        | no z ↦ absurd (fault_not_fine (sym (one_lost c e (omega arith)) ∙ can))
      ]
      | no u ↦ elim (ℕ_discrete c.rule 2) [
        | yes e ↦ elim (dec_lt most_lost c.lost) [
          | yes h ↦ absurd (fault_not_fine (sym (over_lost c h) ∙ can))
          | no h ↦ few_fine b (omega arith) (rule ∙ e)
        ]
        | no v ↦ absurd (fault_not_fine (sym (no_rule c u v) ∙ can))
      ]
    ]

module _ (b : Board) (mine : List ℕ) where
  abbrev left : List ℕ
  left = left_of b.lost (windows_of mine)

  -- no other number and no other place
  pub lost_thirteen : (n p : ℕ) → lost_fault b mine ≡ fault n p → fault 13 0 ≡ fault n p
  unfolding lost_fault
  lost_thirteen n p = go (rule_fault b) refl (eqb (length left) 0)
    where
      go : (f : Fault) → rule_fault b ≡ f → (t : Bool) → (f or_else fault_if t 13 0) ≡ fault n p → fault 13 0 ≡ fault n p
      go (fault m q) r t e = rule_number b m q r ∙ e
      go fine r true e = e
      go fine r false e = absurd (fault_not_fine (sym e))

  pub lost_exactly : (lost_fault b mine ≡ fault 13 0) ↔ Cause b mine
  unfolding lost_fault
  lost_exactly = (only (rule_fault b) refl, so (eqb (length left) 0) refl)
    where
      only : (f : Fault) → rule_fault b ≡ f → (f or_else fault_if (eqb (length left) 0) 13 0) ≡ fault 13 0 → Cause b mine
      only (fault m q) r e = (ruled_or b mine).0 (r ∙ e)
      only fine r e = nothing (eqb (length left) 0) refl e
        where
          nothing : (t : Bool) → eqb (length left) 0 ≡ t → fault_if t 13 0 ≡ fault 13 0 → Cause b mine
          nothing true z e = none_left (none_listed left (eqb-true (length left) 0 z))
          nothing false z e = absurd (fault_not_fine (sym e))

      so : (t : Bool) → eqb (length left) 0 ≡ t → Cause b mine → (rule_fault b or_else fault_if t 13 0) ≡ fault 13 0
      so true z c = sym (rule_or b)
      so false z c = rw ((ruled_or b mine).1 c (λ e. eqb-false (length left) 0 z (ap length e)))

  pub lost_fine : rule_fault b ≡ fine → 0 < length left → lost_fault b mine ≡ fine
  unfolding lost_fault
  lost_fine can h = rw (can, ne_eqb (length left) 0 (λ z. omega arith))
