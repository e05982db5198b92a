-- The least supply by pieces: from a length t on it stays as long as a start at the least meets no supplied tick, or, where there is none, rises until a start
-- can be at the least again
use Rattle.std.specs.Prelude.{◌≡◌, Bool, true, false, ℕ, suc, ◌+◌, ◌-◌, ◌≤◌, ◌<◌, min, max}
use Rattle.std.proofs.Math.Path.{sym, ap}
use Rattle.std.proofs.Common.{◌∙◌, add-zero}
use native.Mathlib.Omega.{arith}
use Rattle.std.proofs.Math.Decide.{ℕ_discrete, dec_le}
use borrow.Author.Tests.{lt-ltb, le-ltb}
use Rattle.scope.specs.Ticks.{Periodic, supply, least_supply}
use Rattle.scope.specs.Partition.{rises}
use Rattle.theory.specs.Ticks.{supply_up, least_up, least_over_all_starts, least_up_by}

-- ---- what lies ahead of length t

-- of the first i starts e 0, e 1, ..: the least supply stays for `flat` lengths; where that is none, no stretch from one of them has less than one tick more for
-- each of `rise` lengths
pub record Ahead (σ : ℕ → Bool) (P : ℕ) (e : ℕ → ℕ) (t i flat rise : ℕ) : Type 0 where
  pub stays : (x : ℕ) → x ≤ flat → least_supply σ P (t + x) ≤ least_supply σ P t
  pub above : flat ≡ 0 → (j x : ℕ) → j < i → x ≤ rise → least_supply σ P t + x ≤ supply σ (e j) (t + x)

module _ (σ : ℕ → Bool) (P : ℕ) (per : Periodic σ P) where
  module _ (e : ℕ → ℕ) (t : ℕ) where
    -- no start yet
    pub ahead_none : (rise : ℕ) → Ahead σ P e t 0 0 rise
    ahead_none rise =
        record {
          stays = λ x l. let z : t + x ≡ t = omega arith in omega (arith, ap (least_supply σ P) z);
          above = λ z j x l m. absurd (omega arith);
        }

    -- one start more, whose stretch has f ticks
    module _ (i flat rise far f : ℕ) (is : f ≡ supply σ (e i) t) (ahead : Ahead σ P e t i flat rise) where
      low : least_supply σ P t ≤ f
      low = omega (arith, is, least_over_all_starts σ P per (e i) t)

      up : (x y : ℕ) → x ≤ y → supply σ (e i) (t + x) ≤ supply σ (e i) (t + y)
      up x y h = supply_up σ (e i) (t + x) (t + y) (omega arith)

      -- the starts so far and this one, up to no more lengths than before
      one_more : (r : ℕ) → r ≤ rise → ((x : ℕ) → x ≤ r → least_supply σ P t + x ≤ supply σ (e i) (t + x)) → Ahead σ P e t (suc i) flat r
      one_more r h new =
          record {
            stays = ahead.stays;
            above = λ z j x l m. elim (ℕ_discrete j i) [
              | yes s ↦ rw s (new x m)
              | no s ↦ ahead.above z j x (omega arith) (omega arith)
            ];
          }

      -- its next `far` ticks are supplied: after them it still has what it had more than the least
      pub ahead_on : ((x : ℕ) → x ≤ far → supply σ (e i) (t + x) ≡ f + x) → Ahead σ P e t (suc i) flat (min rise (far + (f - least_supply σ P t)))
      ahead_on straight =
          one_more (min rise (far + (f - least_supply σ P t))) (omega arith) (λ x l. elim (dec_le x far) [
            | yes u ↦ omega (arith, low, straight x u)
            | no u ↦ omega (arith, low, straight far (omega arith), up far x (omega arith))
          ])

      -- they are not, and it is above the least
      pub ahead_off : Ahead σ P e t (suc i) flat (min rise (f - least_supply σ P t))
      ahead_off =
          one_more (min rise (f - least_supply σ P t)) (omega arith)
          (λ x l. omega (arith, low, is, ap (supply σ (e i)) (add-zero t), up 0 x (omega arith)))

      -- they are not, and it is at the least
      pub ahead_still : 0 < far → f ≡ least_supply σ P t → ((x : ℕ) → x ≤ far → supply σ (e i) (t + x) ≡ f) → Ahead σ P e t (suc i) (max flat far) rise
      ahead_still some least straight =
          record {
            stays = λ x l. elim (dec_le x far) [
              | yes u ↦ omega (arith, least, straight x u, least_over_all_starts σ P per (e i) (t + x))
              | no u ↦ ahead.stays x (omega arith)
            ];
            above = λ z j x l m. absurd (omega arith);
          }

-- ---- pieces: lengths over which the least supply only rises, or stays

pub record Piece (σ : ℕ → Bool) (P t : ℕ) (rising : Bool) (end least : ℕ) : Type 0 where
  pub after : t < end
  pub same : (k : ℕ) → t ≤ k → k < end → rises σ P k ≡ rising
  pub ends : least ≡ least_supply σ P end

module _ (σ : ℕ → Bool) (P : ℕ) (per : Periodic σ P) (e : ℕ → ℕ) (t i flat rise : ℕ) (ahead : Ahead σ P e t i flat rise) where
  still : (x : ℕ) → x ≤ flat → least_supply σ P (t + x) ≡ least_supply σ P t
  still x h = omega (arith, ahead.stays x h, least_up σ P per t (t + x) (omega arith))

  pub piece_flat : (n : ℕ) → 0 < n → n ≤ flat → Piece σ P t false (t + n) (least_supply σ P t)
  unfolding rises
  piece_flat n some h =
      record {
        after = omega arith;
        same = λ k l m. le-ltb (least_supply σ P k) (least_supply σ P (k + 1)) (omega (arith, at k l (omega arith), at (k + 1) (omega arith) (omega arith)));
        ends = sym (still n h);
      }
    where
      at : (k : ℕ) → t ≤ k → k ≤ t + n → least_supply σ P k ≡ least_supply σ P t
      at k l m = let z : t + (k - t) ≡ k = omega arith in ap (least_supply σ P) (sym z) ∙ still (k - t) (omega arith)

  -- of starts that suffice for the amount
  pub piece_up : ((u p : ℕ) → ((j : ℕ) → j < i → p ≤ supply σ (e j) u) → p ≤ least_supply σ P u) → flat ≡ 0 → 0 < rise →
      Piece σ P t true (t + rise) (least_supply σ P t + rise)
  unfolding rises
  piece_up suffice none some =
      record {
        after = omega arith;
        same = λ k l m. lt-ltb (least_supply σ P k) (least_supply σ P (k + 1)) (omega (arith, at k l (omega arith), at (k + 1) (omega arith) (omega arith)));
        ends = sym (climbs rise (omega arith));
      }
    where
      climbs : (x : ℕ) → x ≤ rise → least_supply σ P (t + x) ≡ least_supply σ P t + x
      climbs x h = omega (arith, suffice (t + x) (least_supply σ P t + x) (λ j l. ahead.above none j x l h), least_up_by σ P per t x)

      at : (k : ℕ) → t ≤ k → k ≤ t + rise → least_supply σ P k ≡ least_supply σ P t + (k - t)
      at k l m = let z : t + (k - t) ≡ k = omega arith in ap (least_supply σ P) (sym z) ∙ climbs (k - t) (omega arith)
