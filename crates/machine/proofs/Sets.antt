-- What adding and removing do to membership, and what the machine's counts of digits say of a set
use Prim.Native.Nat.{ℕ, zero, suc, ◌+◌, ◌/◌, ◌%◌, ◌^◌, ◌<◌, min, max}
use mathlib.Core.Path.{◌≡◌, refl, sym, ap, ap₂, ◌∙◌, subst}
use mathlib.Core.Bool.{true, false}
use mathlib.Core.Logic.{◌≢◌}
use native.Mathlib.Nat.{mod-lt, zero-div}
use native.Mathlib.Omega.{arith}
use native.Mathlib.Numerals.{add-one}
use lib.Dec.{eqb}
use lib.Arith.{lt-one}
use lib.Pow.{shr_lt}
use lib.Bits.{bit_and, bit_xor, differ}
use lib.Count.{ones, ones_step, count_trailing_zeros, under}
use borrow.Author.Tests.{eq-eqb}
use Rattle.scope.specs.Numbers.{bit, sum}
use Rattle.theory.specs.Numbers.{sum_eq, sum_first}
use Rattle.machine.specs.Bits.{digit, mem, added, removed}
use Rattle.machine.proofs.Digits.{two_pos, digit_lt, digit_zero, digit_suc, digit_and, digit_or, digit_xor, digit_pow, digit_pow_other}

-- the empty set
pub mem_none : (j : ℕ) → mem 0 j ≡ false
unfolding mem digit
mem_none j = rw (zero-div (2 ^ j))

-- ---- adding and removing

pub added_same : (x i : ℕ) → mem (added x i) i ≡ true
unfolding mem added
added_same x i = eq-eqb _ _ (digit_or x (2 ^ i) i ∙ omega (arith, digit_pow i, digit_lt x i))

pub added_other : (x i j : ℕ) → i ≢ j → mem (added x i) j ≡ mem x j
unfolding mem added
added_other x i j ne =
    let m : max (digit x j) (digit (2 ^ i) j) ≡ digit x j = omega (arith, digit_pow_other i j ne) in
    ap (λ (y : ℕ). eqb y 1) (digit_or x (2 ^ i) j ∙ m)

differ_self : (x : ℕ) → differ x x ≡ 0
differ_self zero = refl
differ_self (suc x) = differ_self x

differ_zero : (x : ℕ) → differ x 0 ≡ x
differ_zero zero = refl
differ_zero (suc x) = refl

pub removed_same : (x i : ℕ) → mem (removed x i) i ≡ false
unfolding mem removed
removed_same x i =
    let m : min (digit x i) (digit (2 ^ i) i) ≡ digit x i = omega (arith, digit_pow i, digit_lt x i) in
    let e : digit (bit_xor x (bit_and x (2 ^ i))) i ≡ 0 = digit_xor _ _ i ∙ ap (differ (digit x i)) (digit_and _ _ i ∙ m) ∙ differ_self (digit x i) in
    ap (λ (y : ℕ). eqb y 1) e

pub removed_other : (x i j : ℕ) → i ≢ j → mem (removed x i) j ≡ mem x j
unfolding mem removed
removed_other x i j ne =
    let m : min (digit x j) (digit (2 ^ i) j) ≡ 0 = omega (arith, digit_pow_other i j ne) in
    ap (λ (y : ℕ). eqb y 1) (digit_xor _ _ j ∙ ap (differ (digit x j)) (digit_and _ _ j ∙ m) ∙ differ_zero (digit x j))

-- ---- a set by its lowest digit and its half

mem_zero : (x d : ℕ) → x % 2 ≡ d → mem x 0 ≡ eqb d 1
unfolding mem
mem_zero x d e = ap (λ (y : ℕ). eqb y 1) (digit_zero x ∙ e)

mem_suc : (x i : ℕ) → mem x (suc i) ≡ mem (x / 2) i
unfolding mem
mem_suc x i = ap (λ (y : ℕ). eqb y 1) (digit_suc x i)

half_lt : {x : ℕ} (k : ℕ) → x < 2 ^ suc k → x / 2 < 2 ^ k
half_lt {x} k h = shr_lt k 1 (subst (λ (y : ℕ). x < 2 ^ y) (sym (add-one k)) h)

-- ---- the count of ones is the number of members

lowest_bit : (x : ℕ) → bit (mem x 0) ≡ x % 2
lowest_bit x = go (x % 2) (mod-lt x two_pos) refl
  where
    go : (d : ℕ) → d < 2 → x % 2 ≡ d → bit (mem x 0) ≡ d
    go zero l e = rw (mem_zero x 0 e)
    go (suc zero) l e = rw (mem_zero x 1 e)
    go (suc (suc d)) l e = absurd (omega arith)

pub ones_members : (k x : ℕ) → x < 2 ^ k → ones x ≡ sum (λ i. bit (mem x i)) k
unfolding sum ones
ones_members zero x h = ap ones (lt-one h)
ones_members (suc k) x h =
    ones_step x
    ∙ ap₂ ◌+◌ (sym (lowest_bit x)) (ones_members k (x / 2) (half_lt k h) ∙ sum_eq _ _ k (λ i l. ap bit (sym (mem_suc x i))))
    ∙ sym (sum_first (λ i. bit (mem x i)) k)

-- ---- the count of trailing zeros is the lowest member

pub record Lowest (x i : ℕ) : Type 0 where
  pub member : mem x i ≡ true
  pub below : (j : ℕ) → j < i → mem x j ≡ false

lowest_odd : (x : ℕ) → x % 2 ≡ 1 → Lowest x 0
lowest_odd x e = record { member = mem_zero x 1 e; below = λ j l. absurd (omega arith) }

lowest_even : (x i : ℕ) → x % 2 ≡ 0 → Lowest (x / 2) i → Lowest x (suc i)
lowest_even x i e h = record { member = mem_suc x i ∙ h.member; below = below }
  where
    below : (j : ℕ) → j < suc i → mem x j ≡ false
    below zero l = mem_zero x 0 e
    below (suc j) l = mem_suc x j ∙ h.below j (omega arith)

pub trailing_lowest : (k x : ℕ) → x < 2 ^ k → 0 < x → (count_trailing_zeros k x < k) × Lowest x (count_trailing_zeros k x)
unfolding count_trailing_zeros
trailing_lowest zero x h p = absurd (omega arith)
trailing_lowest (suc k) x h p = go (x % 2) (mod-lt x two_pos) refl (trailing_lowest k (x / 2) (half_lt k h))
  where
    go : (d : ℕ) → d < 2 → x % 2 ≡ d → (0 < x / 2 → (count_trailing_zeros k (x / 2) < k) × Lowest (x / 2) (count_trailing_zeros k (x / 2))) →
        (under d (count_trailing_zeros k (x / 2)) < suc k) × Lowest x (under d (count_trailing_zeros k (x / 2)))
    go zero l e ih = let r = ih (omega arith) in (omega (arith, r.0), lowest_even x _ e r.1)
    go (suc zero) l e ih = (omega arith, lowest_odd x e)
    go (suc (suc d)) l e ih = absurd (omega arith)
