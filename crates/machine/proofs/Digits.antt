-- The digits of `bit_and`, `bit_or`, `bit_xor` and of a power of two
use Prim.Native.Nat.{ℕ, zero, suc, ◌+◌, ◌-◌, ◌*◌, ◌/◌, ◌%◌, ◌^◌, ◌<◌, min, max}
use mathlib.Core.Path.{◌≡◌, sym, ap, ◌∙◌}
use mathlib.Core.Logic.{◌≢◌}
use native.Mathlib.Nat.{mod-lt, zero-lt-suc, div-one, div-div-eq-div-mul, pow-suc, mul_comm, div_self, div-eq_of_lt}
use native.Mathlib.Nat.{mul-div_cancel, mul-mod_left, one-mul, mod-eq_of_lt}
use native.Mathlib.Decide.{dec_lt}
use native.Mathlib.Omega.{arith}
use lib.Arith.{digits_mod}
use lib.Pow.{pow_pos, pow-lt, pow-add}
use lib.Bits.{bit_and, bit_or, bit_xor, differ, and_step, or_step, xor_step, and_shr, or_shr, xor_shr}
use Rattle.std.specs.Int.Bits.{and_self, xor_add_and}
use Rattle.std.proofs.lemmas.Nat.{and-not, and_assoc, and_comm}
use Rattle.scope.specs.Limits.{most_tasks}
use Rattle.machine.specs.Bits.{digit}

pub two_pos : 0 < 2
two_pos = zero-lt-suc 1

pub digit_lt : (x i : ℕ) → digit x i < 2
unfolding digit
digit_lt x i = mod-lt (x / 2 ^ i) two_pos

-- the lowest digit, and the others as digits of the half
pub digit_zero : (x : ℕ) → digit x 0 ≡ x % 2
unfolding digit
digit_zero x = ap (λ (y : ℕ). y % 2) (div-one x)

pub digit_suc : (x i : ℕ) → digit x (suc i) ≡ digit (x / 2) i
unfolding digit
digit_suc x i = ap (λ (y : ℕ). x / y % 2) (pow-suc 2 i ∙ mul_comm (2 ^ i) 2) ∙ ap (λ (y : ℕ). y % 2) (sym (div-div-eq-div-mul x 2 (2 ^ i)))

-- ---- each digit of the machine's operations comes of the operands' digits at the same place

pub digit_and : (a b i : ℕ) → digit (bit_and a b) i ≡ min (digit a i) (digit b i)
unfolding digit
digit_and a b i =
    ap (λ (y : ℕ). y % 2) (and_shr a b i ∙ and_step (a / 2 ^ i) (b / 2 ^ i))
    ∙ digits_mod _ (omega (arith, mod-lt (a / 2 ^ i) two_pos))

pub digit_or : (a b i : ℕ) → digit (bit_or a b) i ≡ max (digit a i) (digit b i)
unfolding digit
digit_or a b i =
    ap (λ (y : ℕ). y % 2) (or_shr a b i ∙ or_step (a / 2 ^ i) (b / 2 ^ i))
    ∙ digits_mod _ (omega (arith, mod-lt (a / 2 ^ i) two_pos, mod-lt (b / 2 ^ i) two_pos))

differ_lt : (x y : ℕ) → x < 2 → y < 2 → differ x y < 2
differ_lt zero y p q = q
differ_lt (suc x) zero p q = p
differ_lt (suc x) (suc y) p q = differ_lt x y (omega arith) (omega arith)

pub digit_xor : (a b i : ℕ) → digit (bit_xor a b) i ≡ differ (digit a i) (digit b i)
unfolding digit
digit_xor a b i =
    ap (λ (y : ℕ). y % 2) (xor_shr a b i ∙ xor_step (a / 2 ^ i) (b / 2 ^ i))
    ∙ digits_mod _ (differ_lt _ _ (mod-lt (a / 2 ^ i) two_pos) (mod-lt (b / 2 ^ i) two_pos))

-- ---- a power of two has one digit

pub digit_pow : (i : ℕ) → digit (2 ^ i) i ≡ 1
unfolding digit
digit_pow i = ap (λ (y : ℕ). y % 2) (div_self (pow_pos i))

digit_pow_below : (i j : ℕ) → i < j → digit (2 ^ i) j ≡ 0
unfolding digit
digit_pow_below i j l = ap (λ (y : ℕ). y % 2) (div-eq_of_lt (pow-lt l))

digit_pow_above : (i j : ℕ) → j < i → digit (2 ^ i) j ≡ 0
unfolding digit
digit_pow_above i j l =
    let d = i - suc j in
    let e : i ≡ suc d + j = omega arith in
    ap (λ (y : ℕ). 2 ^ y / 2 ^ j % 2) e
    ∙ ap (λ (y : ℕ). y / 2 ^ j % 2) (pow-add 2 (suc d) j)
    ∙ ap (λ (y : ℕ). y % 2) (mul-div_cancel (2 ^ suc d) (pow_pos j))
    ∙ ap (λ (y : ℕ). y % 2) (pow-suc 2 d) ∙ mul-mod_left (2 ^ d) 2

pub digit_pow_other : (i j : ℕ) → i ≢ j → digit (2 ^ i) j ≡ 0
digit_pow_other i j ne = elim (dec_lt i j) [ yes l ↦ digit_pow_below i j l | no n ↦ digit_pow_above i j (omega arith) ]

-- the machine's `1 << i` at 32 bits
pub one_shl : (i : ℕ) → i < most_tasks → (1 * 2 ^ i) % 2 ^ 32 ≡ 2 ^ i
one_shl i l = ap (λ (y : ℕ). y % 2 ^ 32) (one-mul (2 ^ i)) ∙ mod-eq_of_lt (pow-lt l)

-- the machine's `x & !(1 << i)` at 32 bits
pub clear_shl : (x i : ℕ) → x < 2 ^ 32 → i < most_tasks → bit_and x (2 ^ 32 - 1 - (1 * 2 ^ i) % 2 ^ 32) ≡ bit_xor x (bit_and x (2 ^ i))
clear_shl x i f l =
    let m = 2 ^ i in
    let without : bit_and (2 ^ 32 - 1 - m) x + bit_and m x ≡ x = and-not 32 m x (pow-lt l) f in
    let apart : bit_xor x (bit_and x m) + bit_and x (bit_and x m) * 2 ≡ x + bit_and x m = xor_add_and x (bit_and x m) in
    let twice : bit_and x (bit_and x m) ≡ bit_and x m = sym (and_assoc m x x) ∙ ap (λ (y : ℕ). bit_and y m) (and_self x) in
    let swapped : bit_and x (2 ^ 32 - 1 - m) ≡ bit_and (2 ^ 32 - 1 - m) x = and_comm x (2 ^ 32 - 1 - m) in
    ap (λ (y : ℕ). bit_and x (2 ^ 32 - 1 - y)) (one_shl i l) ∙ omega (arith, without, apart, twice, swapped, and_comm x m)
