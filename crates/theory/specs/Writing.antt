-- Laws of the bytes that are written: decimals and seven-bit numbers, one digit or one group at a time, and how many there are at most
use Rattle.std.specs.Prelude.{◌≡◌, refl, List, [], ◌∷◌, ◌++◌, ℕ, zero, suc, ◌+◌, ◌/◌, ◌%◌, ◌^◌, ◌≤◌, ◌<◌, length}
use Rattle.std.proofs.Common.{ap, ◌∙◌, append_assoc, append-nil, pow-suc, add-one, arith, lt-ltb, le-ltb, length-append}
use Rattle.std.proofs.Math.Decide.{dec_lt}
use Rattle.scope.specs.Line.{digit, decimal_within, decimal}
use Rattle.scope.specs.Plan.{number_bytes_within, number_bytes, numbers_bytes}

-- ---- decimals, the last digit last

-- steps beyond n change nothing
pub decimal_within_lem : (f g n : ℕ) → n ≤ f → n ≤ g → decimal_within f n ≡ decimal_within g n
unfolding decimal_within
decimal_within_lem zero zero n hf hg = refl
decimal_within_lem zero (suc g) n hf hg = rw (lt-ltb n 10 (omega arith))
decimal_within_lem (suc f) zero n hf hg = rw (lt-ltb n 10 (omega arith))
decimal_within_lem (suc f) (suc g) n hf hg =
    elim (dec_lt n 10) [
      | yes l ↦ rw (lt-ltb n 10 l)
      | no l ↦ rw (le-ltb n 10 (omega arith)) (ap (λ (d : List ℕ). d ++ (digit (n % 10) ∷ [])) (decimal_within_lem f g (n / 10) (omega arith) (omega arith)))
    ]

pub decimal_one : (n : ℕ) → n < 10 → decimal n ≡ digit n ∷ []
unfolding decimal decimal_within
decimal_one zero l = refl
decimal_one (suc n) l = rw (lt-ltb (suc n) 10 l)

pub decimal_more : (n : ℕ) → 10 ≤ n → decimal n ≡ decimal (n / 10) ++ (digit (n % 10) ∷ [])
unfolding decimal decimal_within
decimal_more zero l = absurd (omega arith)
decimal_more (suc n) l =
    rw (le-ltb (suc n) 10 l)
    (ap (λ (d : List ℕ). d ++ (digit (suc n % 10) ∷ [])) (decimal_within_lem n (suc n / 10) (suc n / 10) (omega arith) (omega arith)))

pub decimal_longer : (n : ℕ) → 10 ≤ n → length (decimal n) ≡ length (decimal (n / 10)) + 1
decimal_longer n l = ap length (decimal_more n l) ∙ length-append (decimal (n / 10)) (digit (n % 10) ∷ [])

-- f + 1 digits are enough below 10 ^ (f + 1)
pub decimal_short : (f n : ℕ) → n < 10 ^ suc f → length (decimal n) ≤ suc f
decimal_short zero n h = rw (decimal_one n (omega (arith, h))) (omega arith)
decimal_short (suc f) n h =
    elim (dec_lt n 10) [
      | yes l ↦ rw (decimal_one n l) (omega arith)
      | no l ↦ omega (arith, decimal_longer n (omega arith), decimal_short f (n / 10) (omega (arith, pow-suc 10 (suc f))))
    ]

-- ---- seven-bit numbers, low group first

-- steps beyond n change nothing
pub number_within : (f g n : ℕ) → n ≤ f → n ≤ g → number_bytes_within f n ≡ number_bytes_within g n
unfolding number_bytes_within
number_within zero zero n hf hg = refl
number_within zero (suc g) n hf hg = rw (lt-ltb n 128 (omega arith))
number_within (suc f) zero n hf hg = rw (lt-ltb n 128 (omega arith))
number_within (suc f) (suc g) n hf hg =
    elim (dec_lt n 128) [
      | yes l ↦ rw (lt-ltb n 128 l)
      | no l ↦ rw (le-ltb n 128 (omega arith)) (ap (λ (d : List ℕ). (128 + n % 128) ∷ d) (number_within f g (n / 128) (omega arith) (omega arith)))
    ]

pub number_one : (n : ℕ) → n < 128 → number_bytes n ≡ n ∷ []
unfolding number_bytes number_bytes_within
number_one zero l = refl
number_one (suc n) l = rw (lt-ltb (suc n) 128 l)

pub number_more : (n : ℕ) → 128 ≤ n → number_bytes n ≡ (128 + n % 128) ∷ number_bytes (n / 128)
unfolding number_bytes number_bytes_within
number_more zero l = absurd (omega arith)
number_more (suc n) l =
    rw (le-ltb (suc n) 128 l)
    (ap (λ (d : List ℕ). (128 + suc n % 128) ∷ d) (number_within n (suc n / 128) (suc n / 128) (omega arith) (omega arith)))

pub number_longer : (n : ℕ) → 128 ≤ n → length (number_bytes n) ≡ length (number_bytes (n / 128)) + 1
number_longer n l = rw (number_more n l, add-one)

-- f + 1 groups are enough below 128 ^ (f + 1)
pub number_short : (f n : ℕ) → n < 128 ^ suc f → length (number_bytes n) ≤ suc f
number_short zero n h = rw (number_one n (omega (arith, h))) (omega arith)
number_short (suc f) n h =
    elim (dec_lt n 128) [
      | yes l ↦ rw (number_one n l) (omega arith)
      | no l ↦ omega (arith, number_longer n (omega arith), number_short f (n / 128) (omega (arith, pow-suc 128 (suc f))))
    ]

-- ---- several numbers, one after the other

pub numbers_append : (l m : List ℕ) → numbers_bytes (l ++ m) ≡ numbers_bytes l ++ numbers_bytes m
unfolding numbers_bytes
numbers_append [] m = refl
numbers_append (n ∷ l) m = rw (numbers_append l m, append_assoc)

pub numbers_more : (l : List ℕ) (n : ℕ) → numbers_bytes (l ++ (n ∷ [])) ≡ numbers_bytes l ++ number_bytes n
unfolding numbers_bytes
numbers_more l n = rw (numbers_append l (n ∷ []), append-nil)
