-- One byte more of a number, over the variables of the loop
use mathlib.Core.Path.{◌≡◌, refl, sym, ap, ap₂, ◌∙◌}
use mathlib.Core.Bool.{true}
use mathlib.Core.Logic.{◌≢◌, ◌⊎◌, ⊎_elim, inl, inr}
use mathlib.Core.Option.{Option, none, some}
use mathlib.Core.List.{List, ◌∷◌}
use Prim.Native.Nat.{ℕ, suc, ◌+◌, ◌-◌, ◌*◌, ◌^◌, ◌≤◌, ◌<◌}
use native.Mathlib.Omega.{arith}
use native.Mathlib.Nat.{mul-le-mul_right, pow-le-pow_right}
use lib.ListN.{length, get_or, drop, drop_of_length-le}
use lib.Pow.{pow-add}
use lib.Seq.{drop-cons}
use borrow.Author.Tests.{le-leb, lt-leb}
use Rattle.scope.specs.Limits.{most_number}
use Rattle.scope.specs.Plan.{Groups, lower, groups, well_formed, Read.read, Read.bad, read_groups, read_number}
use Rattle.theory.specs.Numbers.{bool_cases}
use Rattle.theory.specs.Reading.{well_formed_lem, is_well_formed, groups_alone, groups_over, groups_size, five_bytes}

-- ---- how the groups of a number are answered

number_ill_formed : (at : ℕ) (r : Groups) → (well_formed r ≡ true → ⊥) → bad at ≡ read_groups at (some r)
number_ill_formed at r n = elim (bool_cases (well_formed r)) [ inl w ↦ absurd (n w) | inr w ↦ rw w ]

module _ (at value size last : ℕ) where
  abbrev these : Groups
  these = record { value = value; size = size; last = last }

  pub too_large : most_number < value → bad at ≡ read_groups at (some these)
  too_large h = number_ill_formed at these (λ w. omega (arith, (well_formed_lem these w).0))

  pub not_fewest : size ≢ 1 → last ≡ 0 → bad at ≡ read_groups at (some these)
  not_fewest h z = number_ill_formed at these (λ w. omega (arith, (well_formed_lem these w).1 h))

  pub number_formed : value ≤ most_number → (size ≡ 1) ⊎ (0 < last) → read value (at + size) ≡ read_groups at (some these)
  number_formed h few = let w = is_well_formed these h (λ n. ⊎_elim (λ e. absurd (n e)) (λ l. l) few) in rw w

pub number_missing : (bytes : List ℕ) (at : ℕ) → length bytes ≤ at → bad (length bytes) ≡ read_number bytes at
unfolding read_number
number_missing bytes at h = rw (le-leb _ _ h)

number_starts : (bytes : List ℕ) (at : ℕ) → at < length bytes → read_number bytes at ≡ read_groups at (groups (drop at bytes))
unfolding read_number
number_starts bytes at h = rw (lt-leb _ _ h)

-- ---- groups after n others that are worth a

abbrev pub after : ℕ → ℕ → Option Groups → Option Groups
after a n none = none
after a n (some r) = some (record { value = a + 128 ^ n * r.value; size = n + r.size; last = r.last })

pub after_none : (o : Option Groups) → after 0 0 o ≡ o
after_none none = refl
after_none (some r) =
    let v : 0 + 1 * r.value ≡ r.value = omega arith in
    let s : 0 + r.size ≡ r.size = omega arith in
    ap₂ (λ (x y : ℕ). some (record { value = x; size = y; last = r.last })) v s

-- one group more among those before
pub after_lower : (a n g : ℕ) (o : Option Groups) → after a n (lower g o) ≡ after (a + g * 128 ^ n) (n + 1) o
after_lower a n g none = refl
after_lower a n g (some r) =
    let p : 128 ^ (n + 1) ≡ 128 ^ n * 128 = pow-add 128 n 1 in
    let v : a + 128 ^ n * (g + 128 * r.value) ≡ a + g * 128 ^ n + 128 ^ (n + 1) * r.value = rw p (omega arith) in
    let s : n + suc r.size ≡ n + 1 + r.size = omega arith in
    ap₂ (λ (x y : ℕ). some (record { value = x; size = y; last = r.last })) v s

-- what comes after five groups is never a number's end
after_five : (at a n : ℕ) (bytes more : List ℕ) → 5 ≤ n → groups bytes ≡ after a n (groups more) → bad at ≡ read_groups at (groups bytes)
after_five at a n bytes more h = go (groups more) refl
  where
    go : (o : Option Groups) → groups more ≡ o → groups bytes ≡ after a n o → bad at ≡ read_groups at (groups bytes)
    go none u e = rw e
    go (some r) u e = rw e (number_ill_formed at _ (λ w. omega (arith, five_bytes bytes _ e w, (groups_size more r u).0)))

-- ---- the loop over the bytes of a number

-- five groups weigh 128 ^ 5 at most, and one group more stays below its weight
pub heavier : (weight size : ℕ) → size < 5 → weight ≡ 128 ^ size → weight * 128 ≤ 34359738368
heavier weight size few weighs =
    let four : size ≤ 4 = omega arith in
    let most : 128 ^ size ≤ 128 ^ 4 = pow-le-pow_right {n = 128} (omega arith) four in
    omega arith

pub next_weight : (weight size : ℕ) → weight ≡ 128 ^ size → weight * 128 ≡ 128 ^ (size + 1)
next_weight weight size e = ap (λ (w : ℕ). w * 128) e ∙ sym (pow-add 128 size 1)

pub grown : (value weight g : ℕ) → value < weight → g ≤ 127 → value + g * weight < weight * 128
grown value weight g h l =
    let worth : g * weight ≤ 127 * weight = mul-le-mul_right weight l in
    omega arith

-- after `size` groups that are worth `value`
module _ (bytes : List ℕ) (at value weight size : ℕ) (starts : at < length bytes) (weighs : weight ≡ 128 ^ size)
    (so_far : groups (drop at bytes) ≡ after value size (groups (drop (at + size) bytes))) where
  pub unfinished : length bytes ≤ at + size → bad at ≡ read_number bytes at
  unfolding groups
  unfinished h =
      let none_left : groups (drop (at + size) bytes) ≡ none = rw (drop_of_length-le bytes h) in
      sym (number_starts bytes at starts ∙ ap (read_groups at) (so_far ∙ ap (after value size) none_left))

  module _ (here : at + size < length bytes) (byte : ℕ) (is : byte ≡ get_or bytes (at + size) 0) where
    split : drop (at + size) bytes ≡ byte ∷ drop (suc (at + size)) bytes
    split = rw is (drop-cons bytes (at + size) 0 here)

    pub ends : byte < 128 → read_groups at (some (record { value = value + byte * weight; size = size + 1; last = byte })) ≡ read_number bytes at
    ends l =
        let e : value + 128 ^ size * byte ≡ value + byte * weight = rw weighs (omega arith) in
        sym
        (number_starts bytes at starts
        ∙ ap (read_groups at) (so_far ∙ ap (after value size) (ap groups split ∙ groups_alone byte _ l))
        ∙ ap (λ (v : ℕ). read_groups at (some (record { value = v; size = size + 1; last = byte }))) e)

    pub goes_on : 128 ≤ byte → groups (drop at bytes) ≡ after (value + (byte - 128) * weight) (size + 1) (groups (drop (at + (size + 1)) bytes))
    goes_on l =
        let e : suc (at + size) ≡ at + (size + 1) = omega arith in
        so_far
        ∙ ap (after value size) (ap groups split ∙ groups_over byte _ l)
        ∙ after_lower value size (byte - 128) (groups (drop (suc (at + size)) bytes))
        ∙ ap₂ (λ (w : ℕ) (p : ℕ). after (value + (byte - 128) * w) (size + 1) (groups (drop p bytes))) (sym weighs) e

  pub too_long : 5 ≤ size → bad at ≡ read_number bytes at
  too_long h = after_five at value size (drop at bytes) (drop (at + size) bytes) h so_far ∙ sym (number_starts bytes at starts)

-- what a number's groups, and the loop over its bytes, ask for
pub ruleset judged = (too_large, not_fewest, number_formed)

pub ruleset by_groups = (number_missing, heavier, next_weight, grown, unfinished, ends, goes_on, after_none, too_long)
