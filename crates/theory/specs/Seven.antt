-- A number of a plan file read at an offset, and written: the two are inverse, and reading looks at five bytes at most
use Rattle.std.specs.Prelude.{◌≡◌, refl, Bool, true, false, cond, ◌≢◌, List, ◌++◌, ℕ, zero, suc, ◌+◌, ◌-◌, ◌*◌, ◌/◌, ◌%◌, ◌≤◌, ◌<◌, leb, length, get_or, take, drop}
use Rattle.std.proofs.Common.{sym, ap, ◌∙◌, arith, le_trans, length-append, length-drop, length-take, take-append-drop, take_all, take-add, drop_at, drop-drop, get_or-drop, length-take-le}
use Rattle.std.proofs.Math.Option.{Option, none, some}
use Rattle.std.proofs.Math.Decide.{dec_lt, dec_le}
use Rattle.std.proofs.lemmas.Bool.{lt-leb}
use Rattle.scope.specs.Numbers.{greatest}
use Rattle.scope.specs.Limits.{most_number}
use Rattle.scope.specs.Plan.{Groups, groups, well_formed, Read.read, Read.bad, read_groups, read_number, number_bytes}
use Rattle.theory.specs.Numbers.{greatest_ge}
use Rattle.theory.specs.Writing.{number_one, number_more}
use Rattle.theory.specs.Reading.{well_formed_lem, is_well_formed, groups_alone, groups_over, groups_all, groups_size, groups_append, groups_take}
use Rattle.theory.specs.Reading.{groups_worth, five_bytes, one_byte}

-- every number of a list is at most m
abbrev pub UpTo : ℕ → List ℕ → Type 0
UpTo m l = (i : ℕ) → i < length l → get_or l i 0 ≤ m

pub up_to_greatest : (m : ℕ) (l : List ℕ) → greatest (λ i. get_or l i 0) (length l) ≤ m → UpTo m l
up_to_greatest m l h i k = le_trans (greatest_ge (λ j. get_or l j 0) (length l) i k) h

pub up_to_drop : (m k : ℕ) (l : List ℕ) → UpTo m l → UpTo m (drop k l)
up_to_drop m k l u i h = rw (get_or-drop k l i 0) (u (k + i) (omega (arith, length-drop k l)))

-- ---- groups of a number that was written: worth the number, of as many bytes, and with a last group that is 0 for 0 alone

pub record Written (n : ℕ) (rest : List ℕ) : Type 0 where
  pub last : ℕ
  pub is : groups (number_bytes n ++ rest) ≡ some (record { value = n; size = length (number_bytes n); last = last })
  pub pos : 0 < n → 0 < last

one_written : (n : ℕ) (rest : List ℕ) → n < 128 → Written n rest
one_written n rest h = record { last = n; is = rw (number_one n h) (groups_alone n rest h); pos = λ p. p }

more_written : (n : ℕ) (rest : List ℕ) → 128 ≤ n → Written (n / 128) rest → Written n rest
more_written n rest h w =
    let e : 128 + n % 128 - 128 + 128 * (n / 128) ≡ n = omega arith in
    record {
      last = w.last;
      is = rw (number_more n h, groups_over (128 + n % 128) (number_bytes (n / 128) ++ rest) (omega arith), w.is, e);
      pos = λ p. w.pos (omega arith);
    }

pub written_groups : (n : ℕ) (rest : List ℕ) → Written n rest
written_groups n rest = go n n (omega arith)
  where
    go : (f m : ℕ) → m ≤ f → Written m rest
    go zero m h = one_written m rest (omega arith)
    go (suc f) m h =
        elim (dec_lt m 128) [ yes l ↦ one_written m rest l | no l ↦ more_written m rest (omega arith) (go f (m / 128) (omega arith)) ]

-- a number that was written takes the fewest bytes
pub written_formed : (n : ℕ) (rest : List ℕ) → n ≤ most_number →
    well_formed (record { value = n; size = length (number_bytes n); last = (written_groups n rest).last }) ≡ true
written_formed n rest h =
    is_well_formed (record { value = n; size = length (number_bytes n); last = (written_groups n rest).last }) h (λ s.
    elim (dec_lt n 128) [
      | yes l ↦ absurd (s (ap length (number_one n l)))
      | no l ↦ (written_groups n rest).pos (omega arith)
    ])

-- ---- and conversely: bytes whose groups are well formed are those that are written

pub groups_bytes : (l : List ℕ) (r : Groups) → groups l ≡ some r → UpTo 255 l → (r.size ≢ 1 → 0 < r.last) →
    take r.size l ≡ number_bytes r.value
groups_bytes =
    groups_all (λ l r. UpTo 255 l → (r.size ≢ 1 → 0 < r.last) → take r.size l ≡ number_bytes r.value)
    (λ b l h u p. sym (number_one b h))
    (λ b l s h f q u p.
    let pos : 0 < s.last = p (λ e. omega (arith, (groups_size l s f).0, e)) in
    let top : b ≤ 255 = u 0 (omega arith) in
    let v : ℕ = b - 128 + 128 * s.value in
    let w : 1 ≤ s.value = groups_worth l s f pos 0 (groups_size l s f).0 in
    let e₀ : 128 + v % 128 ≡ b = omega arith in
    let e₁ : v / 128 ≡ s.value = omega arith in
    rw (number_more v (omega arith), e₀, e₁, q (λ i k. u (suc i) (omega arith)) (λ e. pos)))

-- ---- at an offset

pub record NumberAt (bytes : List ℕ) (at n next : ℕ) : Type 0 where
  pub found : Groups
  pub is : groups (drop at bytes) ≡ some found
  pub formed : well_formed found ≡ true
  pub value : found.value ≡ n
  pub end : next ≡ at + found.size

pub bad_not_read : {A : Type 0} {a : A} {n p : ℕ} → bad p ≡ read a n → ⊥
bad_not_read e = let z : ◌≡◌ {A = ℕ} 0 1 = cc in omega arith

pub number_at : (bytes : List ℕ) (at n next : ℕ) → read_number bytes at ≡ read n next → NumberAt bytes at n next
unfolding read_number
number_at bytes at n next e = test (leb (length bytes) at) e
  where
    formed : (r : Groups) (w : Bool) → groups (drop at bytes) ≡ some r → well_formed r ≡ w →
        cond w (read r.value (at + r.size)) (bad at) ≡ read n next → NumberAt bytes at n next
    formed r true f w q = record { found = r; is = f; formed = w; value = cc; end = cc }
    formed r false f w q = absurd (bad_not_read q)

    found : (o : Option Groups) → groups (drop at bytes) ≡ o → read_groups at o ≡ read n next → NumberAt bytes at n next
    found none f q = absurd (bad_not_read q)
    found (some r) f q = formed r (well_formed r) f refl q

    test : (t : Bool) → cond t (bad (length bytes)) (read_groups at (groups (drop at bytes))) ≡ read n next → NumberAt bytes at n next
    test true q = absurd (bad_not_read q)
    test false q = found (groups (drop at bytes)) refl q

module _ (bytes : List ℕ) (at n next : ℕ) (e : read_number bytes at ≡ read n next) where
  abbrev here : NumberAt bytes at n next
  here = number_at bytes at n next e

  pub number_most : n ≤ most_number
  number_most = rw (← here.value) (well_formed_lem here.found here.formed).0

  -- a number takes one to five bytes, all within the file
  pub number_next : (at < next) × (next ≤ at + 5) × (next ≤ length bytes)
  number_next =
      let s = groups_size (drop at bytes) here.found here.is in
      let f = five_bytes (drop at bytes) here.found here.is here.formed in
      let z = here.end in
      (omega (arith, s.0), omega arith, omega (arith, s.0, s.1, length-drop at bytes))

  -- and only one if it is below 128
  pub number_small : n < 128 → next ≡ at + 1
  number_small h =
      let v = here.value in
      let z = here.end in
      omega (arith, one_byte (drop at bytes) here.found here.is here.formed (omega arith))

  -- the bytes that were read are those that are written
  pub number_bytes_lem : UpTo 255 bytes → take (next - at) (drop at bytes) ≡ number_bytes n
  number_bytes_lem u =
      let z : next - at ≡ here.found.size = let q = here.end in omega arith in
      ap (λ (j : ℕ). take j (drop at bytes)) z
      ∙ groups_bytes (drop at bytes) here.found here.is (up_to_drop 255 at bytes u) (well_formed_lem here.found here.formed).1
      ∙ ap number_bytes here.value

  -- so the rest of the file from at on is the number written, and then the rest from next on
  pub number_ahead : UpTo 255 bytes → drop at bytes ≡ number_bytes n ++ drop next bytes
  number_ahead u =
      let z : at + (next - at) ≡ next = omega (arith, number_next) in
      sym (take-append-drop (next - at) (drop at bytes)) ∙ rw (number_bytes_lem u, drop-drop (next - at) at bytes, z)

-- a number that stands written at an offset is read there
pub written_number : (bytes rest : List ℕ) (at n : ℕ) → n ≤ most_number → drop at bytes ≡ number_bytes n ++ rest →
    read_number bytes at ≡ read n (at + length (number_bytes n))
unfolding read_number
written_number bytes rest at n h e =
    let w = written_groups n rest in
    let s = groups_size _ _ w.is in
    let l : at < length bytes = omega (arith, s.0, length-drop at bytes, ap length e, length-append (number_bytes n) rest) in
    rw (lt-leb (length bytes) at l, e, w.is, written_formed n rest h)

-- ---- the first k bytes

pub drop_take : (at k : ℕ) (l : List ℕ) → at ≤ k → at ≤ length l → drop at (take k l) ≡ take (k - at) (drop at l)
drop_take at k l h m =
    let z : at + (k - at) ≡ k = omega arith in
    ap (drop at) (ap (λ (j : ℕ). take j l) (sym z) ∙ take-add at (k - at) l)
    ∙ drop_at (take at l) (take (k - at) (drop at l)) at (length-take-le at l m)

-- a number that does not end within the first five bytes is bad with or without the others
first_groups : (at k : ℕ) (l : List ℕ) → 5 ≤ k → read_groups at (groups (take k l)) ≡ read_groups at (groups l)
first_groups at k l h = go (groups (take k l)) refl (groups l) refl
  where
    formed : (r : Groups) (w : Bool) → groups (take k l) ≡ none → groups l ≡ some r → well_formed r ≡ w →
        bad at ≡ cond w (read r.value (at + r.size)) (bad at)
    formed r true f g w = let z : none ≡ some r = sym f ∙ groups_take l r g k (omega (arith, five_bytes l r g w)) in cc
    formed r false f g w = refl

    go : (o : Option Groups) → groups (take k l) ≡ o → (q : Option Groups) → groups l ≡ q → read_groups at o ≡ read_groups at q
    go none f none g = refl
    go none f (some r) g = formed r (well_formed r) f g refl
    go (some r) f q g =
        let z : groups l ≡ some r = ap groups (sym (take-append-drop k l)) ∙ groups_append (drop k l) (take k l) r f in
        ap (read_groups at) (sym z ∙ g)

-- reading looks at five bytes at most
pub first_number : (bytes : List ℕ) (at k : ℕ) → at + 5 ≤ k → read_number (take k bytes) at ≡ read_number bytes at
unfolding read_number
first_number bytes at k h =
    elim (dec_le (length bytes) k) [
      | yes l ↦ rw (take_all k bytes l)
      | no l ↦
          let z : at < length (take k bytes) = omega (arith, length-take k bytes) in
          rw (lt-leb (length (take k bytes)) at z, lt-leb (length bytes) at (omega arith), drop_take at k bytes (omega arith) (omega arith))
          (first_groups at (k - at) (drop at bytes) (omega arith))
    ]
