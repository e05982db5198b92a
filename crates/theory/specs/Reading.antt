-- Laws of a number's groups of seven bits: how many bytes they take, what they are worth, and which bytes they depend on
use Rattle.std.specs.Prelude.{◌≡◌, refl, true, ◌||◌, ◌≢◌, List, [], ◌∷◌, ◌++◌, ℕ, zero, suc, ◌+◌, ◌-◌, ◌*◌, ◌^◌, ◌≤◌, ◌<◌, leb, ltb, eqb, length, take}
use Rattle.std.proofs.Common.{subst, arith, ltb-true, leb-true, lt-ltb, le-ltb, le-leb, eq-eqb, ne_eqb}
use Rattle.std.proofs.Math.Option.{Option, none, some}
use Rattle.std.proofs.Math.Nat.{pow-succ'}
use Rattle.std.proofs.Math.Decide.{ℕ_discrete, dec_lt, dec_le}
use Rattle.scope.specs.Limits.{most_number}
use Rattle.scope.specs.Plan.{Groups, groups, lower, well_formed}
use Rattle.theory.specs.Numbers.{and_both}

-- ---- well formed

pub well_formed_lem : (r : Groups) → well_formed r ≡ true → (r.value ≤ most_number) × (r.size ≢ 1 → 0 < r.last)
unfolding well_formed
well_formed_lem r e =
    let p = and_both (leb r.value most_number) (eqb r.size 1 || ltb 0 r.last) e in
    (leb-true r.value most_number p.0, λ n. ltb-true 0 r.last (rw (ne_eqb r.size 1 n) at p).1)

pub is_well_formed : (r : Groups) → r.value ≤ most_number → (r.size ≢ 1 → 0 < r.last) → well_formed r ≡ true
unfolding well_formed
is_well_formed r h k =
    elim (ℕ_discrete r.size 1) [
      | yes e ↦ rw (le-leb r.value most_number h, eq-eqb r.size 1 e)
      | no n ↦ rw (le-leb r.value most_number h, ne_eqb r.size 1 n, lt-ltb 0 r.last (k n))
    ]

-- ---- one group, or one below others

abbrev pub alone : ℕ → Groups
alone b = record { value = b; size = 1; last = b }

abbrev pub over : ℕ → Groups → Groups
over g r = record { value = g + 128 * r.value; size = suc r.size; last = r.last }

pub groups_alone : (b : ℕ) (l : List ℕ) → b < 128 → groups (b ∷ l) ≡ some (alone b)
unfolding groups
groups_alone b l h = rw (lt-ltb b 128 h)

pub groups_over : (b : ℕ) (l : List ℕ) → 128 ≤ b → groups (b ∷ l) ≡ lower (b - 128) (groups l)
unfolding groups
groups_over b l h = rw (le-ltb b 128 h)

none_not_some : {r : Groups} → none ≡ some r → ⊥
none_not_some e = let z : ◌≡◌ {A = ℕ} 0 1 = cc in omega arith

-- what holds of a group alone, and of a group below others of which it holds, holds of the groups of all bytes
pub groups_all : (Q : List ℕ → Groups → Type 0) → ((b : ℕ) (l : List ℕ) → b < 128 → Q (b ∷ l) (alone b)) →
    ((b : ℕ) (l : List ℕ) (s : Groups) → 128 ≤ b → groups l ≡ some s → Q l s → Q (b ∷ l) (over (b - 128) s)) →
    (l : List ℕ) (r : Groups) → groups l ≡ some r → Q l r
unfolding groups
groups_all Q one more [] r e = absurd (none_not_some e)
groups_all Q one more (b ∷ l) r e =
    elim (dec_lt b 128) [
      | yes h ↦
          let q : some (alone b) ≡ some r = rw (lt-ltb b 128 h) at e in
          let z : alone b ≡ r = cc in
          subst (Q (b ∷ l)) z (one b l h)
      | no h ↦ go (omega arith) (groups l) refl (rw (le-ltb b 128 (omega arith)) at e) (groups_all Q one more l)
    ]
  where
    go : 128 ≤ b → (o : Option Groups) → groups l ≡ o → lower (b - 128) o ≡ some r →
        ((s : Groups) → groups l ≡ some s → Q l s) → Q (b ∷ l) r
    go h none f q ih = absurd (none_not_some q)
    go h (some s) f q ih = let z : over (b - 128) s ≡ r = cc in subst (Q (b ∷ l)) z (more b l s h f (ih s f))

-- ---- bytes

pub groups_size : (l : List ℕ) (r : Groups) → groups l ≡ some r → (1 ≤ r.size) × (r.size ≤ length l)
groups_size =
    groups_all (λ l r. (1 ≤ r.size) × (r.size ≤ length l))
    (λ b l h. (omega arith, omega arith))
    (λ b l s h f q. (omega arith, omega (arith, q.1)))

-- bytes after a number do not change it
pub groups_append : (m l : List ℕ) (r : Groups) → groups l ≡ some r → groups (l ++ m) ≡ some r
groups_append m =
    groups_all (λ l r. groups (l ++ m) ≡ some r)
    (λ b l h. groups_alone b (l ++ m) h)
    (λ b l s h f q. rw (groups_over b (l ++ m) h, q))

-- a number depends on its own bytes only
pub groups_take : (l : List ℕ) (r : Groups) → groups l ≡ some r → (k : ℕ) → r.size ≤ k → groups (take k l) ≡ some r
groups_take =
    groups_all (λ l r. (k : ℕ) → r.size ≤ k → groups (take k l) ≡ some r)
    (λ b l h k n. elim k as (λ j. 1 ≤ j → groups (take j (b ∷ l)) ≡ some (alone b)) [
      | zero ↦ λ m. absurd (omega arith)
      | suc j ↦ λ m. groups_alone b (take j l) h
    ] n)
    (λ b l s h f q k n. elim k as (λ j. suc s.size ≤ j → groups (take j (b ∷ l)) ≡ some (over (b - 128) s)) [
      | zero ↦ λ m. absurd (omega arith)
      | suc j ↦ λ m. rw (groups_over b (take j l) h, q j (omega arith))
    ] n)

-- ---- worth

-- where the last group is not 0, a number of more than k groups is worth 128 to the k at the least
pub groups_worth : (l : List ℕ) (r : Groups) → groups l ≡ some r → 0 < r.last → (k : ℕ) → k < r.size → 128 ^ k ≤ r.value
groups_worth =
    groups_all (λ l r. 0 < r.last → (k : ℕ) → k < r.size → 128 ^ k ≤ r.value)
    (λ b l h p k n. let e : k ≡ 0 = omega arith in rw e p)
    (λ b l s h f q p k n. elim k as (λ j. j < suc s.size → 128 ^ j ≤ (b - 128) + 128 * s.value) [
      | zero ↦ λ m. omega (arith, q p 0 (omega (arith, (groups_size l s f).0)))
      | suc j ↦ λ m. omega (arith, q p j (omega arith), pow-succ' 128 j)
    ] n)

-- a well-formed number has at most five bytes: the sixth group would be worth 128 to the 5, more than the greatest number
pub five_bytes : (l : List ℕ) (r : Groups) → groups l ≡ some r → well_formed r ≡ true → r.size ≤ 5
five_bytes l r e w =
    let v = well_formed_lem r w in
    elim (dec_le r.size 5) [ yes h ↦ h | no h ↦ absurd (omega (arith, v.0, groups_worth l r e (v.1 (omega arith)) 5 (omega arith))) ]

-- a well-formed number below 128 has one byte
pub one_byte : (l : List ℕ) (r : Groups) → groups l ≡ some r → well_formed r ≡ true → r.value < 128 → r.size ≡ 1
one_byte l r e w b =
    elim (ℕ_discrete r.size 1) [
      | yes h ↦ h
      | no h ↦ absurd (omega (arith, groups_worth l r e ((well_formed_lem r w).1 h) 1 (omega (arith, h, (groups_size l r e).0))))
    ]
