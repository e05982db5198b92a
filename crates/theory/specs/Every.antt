-- What holds of every element of a list, and of every two of them in their order
use Rattle.std.specs.Prelude.{◌≡◌, refl, Bool, cond, List, [], ◌∷◌, ◌++◌, map, length, get_or}
use Rattle.std.proofs.Math.Bool.{true, false}
use Prim.Native.Nat.{ℕ, zero, suc, ◌<◌}
use Rattle.std.proofs.Common.{arith}
use Rattle.scope.specs.Numbers.{keep}
use Rattle.theory.specs.Lists.{keep_rising}

abbrev pub Every : {A : Type 0} → (A → Type 0) → List A → Type 0
Every P [] = Unit {0}
Every P (a ∷ l) = P a × Every P l

abbrev pub EveryTwo : {A : Type 0} → (A → A → Type 0) → List A → Type 0
EveryTwo R [] = Unit {0}
EveryTwo R (a ∷ l) = Every (R a) l × EveryTwo R l

module _ {A : Type 0} where
  pub every_at : (P : A → Type 0) (l : List A) → Every P l → (d : A) (i : ℕ) → i < length l → P (get_or l i d)
  every_at P [] h d i k = absurd (omega arith)
  every_at P (a ∷ l) h d zero k = h.0
  every_at P (a ∷ l) h d (suc i) k = every_at P l h.1 d i (omega arith)

  pub at_every : (P : A → Type 0) (l : List A) (d : A) → ((i : ℕ) → i < length l → P (get_or l i d)) → Every P l
  at_every P [] d h = tt
  at_every P (a ∷ l) d h = (h 0 (omega arith), at_every P l d (λ i k. h (suc i) (omega arith)))

  pub every_imp : (P Q : A → Type 0) → ((a : A) → P a → Q a) → (l : List A) → Every P l → Every Q l
  every_imp P Q f [] h = tt
  every_imp P Q f (a ∷ l) h = (f a h.0, every_imp P Q f l h.1)

  pub every_append : (P : A → Type 0) (l m : List A) → Every P l → Every P m → Every P (l ++ m)
  every_append P [] m h k = k
  every_append P (a ∷ l) m h k = (h.0, every_append P l m h.1 k)

  pub every_behind : (P : A → Type 0) (l m : List A) → Every P (l ++ m) → Every P m
  every_behind P [] m h = h
  every_behind P (a ∷ l) m h = every_behind P l m h.1

  pub every_none : (P : A → Type 0) → ((a : A) → P a → ⊥) → (l : List A) → Every P l → l ≡ []
  every_none P f [] h = refl
  every_none P f (a ∷ l) h = absurd (f a h.0)

  pub every_both : (P Q : A → Type 0) (l : List A) → Every P l → Every Q l → Every (λ a. P a × Q a) l
  every_both P Q [] h k = tt
  every_both P Q (a ∷ l) h k = ((h.0, k.0), every_both P Q l h.1 k.1)

  pub twos_at : (R : A → A → Type 0) (l : List A) → EveryTwo R l → (d : A) (i j : ℕ) → i < j → j < length l → R (get_or l i d) (get_or l j d)
  twos_at R [] h d i j k m = absurd (omega arith)
  twos_at R (a ∷ l) h d i zero k m = absurd (omega arith)
  twos_at R (a ∷ l) h d zero (suc j) k m = every_at (R a) l h.0 d j (omega arith)
  twos_at R (a ∷ l) h d (suc i) (suc j) k m = twos_at R l h.1 d i j (omega arith) (omega arith)

  pub at_twos : (R : A → A → Type 0) (l : List A) (d : A) → ((i j : ℕ) → i < j → j < length l → R (get_or l i d) (get_or l j d)) → EveryTwo R l
  at_twos R [] d h = tt
  at_twos R (a ∷ l) d h =
      (at_every (R a) l d (λ j k. h 0 (suc j) (omega arith) (omega arith)), at_twos R l d (λ i j k m. h (suc i) (suc j) (omega arith) (omega arith)))

  pub twos_imp : (R S : A → A → Type 0) → ((a b : A) → R a b → S a b) → (l : List A) → EveryTwo R l → EveryTwo S l
  twos_imp R S f [] h = tt
  twos_imp R S f (a ∷ l) h = (every_imp (R a) (S a) (f a) l h.0, twos_imp R S f l h.1)

  pub twos_append : (R : A → A → Type 0) (l m : List A) → EveryTwo R l → EveryTwo R m → Every (λ a. Every (R a) m) l → EveryTwo R (l ++ m)
  twos_append R [] m h k c = k
  twos_append R (a ∷ l) m h k c = (every_append (R a) l m h.0 c.0, twos_append R l m h.1 k c.1)

module _ {A B : Type 0} (f : A → B) where
  pub every_map : (P : B → Type 0) (l : List A) → Every (λ a. P (f a)) l → Every P (map f l)
  every_map P [] h = tt
  every_map P (a ∷ l) h = (h.0, every_map P l h.1)

  pub twos_map : (R : B → B → Type 0) (l : List A) → EveryTwo (λ a b. R (f a) (f b)) l → EveryTwo R (map f l)
  twos_map R [] h = tt
  twos_map R (a ∷ l) h = (every_map (R (f a)) l h.0, twos_map R l h.1)

-- ---- the numbers below n that pass a test

module _ (p : ℕ → Bool) where
  pub kept_every : (Q : ℕ → Type 0) (n : ℕ) → ((j : ℕ) → j < n → p j ≡ true → Q j) → Every Q (keep p n)
  unfolding keep
  kept_every Q zero h = tt
  kept_every Q (suc n) h = every_append Q (keep p n) (cond (p n) (n ∷ []) []) (kept_every Q n (λ j l. h j (omega arith))) (last (p n) refl)
    where
      last : (t : Bool) → p n ≡ t → Every Q (cond t (n ∷ []) [])
      last true e = (h n (omega arith) e, tt)
      last false e = tt

  pub kept_twos : (R : ℕ → ℕ → Type 0) (n : ℕ) → ((i j : ℕ) → i < j → j < n → p i ≡ true → p j ≡ true → R i j) → EveryTwo R (keep p n)
  kept_twos R n h =
      let l = keep p n in
      let passes : Every (λ j. p j ≡ true) l = kept_every (λ j. p j ≡ true) n (λ j k e. e) in
      let each : (i : ℕ) → i < length l → p (get_or l i 0) ≡ true = every_at (λ j. p j ≡ true) l passes 0 in
      let up = keep_rising p n in
      at_twos R l 0 (λ i j k m. h _ _ (up.up i j k m) (up.below j m) (each i (omega arith)) (each j m))
