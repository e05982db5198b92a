-- Laws of flat lists of numbers: read k at a time, counted by the piece, and kept by a test
use Rattle.std.specs.Prelude.{◌≡◌, Bool, true, not, ◌≢◌, ◌⊎◌, ltb, eqb, get_or, take, drop}
use Rattle.std.proofs.Math.Path.{refl, sym, ap}
use Rattle.std.proofs.Common.{◌∙◌, add-one, length-append, take-append-drop, length-take-le}
use Rattle.std.proofs.Math.Bool.{false, cond, or-true, or-false}
use Rattle.std.proofs.Math.Logic.{inl, inr}
use mathlib.Core.List.{List, [], ◌∷◌, ◌++◌, append-nil, append_assoc}
use Prim.Native.Nat.{ℕ, zero, suc, ◌+◌, ◌-◌, ◌*◌, ◌/◌, ◌%◌, ◌≤◌, ◌<◌}
use native.Mathlib.Omega.{arith}
use Rattle.std.proofs.Math.Nat.{add-div_right, div-eq_of_lt, div-zero, mod-zero}
use Rattle.std.proofs.Math.Decide.{ℕ_discrete, dec_lt}
use Rattle.std.proofs.Math.ListN.{length, length-drop, get_or-append, get_or-eq_default}
use Rattle.std.proofs.lemmas.List.{get_or_at}
use borrow.Author.Tests.{lt-ltb, le-ltb, ltb-false, eqb-true, eq-eqb, ne_eqb, not-false}
use Rattle.scope.specs.Numbers.{Of, pieces_from, pieces, bad_count, keep}
use Rattle.theory.specs.Numbers.{bool_cases, or_neither}

-- a list of no numbers
pub none_listed : (l : List ℕ) → length l ≡ 0 → l ≡ []
none_listed [] e = refl
none_listed (a ∷ l) e = absurd (omega arith)

-- ---- k at a time

-- what the k numbers from place n on make
unfoldable pub made : {A : Type 0} (k : ℕ) → Of k A → List ℕ → ℕ → A
made zero f l n = f
made (suc k) f l n = made k (f (get_or l n 0)) l (suc n)

made_after : {A : Type 0} (k : ℕ) (f : Of k A) (a : ℕ) (l : List ℕ) (n : ℕ) → made k f (a ∷ l) (suc n) ≡ made k f l n
unfolding made
made_after zero f a l n = refl
made_after (suc k) f a l n = made_after k (f (get_or l n 0)) a l (suc n)

module _ (A : Type 0) (k : ℕ) (f : Of k A) where
  -- from a piece that misses m: it counts as k − m numbers more
  from_length : (l : List ℕ) (m : ℕ) (g : Of m A) → 0 < m → m ≤ k → length (pieces_from k f l m g) ≡ (length l + (k - m)) / k
  unfolding pieces_from
  from_length [] m g p h = let short : 0 + (k - m) < k = omega arith in sym (div-eq_of_lt short)
  from_length (a ∷ l) zero g p h = absurd (omega arith)
  from_length (a ∷ l) (suc zero) g p h =
      let e : length l + (k - k) ≡ length l = omega arith in
      let e' : suc (length l) + (k - 1) ≡ length l + k = omega arith in
      omega (
        arith,
        from_length l k f (omega arith) (omega arith),
        ap (λ (n : ℕ). n / k) e,
        ap (λ (n : ℕ). n / k) e',
        add-div_right (length l) {k = k} (omega arith),
      )
  from_length (a ∷ l) (suc (suc m)) g p h =
      let e : length l + (k - suc m) ≡ suc (length l) + (k - suc (suc m)) = omega arith in
      from_length l (suc m) (g a) (omega arith) (omega arith) ∙ ap (λ (n : ℕ). n / k) e

  -- the piece that misses m, and the one that comes i after it
  from_first : (d : A) (l : List ℕ) (m : ℕ) (g : Of m A) → 0 < m → m ≤ length l → get_or (pieces_from k f l m g) 0 d ≡ made m g l 0
  unfolding pieces_from made
  from_first d [] m g p h = absurd (omega arith)
  from_first d (a ∷ l) zero g p h = absurd (omega arith)
  from_first d (a ∷ l) (suc zero) g p h = refl
  from_first d (a ∷ l) (suc (suc m)) g p h = from_first d l (suc m) (g a) (omega arith) (omega arith) ∙ sym (made_after (suc m) (g a) a l 0)

  from_next : (d : A) (l : List ℕ) (m : ℕ) (g : Of m A) (i : ℕ) → 0 < k → 0 < m → m + k * i + k ≤ length l →
      get_or (pieces_from k f l m g) (suc i) d ≡ made k f l (m + k * i)
  unfolding pieces_from
  from_next d [] m g i q p h = absurd (omega arith)
  from_next d (a ∷ l) zero g i q p h = absurd (omega arith)
  from_next d (a ∷ l) (suc zero) g zero q p h =
      let e : 1 + k * 0 ≡ 1 = omega arith in
      from_first d l k f q (omega arith) ∙ sym (made_after k f a l 0) ∙ ap (made k f (a ∷ l)) (sym e)
  from_next d (a ∷ l) (suc zero) g (suc i) q p h =
      let e : 1 + k * suc i ≡ suc (k + k * i) = omega arith in
      from_next d l k f i q q (omega arith) ∙ sym (made_after k f a l (k + k * i)) ∙ ap (made k f (a ∷ l)) (sym e)
  from_next d (a ∷ l) (suc (suc m)) g i q p h =
      let e : suc (suc m) + k * i ≡ suc (suc m + k * i) = omega arith in
      from_next d l (suc m) (g a) i q (omega arith) (omega arith) ∙ sym (made_after k f a l (suc m + k * i)) ∙ ap (made k f (a ∷ l)) (sym e)

  -- a list of just the numbers that are missed, in front of others
  from_append : (l r : List ℕ) (m : ℕ) (g : Of m A) → 0 < m → length l ≡ m → pieces_from k f (l ++ r) m g ≡ made m g l 0 ∷ pieces_from k f r k f
  unfolding pieces_from made
  from_append [] r m g p h = absurd (omega arith)
  from_append (a ∷ l) r zero g p h = absurd (omega arith)
  from_append (a ∷ []) r (suc zero) g p h = refl
  from_append (a ∷ b ∷ l) r (suc zero) g p h = absurd (omega arith)
  from_append (a ∷ l) r (suc (suc m)) g p h =
      from_append l r (suc m) (g a) (omega arith) (omega arith) ∙ ap (λ (x : A). x ∷ pieces_from k f r k f) (sym (made_after (suc m) (g a) a l 0))

-- how many pieces
pub pieces_length : (A : Type 0) (k : ℕ) (f : Of k A) (l : List ℕ) → length (pieces k f l) ≡ length l / k
unfolding pieces pieces_from
pieces_length A zero f [] = sym (div-zero 0)
pieces_length A zero f (a ∷ l) = sym (div-zero (suc (length l)))
pieces_length A (suc k) f l =
    let e : length l + (suc k - suc k) ≡ length l = omega arith in
    from_length A (suc k) f l (suc k) f (omega arith) (omega arith) ∙ ap (λ (n : ℕ). n / suc k) e

-- past the last of them
pub piece_past : {A : Type 0} (k : ℕ) (f : Of k A) (d : A) (l : List ℕ) (i : ℕ) → length l / k ≤ i → get_or (pieces k f l) i d ≡ d
piece_past {A} k f d l i h = get_or-eq_default (pieces k f l) d (omega (arith, pieces_length A k f l))

module _ (A : Type 0) (k : ℕ) (f : Of k A) (some : 0 < k) where
  -- piece i is made of the k numbers from place k · i on
  pub piece_at : (d : A) (l : List ℕ) (i : ℕ) → k * i + k ≤ length l → get_or (pieces k f l) i d ≡ made k f l (k * i)
  unfolding pieces
  piece_at d l zero h = let e : k * 0 ≡ 0 = omega arith in from_first A k f d l k f some (omega arith) ∙ ap (made k f l) (sym e)
  piece_at d l (suc i) h =
      let e : k * suc i ≡ k + k * i = omega arith in
      from_next A k f d l k f i some some (omega arith) ∙ ap (made k f l) (sym e)

  -- after whole pieces the reading starts afresh
  pub pieces_append : (n : ℕ) (l r : List ℕ) → length l ≡ k * n → pieces k f (l ++ r) ≡ pieces k f l ++ pieces k f r
  unfolding pieces pieces_from
  pieces_append zero [] r h = refl
  pieces_append zero (a ∷ l) r h = absurd (omega arith)
  pieces_append (suc n) l r h =
      rw (take-append-drop k l) at (go (take k l) (drop k l) (length-take-le k l (omega arith)) (pieces_append n (drop k l) r (omega (arith, length-drop k l))))
    where
      go : (x y : List ℕ) → length x ≡ k → pieces k f (y ++ r) ≡ pieces k f y ++ pieces k f r → pieces k f ((x ++ y) ++ r) ≡ pieces k f (x ++ y) ++ pieces k f r
      go x y e ih =
          ap (λ (z : List ℕ). pieces_from k f z k f) (append_assoc x y r) ∙ from_append A k f x (y ++ r) k f some e ∙ ap (λ (z : List A). made k f x 0 ∷ z) ih
          ∙ ap (λ (z : List A). z ++ pieces k f r) (sym (from_append A k f x y k f some e))

-- a piece of two numbers, and one of three
pub two_at : {A : Type 0} (f : ℕ → ℕ → A) (d : A) (l : List ℕ) (i : ℕ) → 2 * i + 1 < length l →
    get_or (pieces 2 f l) i d ≡ f (get_or l (2 * i) 0) (get_or l (2 * i + 1) 0)
unfolding made
two_at {A} f d l i h = piece_at A 2 f (omega arith) d l i (omega arith) ∙ rw (add-one (2 * i))

pub three_at : {A : Type 0} (f : ℕ → ℕ → ℕ → A) (d : A) (l : List ℕ) (i : ℕ) → 3 * i + 2 < length l →
    get_or (pieces 3 f l) i d ≡ f (get_or l (3 * i) 0) (get_or l (3 * i + 1) 0) (get_or l (3 * i + 2) 0)
unfolding made
three_at {A} f d l i h =
    let e : 3 * i + 2 ≡ suc (suc (3 * i)) = omega arith in
    piece_at A 3 f (omega arith) d l i (omega arith) ∙ rw (e, add-one (3 * i))

-- ---- the count of a list's numbers

module _ (k most : ℕ) (l : List ℕ) where
  pub count_fine : bad_count k most l ≡ false → (length l % k ≡ 0) × (length l / k ≤ most)
  unfolding bad_count
  count_fine e =
      let n = or_neither (not (eqb (length l % k) 0)) _ e in
      (eqb-true (length l % k) 0 (not-false _ n.0), ltb-false most (length l / k) n.1)

  -- in pieces: it is at fault by their number alone
  pub whole_count : length l % k ≡ 0 → bad_count k most l ≡ ltb most (length l / k)
  unfolding bad_count
  whole_count h = rw (eq-eqb (length l % k) 0 h)

  pub fine_count : length l % k ≡ 0 → length l / k ≤ most → bad_count k most l ≡ false
  fine_count h e = whole_count h ∙ le-ltb most (length l / k) e

  pub left_over_count : length l % k ≢ 0 → bad_count k most l ≡ true
  unfolding bad_count
  left_over_count h = rw (ne_eqb (length l % k) 0 h)

  pub over_count : most < length l / k → bad_count k most l ≡ true
  unfolding bad_count
  over_count h = rw (lt-ltb most (length l / k) h) (or-true (not (eqb (length l % k) 0)))

-- pieces of no numbers: none but an empty list has them
pub none_count : (k most : ℕ) (l : List ℕ) → k ≡ 0 → bad_count k most l ≡ not (eqb (length l) 0)
unfolding bad_count
none_count k most l e = rw (e, mod-zero (length l), div-zero (length l), le-ltb most 0 (omega arith), or-false (not (eqb (length l) 0)))

-- ---- the numbers below n that pass a test

module _ (p : ℕ → Bool) where
  pub keep_hit : (n : ℕ) → p n ≡ true → keep p (suc n) ≡ keep p n ++ (n ∷ [])
  unfolding keep
  keep_hit n e = rw e

  pub keep_miss : (n : ℕ) → p n ≡ false → keep p (suc n) ≡ keep p n
  unfolding keep
  keep_miss n e = rw e (append-nil (keep p n))

  pub keep_none : (n : ℕ) → ((j : ℕ) → j < n → p j ≡ false) → keep p n ≡ []
  unfolding keep
  keep_none zero h = refl
  keep_none (suc n) h = keep_miss n (h n (omega arith)) ∙ keep_none n (λ j l. h j (omega arith))

  -- the only one that passes is kept alone
  pub keep_alone : (c n : ℕ) → c < n → p c ≡ true → ((j : ℕ) → p j ≡ true → j ≡ c) → keep p n ≡ c ∷ []
  unfolding keep
  keep_alone c zero l e h = absurd (omega arith)
  keep_alone c (suc n) l e h =
      let others : (j : ℕ) → (j ≡ c → ⊥) → p j ≡ false = λ j u. elim (bool_cases (p j)) [ inl q ↦ absurd (u (h j q)) | inr q ↦ q ] in
      elim (ℕ_discrete n c) [
        | yes z ↦ rw (z, e, keep_none c (λ j k. others j (λ q. omega arith)))
        | no z ↦ keep_miss n (others n z) ∙ keep_alone c n (omega arith) e h
      ]

  -- the first that passes is the first that is kept
  pub keep_first : (c n : ℕ) → c < n → p c ≡ true → ((j : ℕ) → j < c → p j ≡ false) → (rest : List ℕ) × (keep p n ≡ c ∷ rest)
  unfolding keep
  keep_first c zero l e h = absurd (omega arith)
  keep_first c (suc n) l e h =
      elim (ℕ_discrete n c) [
        | yes z ↦ ([], rw (z, e, keep_none c h))
        | no z ↦
            let f = keep_first c n (omega arith) e h in
            let more : List ℕ = cond (p n) (n ∷ []) [] in
            (f.0 ++ more, ap (λ (l : List ℕ). l ++ more) f.1)
      ]

-- ---- they rise, and all are below n

pub record Rising (l : List ℕ) (n : ℕ) : Type 0 where
  pub below : (i : ℕ) → i < length l → get_or l i 0 < n
  pub up : (i j : ℕ) → i < j → j < length l → get_or l i 0 < get_or l j 0

-- what is left after the first number still rises, and is above it
pub rising_rest : (a : ℕ) (l : List ℕ) (n : ℕ) → Rising (a ∷ l) n → Rising l n
rising_rest a l n r = record { below = λ i h. r.below (suc i) (omega arith); up = λ i j h k. r.up (suc i) (suc j) (omega arith) (omega arith) }

pub rising_above : (a : ℕ) (l : List ℕ) (n : ℕ) → Rising (a ∷ l) n → (i : ℕ) → i < length l → a < get_or l i 0
rising_above a l n r i h = r.up 0 (suc i) (omega arith) (omega arith)

-- and so do numbers with a lesser one before them
pub rising_cons : (a : ℕ) (l : List ℕ) (n : ℕ) → a < n → ((k : ℕ) → k < length l → a < get_or l k 0) → Rising l n → Rising (a ∷ l) n
rising_cons a l n h up r = record { below = below; up = rising }
  where
    below : (i : ℕ) → i < length (a ∷ l) → get_or (a ∷ l) i 0 < n
    below zero u = h
    below (suc i) u = r.below i (omega arith)

    rising : (i j : ℕ) → i < j → j < length (a ∷ l) → get_or (a ∷ l) i 0 < get_or (a ∷ l) j 0
    rising i zero u v = absurd (omega arith)
    rising zero (suc j) u v = up j (omega arith)
    rising (suc i) (suc j) u v = r.up i j (omega arith) (omega arith)

-- a pair before them
pub rising_two : (s e : ℕ) (l : List ℕ) (n : ℕ) → s < e → e < n → ((k : ℕ) → k < length l → e < get_or l k 0) → Rising l n → Rising (s ∷ e ∷ l) n
rising_two s e l n h top past r = rising_cons s (e ∷ l) n (omega arith) first (rising_cons e l n top past r)
  where
    first : (k : ℕ) → k < length (e ∷ l) → s < get_or (e ∷ l) k 0
    first zero i = h
    first (suc k) i = omega (arith, past k (omega arith))

rising_none : Rising [] 0
rising_none = record { below = λ i h. absurd (omega arith); up = λ i j l h. absurd (omega arith) }

rising_later : (l : List ℕ) (n : ℕ) → Rising l n → Rising l (suc n)
rising_later l n r = record { below = λ i h. omega (arith, r.below i h); up = r.up }

module _ (l : List ℕ) (n : ℕ) where
  more_length : length (l ++ (n ∷ [])) ≡ length l + 1
  more_length = length-append l (n ∷ [])

  more_old : (i : ℕ) → i < length l → get_or (l ++ (n ∷ [])) i 0 ≡ get_or l i 0
  more_old i h = get_or-append l (n ∷ []) 0 i h

  more_new : (i : ℕ) → i ≡ length l → get_or (l ++ (n ∷ [])) i 0 ≡ n
  more_new i e = get_or_at l n [] 0 i (sym e)

  rising_more : Rising l n → Rising (l ++ (n ∷ [])) (suc n)
  rising_more r =
      record {
        below = λ i h. elim (dec_lt i (length l)) [
          | yes k ↦ omega (arith, more_old i k, r.below i k)
          | no k ↦ omega (arith, more_new i (omega (arith, more_length)))
        ];
        up = λ i j u h.
            let k : i < length l = omega (arith, more_length) in
            elim (dec_lt j (length l)) [
              | yes m ↦ omega (arith, more_old i k, more_old j m, r.up i j u m)
              | no m ↦ omega (arith, more_old i k, r.below i k, more_new j (omega (arith, more_length)))
            ];
      }

pub keep_rising : (p : ℕ → Bool) (n : ℕ) → Rising (keep p n) n
unfolding keep
keep_rising p zero = rising_none
keep_rising p (suc n) = go (bool_cases (p n)) (keep_rising p n)
  where
    go : (p n ≡ true) ⊎ (p n ≡ false) → Rising (keep p n) n → Rising (keep p (suc n)) (suc n)
    go (inl e) r = rw (keep_hit p n e) (rising_more (keep p n) n r)
    go (inr e) r = rw (keep_miss p n e) (rising_later (keep p n) n r)

-- and so there are no more of them
pub keep_most : (p : ℕ → Bool) (n : ℕ) → length (keep p n) ≤ n
unfolding keep
keep_most p zero = omega arith
keep_most p (suc n) = go (bool_cases (p n)) (keep_most p n)
  where
    go : (p n ≡ true) ⊎ (p n ≡ false) → length (keep p n) ≤ n → length (keep p (suc n)) ≤ suc n
    go (inl e) h = omega (arith, ap length (keep_hit p n e), length-append (keep p n) (n ∷ []))
    go (inr e) h = omega (arith, ap length (keep_miss p n e))
