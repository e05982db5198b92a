-- Laws of sums, of the least, the greatest and the first, over any function and any test of numbers
use Rattle.std.specs.Prelude.{◌≡◌, Bool, true, false, cond, ◌&&◌, ◌||◌, ◌≢◌, ◌⊎◌, leb, ltb, eqb}
use Rattle.std.proofs.Math.Path.{refl}
use Rattle.std.proofs.Common.{sym, ap, ◌∙◌, true≢false, inl, inr, add-zero, add-suc, le_trans, ltb-true, ltb-false, leb-true, lt-ltb, le-ltb, le-leb, eq-eqb, ne_eqb}
use Rattle.std.proofs.Math.Bool.{and-eq-true_iff}
use Rattle.std.proofs.lemmas.Bool.{false≢true}
use Rattle.std.proofs.Math.Option.{Option, none, some}
use Prim.Native.Nat.{ℕ, zero, suc, ◌+◌, ◌*◌, ◌≤◌, ◌<◌}
use native.Mathlib.Omega.{arith}
use Rattle.std.proofs.Math.Decide.{ℕ_discrete, dec_lt, dec_le}
use Rattle.scope.specs.Numbers.{when, bit, sum, least, greatest, all, sooner, first_by, IsFirst, first, lexically}

-- ---- tests

pub and_both : (a b : Bool) → a && b ≡ true → (a ≡ true) × (b ≡ true)
and_both a b e = (and-eq-true_iff a b).0 e

pub both_and : {a b : Bool} → a ≡ true → b ≡ true → a && b ≡ true
both_and p q = cc

pub bool_cases : (b : Bool) → (b ≡ true) ⊎ (b ≡ false)
bool_cases true = inl refl
bool_cases false = inr refl

pub or_neither : (a b : Bool) → (a || b) ≡ false → (a ≡ false) × (b ≡ false)
or_neither true true e = (e, e)
or_neither true false e = (e, refl)
or_neither false b e = (refl, e)

-- a ≤ x and y ≤ e, as a test
abbrev pub fits : ℕ → ℕ → ℕ → ℕ → Bool
fits a x y e = leb a x && leb y e

pub fits_true : (a x y e : ℕ) → fits a x y e ≡ true → (a ≤ x) × (y ≤ e)
fits_true a x y e q = let p = and_both (leb a x) (leb y e) q in (leb-true a x p.0, leb-true y e p.1)

pub true_fits : (a x y e : ℕ) → a ≤ x → y ≤ e → fits a x y e ≡ true
true_fits a x y e p q = both_and {a = leb a x} (le-leb a x p) (le-leb y e q)

pub bit_le : (b : Bool) → bit b ≤ 1
bit_le true = omega arith
bit_le false = omega arith

-- what holds of all numbers below n, and of n, holds of all below n + 1
pub below_suc : (Q : ℕ → Type 0) (n : ℕ) → ((j : ℕ) → j < n → Q j) → Q n → (j : ℕ) → j < suc n → Q j
below_suc Q n h q j l = elim (ℕ_discrete j n) [ yes e ↦ rw e q | no u ↦ h j (omega arith) ]

-- ---- sums

pub sum_le : (f g : ℕ → ℕ) (n : ℕ) → ((i : ℕ) → i < n → f i ≤ g i) → sum f n ≤ sum g n
unfolding sum
sum_le f g zero h = omega arith
sum_le f g (suc n) h = omega (arith, sum_le f g n (λ i l. h i (omega arith)), h n (omega arith))

pub sum_eq : (f g : ℕ → ℕ) (n : ℕ) → ((i : ℕ) → i < n → f i ≡ g i) → sum f n ≡ sum g n
unfolding sum
sum_eq f g zero h = refl
sum_eq f g (suc n) h = omega (arith, sum_eq f g n (λ i l. h i (omega arith)), h n (omega arith))

pub sum_add : (f g : ℕ → ℕ) (n : ℕ) → sum (λ i. f i + g i) n ≡ sum f n + sum g n
unfolding sum
sum_add f g zero = refl
sum_add f g (suc n) = omega (arith, sum_add f g n)

pub sum_zero : (n : ℕ) → sum (λ i. 0) n ≡ 0
unfolding sum
sum_zero zero = refl
sum_zero (suc n) = omega (arith, sum_zero n)

pub sum_same : (c n : ℕ) → sum (λ i. c) n ≡ n * c
unfolding sum
sum_same c zero = omega arith
sum_same c (suc n) = omega (arith, sum_same c n)

pub sum_split : (f : ℕ → ℕ) (a b : ℕ) → sum f (a + b) ≡ sum f a + sum (λ i. f (a + i)) b
unfolding sum
sum_split f a zero = rw (add-zero a) (omega arith)
sum_split f a (suc b) = rw add-suc (omega (arith, sum_split f a b))

-- the first summand apart
pub sum_first : (f : ℕ → ℕ) (n : ℕ) → sum f (suc n) ≡ f 0 + sum (λ i. f (suc i)) n
unfolding sum
sum_first f zero = omega arith
sum_first f (suc n) = omega (arith, sum_first f n)

pub sum_has : (f : ℕ → ℕ) (n p : ℕ) → p < n → f p ≤ sum f n
unfolding sum
sum_has f zero p h = omega arith
sum_has f (suc n) p h =
    elim (ℕ_discrete p n) [ yes e ↦ omega (arith, ap f e) | no q ↦ omega (arith, sum_has f n p (omega arith)) ]

-- g is f but at p, where it is x less
pub sum_but : (f g : ℕ → ℕ) (x n p : ℕ) → p < n → g p + x ≡ f p → ((i : ℕ) → i ≢ p → g i ≡ f i) → sum g n + x ≡ sum f n
unfolding sum
sum_but f g x zero p h e o = omega arith
sum_but f g x (suc n) p h e o =
    elim (ℕ_discrete p n) [
      | yes q ↦ omega (arith, ap f q, ap g q, sum_eq g f n (λ i l. o i (omega arith)))
      | no q ↦ omega (arith, o n (omega arith), sum_but f g x n p (omega arith) e o)
    ]

-- x where i is p, else nothing
abbrev pub at : ℕ → ℕ → ℕ → ℕ
at p x i = when (eqb p i) x

pub at_same : (p x : ℕ) → at p x p ≡ x
at_same p x = rw (eq-eqb p p refl)

pub at_other : (p x i : ℕ) → i ≢ p → at p x i ≡ 0
at_other p x i h = rw (ne_eqb p i (λ e. h (sym e)))

pub sum_at : (p x n : ℕ) → p < n → sum (at p x) n ≡ x
sum_at p x n h = omega (arith, sum_but (at p x) (λ i. 0) x n p h (omega (arith, at_same p x)) (λ i q. sym (at_other p x i q)), sum_zero n)

pub sum_at_le : (p x n : ℕ) → sum (at p x) n ≤ x
unfolding sum
sum_at_le p x zero = omega arith
sum_at_le p x (suc n) =
    elim (ℕ_discrete n p) [
      | yes q ↦ omega (arith, sum_eq (at p x) (λ i. 0) n (λ i l. at_other p x i (omega arith)), sum_zero n, at_same p x, ap (at p x) q)
      | no q ↦ omega (arith, at_other p x n q, sum_at_le p x n)
    ]

-- sums in either order
pub sum_swap : (f : ℕ → ℕ → ℕ) (m n : ℕ) → sum (λ i. sum (f i) n) m ≡ sum (λ j. sum (λ i. f i j) m) n
unfolding sum
sum_swap f zero n = sym (sum_zero n)
sum_swap f (suc m) n = omega (arith, sum_swap f m n, sum_add (λ j. sum (λ i. f i j) m) (f m) n)

-- summands sorted by a number c below m
pub sum_sorted : (f : ℕ → ℕ) (c : ℕ → ℕ) (m n : ℕ) → ((j : ℕ) → j < n → 0 < f j → c j < m) →
    sum f n ≤ sum (λ i. sum (λ j. at (c j) (f j) i) n) m
sum_sorted f c m n h = omega (
  arith,
  sum_swap (λ i j. at (c j) (f j) i) m n,
  sum_le f (λ j. sum (at (c j) (f j)) m) n (λ j l.
      elim (dec_lt 0 (f j)) [ yes p ↦ omega (arith, sum_at (c j) (f j) m (h j l p)) | no q ↦ omega arith ]),
)

-- ---- sums under tests

pub when_le : (a b : Bool) (x y : ℕ) → (a ≡ true → (b ≡ true) × (x ≤ y)) → when a x ≤ when b y
when_le true b x y h = rw (h refl).0 (h refl).1
when_le false b x y h = omega arith

pub when_none : (a : Bool) (x : ℕ) → (a ≡ true → x ≡ 0) → when a x ≡ 0
when_none true x h = h refl
when_none false x h = refl

pub when_pos : (a : Bool) (x : ℕ) → 0 < when a x → (a ≡ true) × (0 < x)
when_pos true x h = (refl, h)
when_pos false x h = absurd (omega arith)

-- a summand that is not 0
pub record Positive (f : ℕ → ℕ) (n : ℕ) : Type 0 where
  pub index : ℕ
  pub below : index < n
  pub pos : 0 < f index

pub sum_pos : (f : ℕ → ℕ) (n : ℕ) → 0 < sum f n → Positive f n
unfolding sum
sum_pos f zero h = absurd (omega arith)
sum_pos f (suc n) h =
    elim (dec_lt 0 (f n)) [
      | yes p ↦ record { index = n; below = omega arith; pos = p }
      | no q ↦ let r = sum_pos f n (omega arith) in record { index = r.index; below = omega arith; pos = r.pos }
    ]

pub when_when : (a b : Bool) (x : ℕ) → when a (when b x) ≡ when (a && b) x
when_when true b x = refl
when_when false b x = refl

when_bit : (a : Bool) (x : ℕ) → when a x ≡ bit a * x
when_bit true x = omega arith
when_bit false x = omega arith

pub sum_when_same : (p : ℕ → Bool) (x n : ℕ) → sum (λ j. when (p j) x) n ≡ sum (λ j. bit (p j)) n * x
unfolding sum
sum_when_same p x zero = omega arith
sum_when_same p x (suc n) = omega (arith, sum_when_same p x n, when_bit (p n) x)

-- ---- the least and the greatest

pub least_le : (f : ℕ → ℕ) (n i : ℕ) → i < n → least f n ≤ f i
unfolding least
least_le f zero i h = absurd (omega arith)
least_le f (suc n) i h =
    elim (ℕ_discrete i n) [ yes e ↦ omega (arith, ap f e) | no q ↦ omega (arith, least_le f n i (omega arith)) ]

-- of a function that is nowhere more the least is no more
pub least_over : (f g : ℕ → ℕ) (n : ℕ) → ((i : ℕ) → f i ≤ g i) → least f n ≤ least g n
unfolding least
least_over f g zero h = h 0
least_over f g (suc n) h = omega (arith, least_over f g n h, h n)

pub least_met : (f : ℕ → ℕ) (n : ℕ) → 0 < n → (i : ℕ) × (i < n) × (f i ≡ least f n)
unfolding least
least_met f zero p = absurd (omega arith)
least_met f (suc zero) p = (0, omega arith, omega arith)
least_met f (suc (suc n)) p =
    let m = least_met f (suc n) (omega arith) in
    elim (dec_le (least f (suc n)) (f (suc n))) [
      | yes h ↦ (m.0, omega (arith, m.1), omega (arith, m.2))
      | no h ↦ (suc n, omega arith, omega arith)
    ]

pub greatest_ge : (f : ℕ → ℕ) (n i : ℕ) → i < n → f i ≤ greatest f n
unfolding greatest
greatest_ge f zero i h = absurd (omega arith)
greatest_ge f (suc n) i h =
    elim (ℕ_discrete i n) [ yes e ↦ omega (arith, ap f e) | no q ↦ omega (arith, greatest_ge f n i (omega arith)) ]

pub greatest_met : (f : ℕ → ℕ) (n : ℕ) → 0 < n → (i : ℕ) × (i < n) × (f i ≡ greatest f n)
unfolding greatest
greatest_met f zero p = absurd (omega arith)
greatest_met f (suc zero) p = (0, omega arith, omega arith)
greatest_met f (suc (suc n)) p =
    let m = greatest_met f (suc n) (omega arith) in
    elim (dec_le (f (suc n)) (greatest f (suc n))) [
      | yes h ↦ (m.0, omega (arith, m.1), omega (arith, m.2))
      | no h ↦ (suc n, omega arith, omega arith)
    ]

-- ---- all

pub all_true : (p : ℕ → Bool) (n : ℕ) → all p n ≡ true → (i : ℕ) → i < n → p i ≡ true
unfolding all
all_true p zero e i l = absurd (omega arith)
all_true p (suc n) e i l =
    let b = and_both (all p n) (p n) e in
    below_suc (λ j. p j ≡ true) n (all_true p n b.0) b.1 i l

pub true_all : (p : ℕ → Bool) (n : ℕ) → ((i : ℕ) → i < n → p i ≡ true) → all p n ≡ true
unfolding all
true_all p zero h = refl
true_all p (suc n) h = both_and {a = all p n} (true_all p n (λ i l. h i (omega arith))) (h n (omega arith))

-- ---- the first of those that pass a test, in an order that goes first by a number m

pub record By (before : ℕ → ℕ → Bool) (m : ℕ → ℕ) : Type 0 where
  pub ahead : (a b : ℕ) → before a b ≡ true → m a ≤ m b
  pub behind : (a b : ℕ) → before a b ≡ false → m b ≤ m a

module _ (p : ℕ → Bool) (before : ℕ → ℕ → Bool) (m : ℕ → ℕ) (by : By before m) where
  first_two : (n c : ℕ) (t : Bool) → before n c ≡ t → p n ≡ true → IsFirst p m n (some c) → IsFirst p m (suc n) (cond t (some n) (some c))
  first_two n c true e q h =
      (omega arith, q, below_suc (λ j. p j ≡ true → m n ≤ m j) n (λ j l r. le_trans (by.ahead n c e) (h.2 j l r)) (λ r. omega arith))
  first_two n c false e q h = (omega arith, h.1, below_suc (λ j. p j ≡ true → m c ≤ m j) n h.2 (λ r. by.behind n c e))

  first_step : (n : ℕ) (t : Bool) (o : Option ℕ) → p n ≡ t → IsFirst p m n o → IsFirst p m (suc n) (cond t (sooner before n o) o)
  first_step n true none q h =
      (omega arith, q, below_suc (λ j. p j ≡ true → m n ≤ m j) n (λ j l r. absurd (h j l r)) (λ r. omega arith))
  first_step n true (some c) q h = first_two n c (before n c) refl q h
  first_step n false none q h = below_suc (λ j. p j ≡ true → ⊥) n h (λ r. false≢true (sym q ∙ r))
  first_step n false (some c) q h =
      (omega arith, h.1, below_suc (λ j. p j ≡ true → m c ≤ m j) n h.2 (λ r. absurd (false≢true (sym q ∙ r))))

  pub first_is : (n : ℕ) → IsFirst p m n (first_by before p n)
  unfolding first_by
  first_is zero = λ j h q. omega arith
  first_is (suc n) = first_step n (p n) (first_by before p n) refl (first_is n)

-- any order at all goes first by a number that is the same for all
pub by_nothing : (before : ℕ → ℕ → Bool) → By before (λ i. 0)
by_nothing before = record { ahead = λ a b q. omega arith; behind = λ a b q. omega arith }

-- so what is first passes the test
pub first_passes : (p : ℕ → Bool) (before : ℕ → ℕ → Bool) (n c : ℕ) → first_by before p n ≡ some c → (c < n) × (p c ≡ true)
first_passes p before n c e = go (first_by before p n) (first_is p before (λ i. 0) (by_nothing before) n) e
  where
    go : (o : Option ℕ) → IsFirst p (λ i. 0) n o → o ≡ some c → (c < n) × (p c ≡ true)
    go none f q = let z : ◌≡◌ {A = ℕ} 0 1 = cc in absurd (omega arith)
    go (some d) f q = let g : d ≡ c = cc in (omega (arith, f.0), rw (← g) f.1)

-- an order by m and then by the rest goes first by m
pub lexically_true : (x y : ℕ) (rest : Bool) → lexically x y rest ≡ true → x ≤ y
lexically_true x y rest e =
    elim (dec_le x y) [ yes h ↦ h | no h ↦ absurd (false≢true (rw (le-ltb x y (omega arith), ne_eqb x y (omega arith)) at e)) ]

-- and where m decides nothing, by the rest
pub lexically_tied : (x y : ℕ) (rest : Bool) → lexically x y rest ≡ true → x ≡ y → rest ≡ true
lexically_tied x y rest e z = rw (le-ltb x y (omega arith), eq-eqb x y z) at e

pub less_lexically : (x y : ℕ) (rest : Bool) → x < y → lexically x y rest ≡ true
less_lexically x y rest h = rw (lt-ltb x y h)

pub more_lexically : (x y : ℕ) (rest : Bool) → y ≤ x → x ≢ y → lexically x y rest ≡ false
more_lexically x y rest h u = rw (le-ltb x y h, ne_eqb x y u)

pub rest_lexically : (x y : ℕ) (rest : Bool) → x ≡ y → lexically x y rest ≡ rest
rest_lexically x y rest z = rw (le-ltb x y (omega arith), eq-eqb x y z)

lexically_false : (x y : ℕ) (rest : Bool) → lexically x y rest ≡ false → y ≤ x
lexically_false x y rest e = elim (dec_le y x) [ yes h ↦ h | no h ↦ absurd (true≢false (rw (lt-ltb x y (omega arith)) at e)) ]

pub by_lexically : (m : ℕ → ℕ) (rest : ℕ → ℕ → Bool) → By (λ a b. lexically (m a) (m b) (rest a b)) m
by_lexically m rest =
    record { ahead = λ a b e. lexically_true (m a) (m b) (rest a b) e; behind = λ a b e. lexically_false (m a) (m b) (rest a b) e }

-- ---- the least number that passes a test

by_size : By ltb (λ i. i)
by_size = record { ahead = λ a b e. omega (arith, ltb-true a b e); behind = λ a b e. ltb-false a b e }

pub least_is : (p : ℕ → Bool) (n : ℕ) → IsFirst p (λ i. i) n (first p n)
least_is p n = first_is p ltb (λ i. i) by_size n

-- tests that agree below n have the same first number
pub first_equal : (p q : ℕ → Bool) (n : ℕ) → ((i : ℕ) → i < n → p i ≡ q i) → first p n ≡ first q n
unfolding first_by
first_equal p q zero h = refl
first_equal p q (suc n) h = rw (h n (omega arith), first_equal p q n (λ i l. h i (omega arith)))

module _ (p : ℕ → Bool) (n : ℕ) where
  -- none is found exactly where none passes
  pub first_none : first p n ≡ none → (j : ℕ) → j < n → p j ≡ false
  first_none e j l = go (first p n) (least_is p n) e (p j) refl
    where
      go : (o : Option ℕ) → IsFirst p (λ i. i) n o → o ≡ none → (b : Bool) → p j ≡ b → p j ≡ false
      go none f q true r = absurd (f j l r)
      go none f q false r = r
      go (some c) f q b r = let z : ◌≡◌ {A = ℕ} 0 1 = cc in absurd (omega arith)

  pub none_first : ((j : ℕ) → j < n → p j ≡ false) → first p n ≡ none
  none_first h = go (first p n) (least_is p n)
    where
      go : (o : Option ℕ) → IsFirst p (λ i. i) n o → o ≡ none
      go none f = refl
      go (some c) f = absurd (false≢true (sym (h c f.0) ∙ f.1))

  -- c is found exactly where it passes and no lower number does
  pub first_some : (c : ℕ) → first p n ≡ some c → (c < n) × (p c ≡ true) × ((j : ℕ) → j < c → p j ≡ false)
  first_some c e = go (first p n) (least_is p n) e
    where
      go : (o : Option ℕ) → IsFirst p (λ i. i) n o → o ≡ some c → (c < n) × (p c ≡ true) × ((j : ℕ) → j < c → p j ≡ false)
      go none f q = let z : ◌≡◌ {A = ℕ} 0 1 = cc in absurd (omega arith)
      go (some d) f q =
          let e : d ≡ c = cc in (
            omega (arith, f.0),
            rw (← e) f.1,
            λ j l. elim (bool_cases (p j)) [ inl r ↦ absurd (omega (arith, f.2 j (omega (arith, f.0)) r)) | inr r ↦ r ],
          )

  pub some_first : (c : ℕ) → c < n → p c ≡ true → ((j : ℕ) → j < c → p j ≡ false) → first p n ≡ some c
  some_first c l e low = go (first p n) (least_is p n)
    where
      go : (o : Option ℕ) → IsFirst p (λ i. i) n o → o ≡ some c
      go none f = absurd (f c l e)
      go (some d) f =
          let q : d ≡ c = elim (dec_lt d c) [ yes h ↦ absurd (false≢true (sym (low d h) ∙ f.1)) | no h ↦ omega (arith, f.2 c l e) ] in
          ap some q
