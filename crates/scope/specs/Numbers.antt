-- How document 01 picks and collects numbers: sums, the least, the greatest, the first that passes a test; lists made of them.
-- Each grows at its end, as a loop does.
use Rattle.std.specs.Prelude.{ℕ, zero, suc, ◌+◌, ◌/◌, ◌%◌, ◌≤◌, ◌<◌, min, max, ◌≡◌, Bool, true, false, not, cond, ◌&&◌, ◌||◌, List, [], ◌∷◌, ◌++◌, ltb, eqb, length, drop}
use Rattle.std.proofs.Math.Option.{Option, none, some}

-- x where the test holds, else 0
abbrev pub when : Bool → ℕ → ℕ
when true x = x
when false x = 0

-- 1 where the test holds, else 0
abbrev pub bit : Bool → ℕ
bit b = when b 1

-- f 0 + f 1 + .. + f (n − 1)
unfoldable pub sum : (ℕ → ℕ) → ℕ → ℕ
sum f zero = 0
sum f (suc n) = sum f n + f n

-- the least of f 0, f 1, .., f (n − 1); f 0 where n is 0
unfoldable pub least : (ℕ → ℕ) → ℕ → ℕ
least f zero = f 0
least f (suc n) = min (least f n) (f n)

-- the greatest of f 0, f 1, .., f (n − 1); 0 where n is 0
unfoldable pub greatest : (ℕ → ℕ) → ℕ → ℕ
greatest f zero = 0
greatest f (suc n) = max (greatest f n) (f n)

-- the test holds at each of 0, 1, .., n − 1
unfoldable pub all : (ℕ → Bool) → ℕ → Bool
all p zero = true
all p (suc n) = all p n && p n

-- of n and the number found so far, the one that goes before the other; the one found so far where neither does
abbrev pub sooner : (ℕ → ℕ → Bool) → ℕ → Option ℕ → Option ℕ
sooner before n none = some n
sooner before n (some c) = cond (before n c) (some n) (some c)

-- the first, in an order, of those among 0, 1, .., n − 1 that pass a test
unfoldable pub first_by : (ℕ → ℕ → Bool) → (ℕ → Bool) → ℕ → Option ℕ
first_by before p zero = none
first_by before p (suc n) = cond (p n) (sooner before n (first_by before p n)) (first_by before p n)

-- none of the numbers below n passes the test; or c does, and has the least m of those that do
abbrev pub IsFirst : (ℕ → Bool) → (ℕ → ℕ) → ℕ → Option ℕ → Type 0
IsFirst p m n none = (j : ℕ) → j < n → p j ≡ true → ⊥
IsFirst p m n (some c) = (c < n) × (p c ≡ true) × ((j : ℕ) → j < n → p j ≡ true → m c ≤ m j)

-- the least of 0, 1, .., n − 1 that passes a test
abbrev pub first : (ℕ → Bool) → ℕ → Option ℕ
first p n = first_by ltb p n

-- x is below y, or they are equal and the rest decides
abbrev pub lexically : ℕ → ℕ → Bool → Bool
lexically x y rest = ltb x y || (eqb x y && rest)

-- the number found; 0 where none is
abbrev pub or_zero : Option ℕ → ℕ
or_zero none = 0
or_zero (some i) = i

-- f 0, f 1, .., f (n − 1)
unfoldable pub listed : (ℕ → ℕ) → ℕ → List ℕ
listed f zero = []
listed f (suc n) = listed f n ++ (f n ∷ [])

-- those of 0, 1, .., n − 1 that pass a test, rising
unfoldable pub keep : (ℕ → Bool) → ℕ → List ℕ
keep p zero = []
keep p (suc n) = keep p n ++ cond (p n) (n ∷ []) []

-- what k numbers make
abbrev pub Of : ℕ → Type 0 → Type 0
Of zero A = A
Of (suc k) A = ℕ → Of k A

-- pieces of k numbers, of which the first, already begun, misses m
unfoldable pub pieces_from : {A : Type 0} (k : ℕ) → Of k A → List ℕ → (m : ℕ) → Of m A → List A
pieces_from k f [] m g = []
pieces_from k f (a ∷ l) zero g = []
pieces_from k f (a ∷ l) (suc zero) g = g a ∷ pieces_from k f l k f
pieces_from k f (a ∷ l) (suc (suc m)) g = pieces_from k f l (suc m) (g a)

-- a list of numbers read k at a time; numbers left over at the end are not read
unfoldable pub pieces : {A : Type 0} (k : ℕ) → Of k A → List ℕ → List A
pieces k f l = pieces_from k f l k f

-- the list is not in pieces of k numbers, or has over `most` of them
unfoldable pub bad_count : ℕ → ℕ → List ℕ → Bool
bad_count k most l = not (eqb (length l % k) 0) || ltb most (length l / k)

-- a lent buffer with a list written at its front; the rest of the buffer stays
unfoldable pub written : {A : Type 0} → List A → List A → List A
written l buffer = l ++ drop (length l) buffer
