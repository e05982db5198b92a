-- Faults as the code meets them: one check after the other, then the value
use mathlib.Core.Path.{◌≡◌, refl, sym, ap}
use mathlib.Core.Bool.{Bool, true, false, not, cond, ◌&&◌, ◌||◌}
use mathlib.Core.List.{List}
use Prim.Native.Nat.{ℕ, ◌<◌}
use native.Mathlib.Omega.{arith}
use native.Mathlib.Decide.{ℕ_discrete, dec_lt}
use lib.Dec.{ltb, leb, eqb}
use borrow.Author.Tests.{lt-ltb, le-ltb, lt-leb, le-leb, eq-eqb, ne_eqb}
use Rattle.scope.specs.Numbers.{first}
use Rattle.scope.specs.Answers.{Fault, Fault.fine, Fault.fault, Answer.given, Answer.refused, fault_if, fault_at, ◌or_else◌, unless, unless_kept}
use Rattle.theory.specs.Numbers.{some_first, none_first}
use Rattle.theory.specs.Answers.{unless_given, unless_refused_lem}

pub if_true : (b : Bool) (n p : ℕ) → b ≡ true → fault n p ≡ fault_if b n p
if_true b n p e = rw e

pub if_false : (b : Bool) (n p : ℕ) → b ≡ false → fine ≡ fault_if b n p
if_false b n p e = rw e

-- a number that is not 1 to m
pub outside : (n m : ℕ) → (eqb n 0 || ltb m n) ≡ not (leb 1 n && leb n m)
outside n m =
    elim (ℕ_discrete n 0) [
      | yes e ↦ rw (eq-eqb n 0 e, lt-leb 1 n (omega arith))
      | no u ↦ elim (dec_lt m n) [
        | yes l ↦ rw (ne_eqb n 0 u, lt-ltb m n l, lt-leb n m l, le-leb 1 n (omega arith))
        | no h ↦ rw (ne_eqb n 0 u, le-ltb m n (omega arith), le-leb n m (omega arith), le-leb 1 n (omega arith))
      ]
    ]

module _ {n p : ℕ} where
  -- the first fault of two
  pub or_fault : (f g : Fault) → f ≡ fault n p → (f or_else g) ≡ fault n p
  or_fault f g e = rw e

  -- a refusal was this fault, and of a value that was given there was none
  pub fault_of_lem : {A : Type 0} (f : Fault) (a : A) → refused n p ≡ unless f a → fault n p ≡ f
  fault_of_lem f a e = sym (unless_refused_lem f a n p (sym e))

pub none_of : {A : Type 0} (f : Fault) (a v : A) → given v ≡ unless f a → fine ≡ f
none_of f a v e = sym (unless_given f a v (sym e)).0

-- the second of two, where the first is fine
pub or_fine : (f g : Fault) → f ≡ fine → (f or_else g) ≡ g
or_fine f g e = rw e

-- no fault: the value, and the buffer as it is to be
pub given_by : {A : Type 0} (f : Fault) (a : A) → f ≡ fine → given a ≡ unless f a
given_by f a e = rw e

-- ---- a constructor answers the value, or refuses it: which of the two says whether the value keeps its rule

module _ {A : Type 0} (t : Bool) (a : A) (n p : ℕ) where
  pub keeps : (v : A) → given v ≡ cond t (given a) (refused n p) → (t ≡ true) × (v ≡ a)
  keeps v e = go t e
    where
      go : (x : Bool) → given v ≡ cond x (given a) (refused n p) → (x ≡ true) × (v ≡ a)
      go true q = (refl, cc)
      go false q = let z : ◌≡◌ {A = ℕ} 0 1 = cc in absurd (omega arith)

  pub breaks : (m q : ℕ) → refused m q ≡ cond t (given a) (refused n p) → t ≡ false
  breaks m q e = go t e
    where
      go : (x : Bool) → refused m q ≡ cond x (given a) (refused n p) → x ≡ false
      go true f = let z : ◌≡◌ {A = ℕ} 0 1 = cc in absurd (omega arith)
      go false f = refl

-- ---- the lowest index at which a test passes, or a rule breaks

module _ (number : ℕ) (test : ℕ → Bool) (n : ℕ) where
  pub found_at : (i : ℕ) → i < n → ((k : ℕ) → k < i → test k ≡ false) → test i ≡ true → fault number i ≡ fault_at number (first test n)
  found_at i l passed_over here = ap (fault_at number) (sym (some_first test n i l here passed_over))

  pub found_nowhere : ((k : ℕ) → k < n → test k ≡ false) → fine ≡ fault_at number (first test n)
  found_nowhere passed_over = ap (fault_at number) (sym (none_first test n passed_over))

module _ (number : ℕ) (rule : ℕ → Bool) (n : ℕ) where
  pub breaks_at_lem : (i : ℕ) → i < n → ((k : ℕ) → k < i → rule k ≡ true) → rule i ≡ false → fault number i ≡ fault_at number (first (λ k. not (rule k)) n)
  breaks_at_lem i l kept broken = found_at number (λ k. not (rule k)) n i l (λ k h. ap not (kept k h)) (ap not broken)

  pub breaks_nowhere : ((k : ℕ) → k < n → rule k ≡ true) → fine ≡ fault_at number (first (λ k. not (rule k)) n)
  breaks_nowhere kept = found_nowhere number (λ k. not (rule k)) n (λ k h. ap not (kept k h))

pub or_assoc : (f g h : Fault) → ((f or_else g) or_else h) ≡ (f or_else g or_else h)
or_assoc fine g h = refl
or_assoc (fault n p) g h = refl

-- ---- `?`: a check that refuses ends the checks, and one that passes leaves them to the next

pub stopped : {n p : ℕ} {f : Fault} (g : Fault) → fault n p ≡ f → fault n p ≡ (f or_else g)
stopped g e = rw (← e)

pub passed : {h f g : Fault} → fine ≡ f → h ≡ g → h ≡ (f or_else g)
passed {h} e k = rw (← e) k

pub refused_there : {A : Type 0} {n p : ℕ} {f : Fault} (a : A) → fault n p ≡ f → refused n p ≡ unless f a
refused_there a e = rw (← e)

pub given_there : {A : Type 0} {f : Fault} (a : A) → fine ≡ f → given a ≡ unless f a
given_there a e = rw (← e)

pub kept_there : {A : Type 0} {n p : ℕ} {f : Fault} (new old : List A) → fault n p ≡ f → old ≡ unless_kept f new old
kept_there new old e = rw (← e)

pub written_there : {A : Type 0} {f : Fault} (new old : List A) → fine ≡ f → new ≡ unless_kept f new old
written_there new old e = rw (← e)

-- what an answer is by: checks one after the other, then the value, and the lent memory
pub ruleset answered = (stopped, passed, refused_there, given_there, kept_there, written_there)
