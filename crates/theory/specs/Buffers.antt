-- Laws of a lent buffer with a list written at its front, or after its first numbers, and of one that begins with a list
use Rattle.std.specs.Prelude.{◌≡◌, refl, true, List, [], ◌∷◌, ◌++◌, ℕ, suc, ◌+◌, ◌≤◌, ◌<◌, eqb, length, get_or, set, take, drop}
use Rattle.std.proofs.Math.Path.{sym}
use Rattle.std.proofs.Common.{ap, ◌∙◌, append_assoc, append-nil, add-one, arith, length-set, length-append, length-drop, take-append-drop, drop-cons, take-suc-set, eqb-true, eq-eqb}
use Rattle.std.proofs.lemmas.Bool.{false≢true}
use Rattle.std.proofs.Math.ListN.{get_or-append}
use Rattle.std.proofs.Math.Seq.{set-append_seam, take-append_seam, length-take-le}
use Rattle.scope.specs.Numbers.{written}
use Rattle.scope.specs.Summary.{begins}
use Rattle.theory.specs.Numbers.{and_both, both_and}

pub written_none : {A : Type 0} (d : List A) → written [] d ≡ d
unfolding written
written_none d = refl

-- the buffer keeps its length
pub length_written : {A : Type 0} (l d : List A) → length l ≤ length d → length (written l d) ≡ length d
unfolding written
length_written l d h = simp (length-append, length-drop) (omega arith)

-- one more, stored just after the list
pub written_more : {A : Type 0} (l d : List A) (a : A) → length l < length d → set (written l d) (length l) a ≡ written (l ++ (a ∷ [])) d
unfolding written
written_more l d a h = rw (drop-cons d (length l) a h, set-append_seam, length-append, append_assoc, add-one)

-- the list stands at its front
pub written_at : (l d : List ℕ) (j : ℕ) → j < length l → get_or (written l d) j 0 ≡ get_or l j 0
unfolding written
written_at l d j h = get_or-append l (drop (length l) d) 0 j h

pub take_written : (l d : List ℕ) → take (length l) (written l d) ≡ l
unfolding written
take_written l d = take-append_seam l (drop (length l) d)

-- ---- a buffer d with a list written after its first numbers

abbrev pub written_after : ℕ → List ℕ → List ℕ → List ℕ
written_after from d l = written (take from d ++ l) d

module _ (from : ℕ) (d : List ℕ) (h : from ≤ length d) where
  pub after_none : d ≡ written_after from d []
  unfolding written
  after_none = rw (append-nil (take from d), length-take-le from d h) (sym (take-append-drop from d))

  pub after_more : (l out : List ℕ) (at a : ℕ) → at ≡ from + length l → at < length d → out ≡ written_after from d l → set out at a ≡ written_after from d (l ++ (a ∷ []))
  after_more l out at a e m is =
      let z : length (take from d ++ l) ≡ at = omega (arith, length-append (take from d) l, length-take-le from d h) in
      let u : length (take from d ++ l) < length d = omega arith in
      ap (λ (o : List ℕ). set o at a) is ∙ ap (λ (n : ℕ). set (written_after from d l) n a) (sym z) ∙ written_more (take from d ++ l) d a u
      ∙ ap (λ (x : List ℕ). written x d) (append_assoc (take from d) l (a ∷ []))

-- ---- memory that begins with a list

-- the list, and whatever follows it
pub begins_front : (l m : List ℕ) → begins l m ≡ true → m ≡ l ++ drop (length l) m
unfolding begins
begins_front [] m e = refl
begins_front (x ∷ l) [] e = absurd (false≢true e)
begins_front (x ∷ l) (y ∷ m) e =
    let p = and_both (eqb x y) (begins l m) e in
    ap (λ (k : List ℕ). y ∷ k) (begins_front l m p.1) ∙ ap (λ (z : ℕ). z ∷ (l ++ drop (length l) m)) (sym (eqb-true x y p.0))

pub append_begins : (l rest : List ℕ) → begins l (l ++ rest) ≡ true
unfolding begins
append_begins [] rest = refl
append_begins (x ∷ l) rest = both_and (eq-eqb x x refl) (append_begins l rest)

module _ (l m : List ℕ) where
  pub begins_length : begins l m ≡ true → length l ≤ length m
  begins_length e = omega (arith, ap length (begins_front l m e), length-append l (drop (length l) m))

  pub begins_at : begins l m ≡ true → (i : ℕ) → i < length l → get_or m i 0 ≡ get_or l i 0
  begins_at e i h = ap (λ (k : List ℕ). get_or k i 0) (begins_front l m e) ∙ get_or-append l (drop (length l) m) 0 i h

  -- a list written to where it already stands changes nothing
  pub begins_written : begins l m ≡ true → written l m ≡ m
  unfolding written
  begins_written e = sym (begins_front l m e)

  -- and where it is written it stands
  pub written_begins : begins l (written l m) ≡ true
  unfolding written
  written_begins = append_begins l (drop (length l) m)

-- ---- three numbers more at the end of what is written

one_more : (l : List ℕ) (n m a : ℕ) → m ≡ suc n → n < length l → take m (set l n a) ≡ take n l ++ (a ∷ [])
one_more l n m a e h = rw e (take-suc-set l n a h)

pub three_more : (l : List ℕ) (n a b c : ℕ) → n + 2 < length l →
    take (n + 3) (set (set (set l n a) (n + 1) b) (n + 2) c) ≡ take n l ++ (a ∷ b ∷ c ∷ [])
three_more l n a b c h =
    let l₁ = set l n a in
    let l₂ = set l₁ (n + 1) b in
    let e₁ : length l₁ ≡ length l = length-set l n a in
    let e₂ : length l₂ ≡ length l₁ = length-set l₁ (n + 1) b in
    one_more l₂ (n + 2) (n + 3) c (omega arith) (omega arith)
    ∙ ap (λ (m : List ℕ). m ++ (c ∷ []))
    (one_more l₁ (n + 1) (n + 2) b (omega arith) (omega arith) ∙ ap (λ (m : List ℕ). m ++ (b ∷ [])) (one_more l n (n + 1) a (omega arith) (omega arith)))
    ∙ rw (append_assoc, append_assoc)
