-- Several numbers of a plan file one after the other: read at an offset, and written
use Rattle.std.specs.Prelude.{◌≡◌, take}
use Rattle.std.proofs.Math.Path.{refl, ap}
use Rattle.std.proofs.Common.{sym, ◌∙◌, arith, add-zero, add_assoc, drop-drop}
use mathlib.Core.List.{List, [], ◌∷◌, ◌++◌, append_assoc}
use Prim.Native.Nat.{ℕ, zero, suc, ◌+◌, ◌*◌, ◌≤◌, ◌<◌}
use Rattle.std.proofs.Math.Decide.{dec_lt}
use Rattle.std.proofs.Math.ListN.{length, get_or, drop, length-append, get_or-append}
use Rattle.std.proofs.Math.Seq.{take-suc, take-length, split_at, drop-append_seam}
use Rattle.std.proofs.lemmas.List.{get_or_at}
use Rattle.scope.specs.Limits.{most_number}
use Rattle.scope.specs.Plan.{Read, Read.read, Read.bad, and_read, read_number, read_numbers, number_bytes, numbers_bytes}
use Rattle.theory.specs.Writing.{numbers_append, numbers_more}
use Rattle.theory.specs.Seven.{UpTo, bad_not_read, number_most, number_next, number_ahead, written_number, first_number}

-- ---- reading

module _ (bytes : List ℕ) (at : ℕ) where
  -- what holds of no number at first, and of one number more after those of which it holds, holds of all numbers that are read
  pub numbers_all : (Q : ℕ → List ℕ → ℕ → Type 0) → Q 0 [] at →
      ((n : ℕ) (l : List ℕ) (mid v next : ℕ) → read_number bytes mid ≡ read v next → Q n l mid → Q (suc n) (l ++ (v ∷ [])) next) →
      (n : ℕ) (l : List ℕ) (next : ℕ) → read_numbers bytes n at ≡ read l next → Q n l next
  unfolding read_numbers
  numbers_all Q none more zero l next e = let z : [] ≡ l = cc in let y : at ≡ next = cc in rw (← z, ← y) none
  numbers_all Q none more (suc n) l next e = front (read_numbers bytes n at) refl e (numbers_all Q none more n)
    where
      one : (f : List ℕ) (mid : ℕ) → Q n f mid → (r : Read ℕ) → read_number bytes mid ≡ r →
          and_read r (λ v after. read (f ++ (v ∷ [])) after) ≡ read l next → Q (suc n) l next
      one f mid q (read v after) g p =
          let z : f ++ (v ∷ []) ≡ l = cc in
          let y : after ≡ next = cc in
          rw (← z, ← y) (more n f mid v after g q)
      one f mid q (bad b) g p = absurd (bad_not_read p)

      front : (r : Read (List ℕ)) → read_numbers bytes n at ≡ r →
          and_read r (λ f mid. and_read (read_number bytes mid) (λ v after. read (f ++ (v ∷ [])) after)) ≡ read l next →
          ((f : List ℕ) (mid : ℕ) → read_numbers bytes n at ≡ read f mid → Q n f mid) → Q (suc n) l next
      front (read f mid) g p ih = one f mid (ih f mid g) (read_number bytes mid) refl p
      front (bad b) g p ih = absurd (bad_not_read p)

  -- as many as were asked for, of at most five bytes each, all within the file
  pub numbers_next : (n : ℕ) (l : List ℕ) (next : ℕ) → read_numbers bytes n at ≡ read l next →
      (length l ≡ n) × (at ≤ next) × (next ≤ at + 5 * n) × (at ≤ length bytes → next ≤ length bytes)
  numbers_next =
      numbers_all (λ n l next. (length l ≡ n) × (at ≤ next) × (next ≤ at + 5 * n) × (at ≤ length bytes → next ≤ length bytes))
      (refl, omega arith, omega arith, λ h. h)
      (λ n l mid v next e q.
      let s = number_next bytes mid v next e in (
        omega (arith, length-append l (v ∷ []), q.0),
        omega (arith, s.0, q.1),
        omega (arith, s.1, q.2),
        λ h. s.2,
      ))

  pub numbers_most : (n : ℕ) (l : List ℕ) (next : ℕ) → read_numbers bytes n at ≡ read l next → UpTo most_number l
  numbers_most =
      numbers_all (λ n l next. UpTo most_number l)
      (λ i h. absurd (omega arith))
      (λ n l mid v next e q i h.
      elim (dec_lt i (length l)) [
        | yes k ↦ rw (get_or-append l (v ∷ []) 0 i k) (q i k)
        | no k ↦ rw (get_or_at l v [] 0 i (omega (arith, length-append l (v ∷ [])))) (number_most bytes mid v next e)
      ])

  -- the rest of the file from at on is the numbers written, and then the rest from next on
  pub numbers_ahead : UpTo 255 bytes → (n : ℕ) (l : List ℕ) (next : ℕ) → read_numbers bytes n at ≡ read l next →
      drop at bytes ≡ numbers_bytes l ++ drop next bytes
  unfolding numbers_bytes
  numbers_ahead u =
      numbers_all (λ n l next. drop at bytes ≡ numbers_bytes l ++ drop next bytes)
      refl
      (λ n l mid v next e q. rw (q, number_ahead bytes mid v next e u, numbers_more l v, append_assoc))

-- ---- writing

-- x stands at an offset, and then y: y stands past x
pub drop_past : (bytes x y : List ℕ) (at : ℕ) → drop at bytes ≡ x ++ y → drop (at + length x) bytes ≡ y
drop_past bytes x y at e = sym (drop-drop (length x) at bytes) ∙ ap (drop (length x)) e ∙ drop-append_seam x y

-- numbers that stand written at an offset are read there
module _ (bytes rest l : List ℕ) (at : ℕ) (u : UpTo most_number l) (e : drop at bytes ≡ numbers_bytes l ++ rest) where
  split_numbers : (n : ℕ) → n < length l →
      numbers_bytes l ≡ numbers_bytes (take n l) ++ (number_bytes (get_or l n 0) ++ numbers_bytes (drop (suc n) l))
  unfolding numbers_bytes
  split_numbers n h = ap numbers_bytes (split_at l n 0 h) ∙ numbers_append (take n l) (get_or l n 0 ∷ drop (suc n) l)

  written_prefix : (n : ℕ) → n ≤ length l → read_numbers bytes n at ≡ read (take n l) (at + length (numbers_bytes (take n l)))
  unfolding read_numbers numbers_bytes
  written_prefix zero h = rw (add-zero at)
  written_prefix (suc n) h =
      let v = get_or l n 0 in
      let w = numbers_bytes (take n l) in
      let more = number_bytes v ++ (numbers_bytes (drop (suc n) l) ++ rest) in
      let s : drop at bytes ≡ w ++ more = e ∙ rw (split_numbers n (omega arith), append_assoc, append_assoc) in
      let r = written_number bytes (numbers_bytes (drop (suc n) l) ++ rest) (at + length w) v (u n (omega arith)) (drop_past bytes w more at s) in
      rw (written_prefix n (omega arith), r, take-suc l n 0 (omega arith), numbers_more (take n l) v, length-append, add_assoc)

  pub written_numbers : read_numbers bytes (length l) at ≡ read l (at + length (numbers_bytes l))
  written_numbers = rw (take-length l) at (written_prefix (length l) (omega arith))

-- ---- the first k bytes

and_read_same : {A B : Type 0} (x : Read A) (f g : A → ℕ → Read B) → ((a : A) (next : ℕ) → x ≡ read a next → f a next ≡ g a next) →
    and_read x f ≡ and_read x g
and_read_same (read a next) f g h = h a next refl
and_read_same (bad b) f g h = refl

-- reading n numbers looks at 5 * n bytes at most
pub first_numbers : (bytes : List ℕ) (at k n : ℕ) → at + 5 * n ≤ k → read_numbers (take k bytes) n at ≡ read_numbers bytes n at
unfolding read_numbers
first_numbers bytes at k zero h = refl
first_numbers bytes at k (suc n) h =
    rw (first_numbers bytes at k n (omega arith))
    (and_read_same (read_numbers bytes n at) _ _ (λ l next e. rw (first_number bytes next k (omega (arith, (numbers_next bytes at n l next e).2)))))
