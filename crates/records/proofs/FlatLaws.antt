-- The numbers of a group's first records, as they are written one record after the other
use mathlib.Core.Path.{◌≡◌, refl, sym, ap, ◌∙◌}
use mathlib.Core.List.{List, [], ◌∷◌, ◌++◌}
use Prim.Native.Nat.{ℕ, zero, suc, ◌+◌, ◌*◌, ◌<◌, min}
use native.Mathlib.Omega.{arith}
use native.Mathlib.Numerals.{add-one}
use native.Mathlib.Decide.{dec_le}
use lib.ListN.{length, get_or, take, set}
use lib.Seq.{take_all, take-nil}
use Rattle.theory.specs.Buffers.{three_more}
use Rattle.tables.specs.declared.task.Task.{Task}
use Rattle.records.specs.Numbers.{numbers_of, enough_records, enough_numbers}
use Rattle.records.proofs.NumberLaws.{none, numbers_length}

-- the numbers of record i, in front of others
abbrev before : Task → List ℕ → List ℕ
before y l = y.work ∷ y.period ∷ y.deadline ∷ l

numbers_next : (ys : List Task) (i : ℕ) → i < length ys → numbers_of (take (suc i) ys) ≡ numbers_of (take i ys) ++ before (get_or ys i none) []
unfolding numbers_of
numbers_next [] i h = absurd (omega arith)
numbers_next (y ∷ ys) zero h = refl
numbers_next (y ∷ ys) (suc i) h = ap (before y) (numbers_next ys i (omega arith))

-- record i is written behind the first i
pub flat_more : (ys : List Task) (i : ℕ) (l : List ℕ) → i < length ys → 3 * i + 2 < length l → take (3 * i) l ≡ numbers_of (take i ys) →
    let y = get_or ys i none in
    take (3 * (i + 1)) (set (set (set l (3 * i) y.work) (3 * i + 1) y.period) (3 * i + 2) y.deadline) ≡ numbers_of (take (i + 1) ys)
flat_more ys i l h room so =
    let y = get_or ys i none in
    let next : 3 * (i + 1) ≡ 3 * i + 3 = omega arith in
    rw next (three_more l (3 * i) y.work y.period y.deadline room ∙ ap (λ (m : List ℕ). m ++ before y []) so ∙ sym (rw (add-one i) (numbers_next ys i h)))

numbers_take : (ys : List Task) (i : ℕ) → numbers_of (take i ys) ≡ take (3 * i) (numbers_of ys)
unfolding numbers_of
numbers_take [] i = ap numbers_of (take-nil i) ∙ sym (take-nil (3 * i))
numbers_take (y ∷ ys) zero = refl
numbers_take (y ∷ ys) (suc i) =
    let e : 3 * suc i ≡ suc (suc (suc (3 * i))) = omega arith in
    rw e (ap (before y) (numbers_take ys i))

pub enough_is : (ys : List Task) (n : ℕ) → n ≡ min (length ys) enough_records → numbers_of (take n ys) ≡ take enough_numbers (numbers_of ys)
enough_is ys n e =
    let all = numbers_length ys in
    numbers_take ys n ∙ elim (dec_le enough_records (length ys)) [
      | yes l ↦ let m : 3 * n ≡ enough_numbers = omega arith in ap (λ (k : ℕ). take k (numbers_of ys)) m
      | no l ↦ take_all (3 * n) (numbers_of ys) (omega arith) ∙ sym (take_all enough_numbers (numbers_of ys) (omega arith))
    ]
