-- A summary as the code makes it, and holds it against numbers
use mathlib.Core.Path.{◌≡◌, refl, sym, ◌∙◌}
use mathlib.Core.Bool.{Bool, true, false, ◌&&◌, and-false}
use mathlib.Core.List.{List, [], ◌∷◌, ◌++◌}
use Prim.Native.Nat.{ℕ, ◌+◌, ◌-◌, ◌/◌, ◌≤◌, ◌<◌}
use lib.Dec.{eqb}
use native.Mathlib.Omega.{arith}
use lib.Seq.{take-length}
use lib.ListN.{length, get_or, take, drop}
use Rattle.scope.specs.Numbers.{written}
use Rattle.scope.specs.Ticks.{per_frame}
use Rattle.scope.specs.Windows.{Board, supplied_by}
use Rattle.scope.specs.Answers.{critical_of}
use Rattle.scope.specs.Summary.{summary_of, begins}
use Rattle.supply.specs.declared.partition.Measure.{Measure}
use Rattle.supply.specs.Measures.{Measured}

-- ---- making

-- three numbers, and the rest after them
module _ {b : Board} {ws held : List ℕ} {m : Measure} (so : Measured b ws held m) where
  pub made : (o : List ℕ) {head : List ℕ} → 3 ≤ length o → head ≡ m.whole ∷ m.delay ∷ (m.numbers / 2) ∷ [] →
      head ++ written (critical_of b ws) (drop 3 o) ≡ written (summary_of b ws) o
  unfolding summary_of written
  made [] h e = absurd (omega arith)
  made (x ∷ []) h e = absurd (omega arith)
  made (x ∷ y ∷ []) h e = absurd (omega arith)
  made (x ∷ y ∷ z ∷ o) h e = rw (e, so.whole, so.delay, so.numbers) refl

pub summary_numbers : (b : Board) (ws : List ℕ) → length (summary_of b ws) ≡ length (critical_of b ws) + 3
unfolding summary_of
summary_numbers b ws = omega arith

-- ---- belonging

-- less than three numbers are no summary
pub begins_short : (b : Board) (ws s : List ℕ) → length s < 3 → false ≡ begins (summary_of b ws) s
unfolding summary_of begins
begins_short b ws [] h = refl
begins_short b ws (x ∷ []) h = rw and-false
begins_short b ws (x ∷ y ∷ []) h = rw (and-false, and-false)
begins_short b ws (x ∷ y ∷ z ∷ s) h = absurd (omega arith)

-- three numbers and the rest are held against those of a fresh making
module _ {b : Board} {ws : List ℕ} {m : Measure} where
  begins_is : (s : List ℕ) → 3 ≤ length s → Measured b ws (take (length s - 3) (drop 3 s)) m →
      begins (summary_of b ws) s ≡ ((eqb m.whole (get_or s 0 0) && (eqb m.delay (get_or s 1 0) && (eqb (m.numbers / 2) (get_or s 2 0) && true))) && m.same)
  unfolding summary_of begins
  begins_is [] h so = absurd (omega arith)
  begins_is (x ∷ []) h so = absurd (omega arith)
  begins_is (x ∷ y ∷ []) h so = absurd (omega arith)
  begins_is (x ∷ y ∷ z ∷ l) h so =
      let n : length (x ∷ y ∷ z ∷ l) - 3 ≡ length l = omega arith in
      let same : m.same ≡ begins (critical_of b ws) l = rw (n, take-length) at so.same in
      rw (so.whole, so.delay, so.numbers, same) (regroup (eqb (per_frame (supplied_by b ws) b.frame) x) _ _ _)
    where
      regroup : (p q r t : Bool) → (p && (q && (r && t))) ≡ ((p && (q && (r && true))) && t)
      regroup true true true t = refl
      regroup true true false t = refl
      regroup true false r t = refl
      regroup false q r t = refl

  module _ (s : List ℕ) (h : 3 ≤ length s) (so : Measured b ws (take (length s - 3) (drop 3 s)) m) where
    pub begins_then : true ≡ (eqb m.whole (get_or s 0 0) && (eqb m.delay (get_or s 1 0) && (eqb (m.numbers / 2) (get_or s 2 0) && true))) →
        m.same ≡ begins (summary_of b ws) s
    begins_then e = sym (begins_is s h so ∙ rw (← e))

    pub begins_else : false ≡ (eqb m.whole (get_or s 0 0) && (eqb m.delay (get_or s 1 0) && (eqb (m.numbers / 2) (get_or s 2 0) && true))) →
        false ≡ begins (summary_of b ws) s
    begins_else e = sym (begins_is s h so ∙ rw (← e))

-- what begins with a summary
pub ruleset begun = (begins_short, begins_then, begins_else)
