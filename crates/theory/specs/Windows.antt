-- Laws of window tables
use Rattle.std.specs.Prelude.{◌≡◌, true, false, leb, ltb, length}
use Rattle.std.proofs.Math.Path.{refl}
use Rattle.std.proofs.Common.{ap, arith}
use Rattle.std.proofs.Math.Bool.{and-false, or-true}
use mathlib.Core.List.{List, [], ◌∷◌}
use Prim.Native.Nat.{ℕ, zero, suc, ◌+◌, ◌≤◌, ◌<◌}
use Rattle.std.proofs.Math.Nat.{add-mod_right}
use borrow.Author.Tests.{ltb-true, leb-true, lt-ltb, le-ltb, le-leb, lt-leb}
use Rattle.scope.specs.Ticks.{Periodic}
use Rattle.scope.specs.Windows.{Board, Window, window_at, gives, covers, supplied}
use Rattle.theory.specs.Numbers.{and_both, both_and}

-- ---- which ticks one window gives

module _ (q : ℕ) (w : Window) (k : ℕ) where
  pub gives_in : q + w.start ≤ k → k < w.end → gives q w k ≡ true
  unfolding gives
  gives_in h l = both_and (le-leb _ _ h) (lt-ltb _ _ l)

  pub gives_when : gives q w k ≡ true → (q + w.start ≤ k) × (k < w.end)
  unfolding gives
  gives_when e = let m = and_both (leb (q + w.start) k) (ltb k w.end) e in (leb-true _ _ m.0, ltb-true _ _ m.1)

  pub gives_before : k < q + w.start → gives q w k ≡ false
  unfolding gives
  gives_before h = rw (lt-leb _ _ h)

  pub gives_after : w.end ≤ k → gives q w k ≡ false
  unfolding gives
  gives_after h = rw (le-ltb _ _ h) (and-false (leb (q + w.start) k))

-- ---- windows by their index

module _ (q : ℕ) (k : ℕ) where
  pub covers_at : (ws : List Window) (i : ℕ) → i < length ws → gives q (window_at ws i) k ≡ true → covers q ws k ≡ true
  unfolding covers
  covers_at [] i h e = absurd (omega arith)
  covers_at (w ∷ ws) zero h e = rw e
  covers_at (w ∷ ws) (suc i) h e = rw (covers_at ws i (omega arith) e) (or-true (gives q w k))

  pub covers_no : (ws : List Window) → ((i : ℕ) → i < length ws → gives q (window_at ws i) k ≡ false) → covers q ws k ≡ false
  unfolding covers
  covers_no [] h = refl
  covers_no (w ∷ ws) h = rw (h 0 (omega arith), covers_no ws (λ i u. h (suc i) (omega arith)))

-- ---- a table

-- what a table supplies repeats with its frame
pub supplied_periodic : (b : Board) (ws : List Window) → 0 < b.frame → Periodic (supplied b ws) b.frame
unfolding supplied
supplied_periodic b ws h = record { some = h; same = λ k. ap (covers b.lost ws) (add-mod_right k b.frame) }
