-- Document 02, request 5: which lists of windows are refused for a sliver, at which place, and that a smaller shortest window refuses no more
use Rattle.std.specs.Prelude.{◌≡◌, Bool, ◌||◌, ◌⊎◌, ◌↔◌, List, ℕ, ◌-◌, ◌≤◌, ◌<◌, length}
use Rattle.std.proofs.Math.Path.{refl}
use Rattle.std.proofs.Common.{sym, ap, arith}
use Rattle.std.proofs.Math.Bool.{true, false, or-true}
use Rattle.std.proofs.Math.Logic.{inl, inr}
use Rattle.std.proofs.Math.Option.{Option, none, some}
use Rattle.std.proofs.Math.Dec.{ltb, eqb}
use borrow.Author.Tests.{ltb-true, ltb-false, lt-ltb, le-ltb, eqb-true, eqb-false, eq-eqb, ne_eqb}
use Rattle.scope.specs.Numbers.{first, IsFirst}
use Rattle.scope.specs.Limits.{most_shortest}
use Rattle.scope.specs.Windows.{Board}
use Rattle.scope.specs.Answers.{Fault.fine, Fault.fault, fault_if, fault_at, ◌or_else◌, shortest_fault}
use Rattle.scope.specs.Shared.{owned_of, owned_at, whole_fault, sliver, first_sliver, sliver_fault}
use Rattle.theory.specs.Numbers.{or_neither, least_is, first_none, none_first, first_some}
use Rattle.theory.specs.Answers.{fault_not_fine, fault_if_fine, fault_at_fine, or_else_fine}
use Rattle.theory.specs.Shared.{start_at, end_at, whole}

-- the ticks of window i
abbrev pub ticks_at : List ℕ → ℕ → ℕ
ticks_at ws i = end_at (owned_of ws) i - start_at (owned_of ws) i

module _ (b : Board) (ws : List ℕ) where
  abbrev windows : ℕ
  windows = length (owned_of ws)

  abbrev short : ℕ → Bool
  short i = sliver b (owned_at (owned_of ws) i)

  -- m is out of its range
  abbrev pub OutOfRange : Type 0
  OutOfRange = (b.shortest ≡ 0) ⊎ (most_shortest < b.shortest)

  -- m is in its range, and window i is the first that is shorter
  pub record ShorterAt (i : ℕ) : Type 0 where
    pub least : 1 ≤ b.shortest
    pub most : b.shortest ≤ most_shortest
    pub there : i < length (owned_of ws)
    pub shorter : ticks_at ws i < b.shortest
    pub before : (j : ℕ) → j < i → b.shortest ≤ ticks_at ws j

  -- m is in its range, and no window is shorter
  pub record Long : Type 0 where
    pub least : 1 ≤ b.shortest
    pub most : b.shortest ≤ most_shortest
    pub all : (i : ℕ) → i < length (owned_of ws) → b.shortest ≤ ticks_at ws i

  in_range : shortest_fault b ≡ fine → (1 ≤ b.shortest) × (b.shortest ≤ most_shortest)
  unfolding shortest_fault
  in_range e =
      let l = or_neither (eqb b.shortest 0) (ltb most_shortest b.shortest) (fault_if_fine _ 12 64 e) in
      (omega (arith, eqb-false b.shortest 0 l.0), ltb-false most_shortest b.shortest l.1)

  range_fine : 1 ≤ b.shortest → b.shortest ≤ most_shortest → shortest_fault b ≡ fine
  unfolding shortest_fault
  range_fine l m = rw (ne_eqb b.shortest 0 (λ z. omega arith), le-ltb most_shortest b.shortest m)

  range_fault : OutOfRange → shortest_fault b ≡ fault 12 64
  unfolding shortest_fault
  range_fault (inl z) = rw (eq-eqb b.shortest 0 z)
  range_fault (inr l) = rw (lt-ltb most_shortest b.shortest l, or-true (eqb b.shortest 0))

  ranged : (shortest_fault b ≡ fine) ⊎ OutOfRange
  unfolding shortest_fault
  ranged = go (eqb b.shortest 0) (ltb most_shortest b.shortest) refl refl
    where
      go : (t u : Bool) → eqb b.shortest 0 ≡ t → ltb most_shortest b.shortest ≡ u → (fault_if (t || u) 12 64 ≡ fine) ⊎ OutOfRange
      go true u z w = inr (inl (eqb-true b.shortest 0 z))
      go false true z w = inr (inr (ltb-true most_shortest b.shortest w))
      go false false z w = inl refl

  pub long : sliver_fault b ws ≡ fine → Long
  unfolding sliver_fault first_sliver sliver
  long e =
      let p = or_else_fine (shortest_fault b) (fault_at 12 (first short windows)) e in
      let r = in_range p.0 in
      record {
        least = r.0;
        most = r.1;
        all = λ i h. ltb-false (ticks_at ws i) b.shortest (first_none short windows (fault_at_fine 12 (first short windows) p.1) i h);
      }

  pub long_fine : Long → sliver_fault b ws ≡ fine
  unfolding sliver_fault first_sliver sliver
  long_fine l =
      rw (
        range_fine l.least l.most,
        none_first short windows (λ i h. le-ltb (ticks_at ws i) b.shortest (l.all i h)),
      )

  -- 12 is given exactly when m is out of its range, at place 64, or else some window is shorter than m, at the lowest index
  abbrev pub Sliver : ℕ → Type 0
  Sliver p = (OutOfRange × (p ≡ 64)) ⊎ ShorterAt p

  pub sliver_exactly : (p : ℕ) → (sliver_fault b ws ≡ fault 12 p) ↔ Sliver p
  unfolding sliver_fault first_sliver sliver
  sliver_exactly p = (only, so)
    where
      windowed : (o : Option ℕ) → first short windows ≡ o → fault_at 12 o ≡ fault 12 p → shortest_fault b ≡ fine → ShorterAt p
      windowed none f e r = absurd (fault_not_fine (sym e))
      windowed (some i) f e r =
          let z : i ≡ p = cc in
          let s = first_some short windows i f in
          let l = in_range r in
          rw (← z) (record {
            least = l.0;
            most = l.1;
            there = s.0;
            shorter = ltb-true (ticks_at ws i) b.shortest s.1;
            before = λ j h. ltb-false (ticks_at ws j) b.shortest (s.2 j h);
          })

      only : (shortest_fault b or_else fault_at 12 (first short windows)) ≡ fault 12 p → (OutOfRange × (p ≡ 64)) ⊎ ShorterAt p
      only e = elim ranged [
        | inl r ↦ inr (windowed (first short windows) refl (rw r at e) r)
        | inr o ↦ inl (o, (let z : fault 12 64 ≡ fault 12 p = rw (range_fault o) at e in cc))
      ]

      so : (OutOfRange × (p ≡ 64)) ⊎ ShorterAt p → (shortest_fault b or_else fault_at 12 (first short windows)) ≡ fault 12 p
      so (inl (o, z)) = rw (range_fault o, z)
      so (inr s) = rw (range_fine s.least s.most) (ap (fault_at 12) (at (first short windows) (least_is short windows)))
        where
          at : (o : Option ℕ) → IsFirst short (λ i. i) windows o → o ≡ some p
          at none h = absurd (h p s.there (lt-ltb (ticks_at ws p) b.shortest s.shorter))
          at (some c) h =
              let l : c ≤ p = h.2 p s.there (lt-ltb (ticks_at ws p) b.shortest s.shorter) in
              let g : (c < p → ⊥) = λ u. omega (arith, ltb-true (ticks_at ws c) b.shortest h.1, s.before c u) in
              ap some (omega arith)

  -- a fault of it is a 12
  pub sliver_twelve : (n p : ℕ) → sliver_fault b ws ≡ fault n p → n ≡ 12
  unfolding sliver_fault shortest_fault
  sliver_twelve n p = go (eqb b.shortest 0 || ltb most_shortest b.shortest) (first_sliver b (owned_of ws))
    where
      go : (t : Bool) (o : Option ℕ) → (fault_if t 12 64 or_else fault_at 12 o) ≡ fault n p → n ≡ 12
      go true o e = cc
      go false none e = absurd (fault_not_fine (sym e))
      go false (some i) e = cc

  -- the place is that of a window of the whole list, or 64
  pub sliver_place : (p : ℕ) → sliver_fault b ws ≡ fault 12 p → (p ≡ 64) ⊎ (p < length (owned_of ws))
  sliver_place p e = elim ((sliver_exactly p).0 e) [ inl o ↦ inl o.1 | inr s ↦ inr s.there ]

-- m = 1 refuses nothing: a window that is not empty has a tick
pub one_tick : (owners : ℕ) (b : Board) (ws : List ℕ) → b.shortest ≡ 1 → whole_fault owners b ws ≡ fine → sliver_fault b ws ≡ fine
one_tick owners b ws one e =
    let r = (whole owners b ws e).ruled in
    long_fine b ws (record {
      least = omega arith;
      most = omega arith;
      all = λ i h. omega (arith, (r.fits i h).0);
    })

-- nor does a smaller m from 1 on refuse what a greater one does not
pub smaller_fine : (b c : Board) (ws : List ℕ) → 1 ≤ c.shortest → c.shortest ≤ b.shortest → sliver_fault b ws ≡ fine → sliver_fault c ws ≡ fine
smaller_fine b c ws least less e =
    let l = long b ws e in
    long_fine c ws (record {
      least = least;
      most = omega (arith, l.most);
      all = λ i h. omega (arith, l.all i h);
    })
