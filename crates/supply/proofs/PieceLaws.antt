-- What lies ahead of a length, start by start where a window ends, and the piece that is foreseen
use mathlib.Core.Path.{◌≡◌, ap}
use mathlib.Core.Bool.{Bool, true, false}
use mathlib.Core.List.{List}
use Prim.Native.Nat.{ℕ, ◌+◌, ◌-◌, ◌/◌, ◌≤◌, ◌<◌}
use native.Mathlib.Omega.{arith}
use native.Mathlib.Nat.{add_assoc}
use native.Mathlib.Numerals.{add-one}
use native.Mathlib.Decide.{ℕ_discrete, dec_lt}
use lib.ListN.{length}
use borrow.Author.Tests.{lt-ltb, le-ltb, eq-eqb, ne_eqb}
use Rattle.scope.specs.Numbers.{when}
use Rattle.scope.specs.Ticks.{supply, least_supply}
use Rattle.scope.specs.Windows.{Board, supplied_by}
use Rattle.theory.specs.Answers.{LegalTable}
use Rattle.theory.specs.Ticks.{supply_le, supply_up, least_over_all_starts}
use Rattle.theory.specs.Rows.{end_of, table_row, supply_between, ends_enough, position_in, position_before}
use Rattle.theory.specs.Pieces as pieces
use Rattle.theory.specs.Pieces.{ahead_on, ahead_off, ahead_still, piece_up, piece_flat}
use Rattle.supply.specs.declared.row.Position.{Position}
use Rattle.supply.specs.declared.row.Ticks.{Ticks}
use Rattle.supply.specs.declared.row.Ticks.TheVariants.{On, Off}
use Rattle.supply.specs.declared.pieces.Ahead.{Ahead}
use Rattle.supply.specs.Positions.{opens, closes, ticks_from, Behind}
use Rattle.supply.specs.Ahead.{far_of, joined_of, Foreseen, Told}

abbrev on_of : Ticks → Bool
on_of (On far) = true
on_of (Off far) = false

module _ (b : Board) (ws : List ℕ) where
  abbrev σ : ℕ → Bool
  σ = supplied_by b ws

  abbrev P : ℕ
  P = b.frame

  -- so many ticks from x on are all supplied or all unsupplied
  pub record After (x : ℕ) (k : Ticks) : Type 0 where
    pub some : 0 < far_of k
    pub same : (y : ℕ) → y ≤ far_of k → supply σ 0 (x + y) ≡ supply σ 0 x + when (on_of k) y

  -- so are those up to the next edge, from the position of x
  pub ticks_alike : (p : Position) (x : ℕ) → Behind b ws p x → x < closes ws p → After x (ticks_from ws p x)
  unfolding ticks_from
  ticks_alike p x h l =
      let s = h.stands in
      let row = table_row b ws s.legal in
      let gap : (z : ℕ) → x ≤ z → z ≤ opens ws p → supply σ 0 z ≡ p.before = λ z u v.
      position_before _ _ _ _ _ row p.index p.base p.before s.at z (omega (arith, h.fewer, supply_up σ 0 x z u)) v in
      let inside : (z : ℕ) → opens ws p ≤ z → z ≤ closes ws p → supply σ 0 z ≡ p.before + (z - opens ws p) = λ z u v.
      position_in _ _ _ _ _ row p.index p.base p.before s.at z u v in
      elim (dec_lt x (opens ws p)) [
        | yes u ↦ rw (lt-ltb x (opens ws p) u)
            (record { some = omega arith; same = λ y m. omega (arith, gap x (omega arith) (omega arith), gap (x + y) (omega arith) (omega arith)) })
        | no u ↦ rw (le-ltb x (opens ws p) (omega arith))
            (record { some = omega arith; same = λ y m. omega (arith, inside x (omega arith) (omega arith), inside (x + y) (omega arith) (omega arith)) })
      ]

  -- as the code has read them from the position of the end of a stretch
  module _ (from t : ℕ) {q : Position} (at : Behind b ws q (from + t) × (from + t < closes ws q)) {k : Ticks} (read : k ≡ ticks_from ws q (from + t)) where
    pub ticks_here : After (from + t) k
    ticks_here = rw read (ticks_alike q (from + t) at.0 at.1)

    -- they are not many
    pub ticks_near : far_of k ≤ opens ws q + closes ws q
    unfolding ticks_from
    ticks_near =
        elim (dec_lt (from + t) (opens ws q)) [
          | yes u ↦ rw (read, lt-ltb (from + t) (opens ws q) u) (omega arith)
          | no u ↦ rw (read, le-ltb (from + t) (opens ws q) (omega arith)) (omega arith)
        ]

  -- ---- one start more

  -- its stretch is in its length, and no shorter than the least supply
  pub within_length : LegalTable b ws → (i : ℕ) {t f least : ℕ} → least ≡ least_supply σ P t → f ≡ supply σ (end_of ws i) t → (least ≤ f) × (f ≤ t)
  within_length ok i {t} low is =
      (omega (arith, low, is, least_over_all_starts σ P (table_row b ws ok).repeats (end_of ws i) t), omega (arith, is, supply_le σ (end_of ws i) t))

  module _ (ok : LegalTable b ws) {t i f least : ℕ} {a : Ahead} (low : least ≡ least_supply σ P t) (is : f ≡ supply σ (end_of ws i) t)
      (so_far : pieces.Ahead σ P (end_of ws) t i a.flat a.rise) (some : 0 < a.rise) where
    straight : (k : Ticks) → After (end_of ws i + t) k → (y : ℕ) → y ≤ far_of k → supply σ (end_of ws i) (t + y) ≡ f + when (on_of k) y
    straight k after y h =
        omega (
          arith,
          is,
          after.same y h,
          supply_between σ (end_of ws i) t,
          supply_between σ (end_of ws i) (t + y),
          ap (supply σ 0) (add_assoc (end_of ws i) t y),
        )

    -- what lies ahead then, and that it is no further
    pub record Joined (r : Ahead) : Type 0 where
      pub ahead : pieces.Ahead σ P (end_of ws) t (i + 1) r.flat r.rise
      pub rises : 0 < r.rise
      pub most : r.rise ≤ a.rise

    pub joins : (k : Ticks) → After (end_of ws i + t) k → Joined (joined_of a k (f - least))
    unfolding joined_of
    joins (On far) after =
        record {
          ahead = rw (add-one i, low) (ahead_on σ P (table_row b ws ok).repeats (end_of ws) t i a.flat a.rise far f is so_far (straight (On far) after));
          rises = omega (arith, some, after.some);
          most = omega arith;
        }
    joins (Off far) after =
        elim (ℕ_discrete (f - least) 0) [
          | yes z ↦ rw (eq-eqb (f - least) 0 z) (record {
            ahead = rw (add-one i) (ahead_still σ P (table_row b ws ok).repeats (end_of ws) t i a.flat a.rise far f is so_far after.some
                (omega (arith, z, low, within_length ok i low is)) (λ y h. omega (arith, straight (Off far) after y h)));
            rises = some;
            most = omega arith;
          })
          | no z ↦ rw (ne_eqb (f - least) 0 z) (record {
            ahead = rw (add-one i, low) (ahead_off σ P (table_row b ws ok).repeats (end_of ws) t i a.flat a.rise far f is so_far);
            rises = omega (arith, some, z);
            most = omega arith;
          })
        ]

-- ---- the piece that is foreseen

module _ {b : Board} {ws : List ℕ} {t least : ℕ} {a : Ahead} (low : least ≡ least_supply (supplied_by b ws) b.frame t) (s : Foreseen b ws t a) where
  pub least_within : least ≤ t
  least_within = omega (arith, low, least_over_all_starts _ _ (table_row b ws s.legal).repeats 0 t, supply_le (supplied_by b ws) 0 t)

  pub told_up : a.flat ≡ 0 → Told (supplied_by b ws) b.frame t (record { rising = true; end = t + a.rise; least = least + a.rise })
  told_up none =
      let row = table_row b ws s.legal in
      record {
        piece = rw low (piece_up _ _ row.repeats (end_of ws) t (length ws / 2) a.flat a.rise s.ahead
            (λ u p q. ends_enough _ _ _ _ (end_of ws) row u p q) none s.some);
        most = s.most;
      }

  pub told_flat : {n : ℕ} → 0 < n → n ≤ a.flat → t + n ≤ b.frame → Told (supplied_by b ws) b.frame t (record { rising = false; end = t + n; least = least })
  told_flat {n} some h fits =
      let row = table_row b ws s.legal in
      record { piece = rw low (piece_flat _ _ row.repeats (end_of ws) t (length ws / 2) a.flat a.rise s.ahead n some h); most = fits }
