-- The least supply as the code finds it: one start where a window ends after the other, and by whole frames
use mathlib.Core.Path.{◌≡◌, ap, ◌∙◌}
use mathlib.Core.Bool.{Bool}
use mathlib.Core.List.{List}
use Prim.Native.Nat.{ℕ, ◌+◌, ◌-◌, ◌*◌, ◌/◌, ◌%◌, ◌≤◌, ◌<◌, min}
use native.Mathlib.Omega.{arith}
use native.Mathlib.Nat.{zero-add, mod-add-div', le_trans, le_antisymm}
use lib.ListN.{length}
use borrow.Author.Count.{below_more}
use Rattle.scope.specs.Limits.{most_frame}
use Rattle.scope.specs.Ticks.{Periodic, supply, per_frame, least_supply}
use Rattle.scope.specs.Windows.{Board, Window, windows_of, window_at, supplied_by}
use Rattle.theory.specs.Answers.{LegalTable}
use Rattle.theory.specs.Ticks.{supply_le, least_over_all_starts, least_frames}
use Rattle.theory.specs.Rows as rows
use Rattle.theory.specs.Rows.{start_of, end_of, table_row, supply_between, ends_enough, position_first}
use Rattle.theory.specs.Rows.{position_end, position_next, position_round, position_whole}
use Rattle.supply.specs.declared.row.Position.{Position}
use Rattle.supply.specs.Positions.{first, opens, closes, Behind}
use Rattle.supply.proofs.PositionLaws.{starts_at, ends_at, behind_on, behind_first, upto_is}

-- ---- by whole frames

module _ (σ : ℕ → Bool) (P : ℕ) (per : Periodic σ P) where
  -- no more than there are ticks
  pub least_at_most : (t : ℕ) → least_supply σ P t ≤ t
  least_at_most t = le_trans (least_over_all_starts σ P per 0 t) (supply_le σ 0 t)

  -- A for each whole frame, and the least supply of the rest
  pub least_split : (t : ℕ) {rest whole : ℕ} → (rest ≡ least_supply σ P (t % P)) × (whole ≡ per_frame σ P) →
      (t / P * whole + rest ≡ least_supply σ P t) × (least_supply σ P t ≤ t)
  least_split t e =
      rw (e.0, e.1) (omega (arith, ap (least_supply σ P) (mod-add-div' t P), least_frames σ P per (t / P) (t % P)), least_at_most t)

-- ---- start by start

-- what the code knows of a window whose end is tried as a start
pub record Known (b : Board) (earlier : ℕ) (w : Window) : Type 0 where
  pub order : w.start ≤ w.end
  pub inside : w.end ≤ b.frame
  pub passed : earlier + (w.end - w.start) ≤ b.frame
  pub frame_most : b.frame ≤ most_frame

module _ (b : Board) (ws : List ℕ) (ok : LegalTable b ws) (t : ℕ) where
  abbrev σ : ℕ → Bool
  σ = supplied_by b ws

  abbrev P : ℕ
  P = b.frame

  abbrev n : ℕ
  n = length ws / 2

  abbrev row : rows.Row σ P n (start_of ws) (end_of ws)
  row = table_row b ws ok

  -- the first i windows are passed: `earlier` ticks are supplied before window i, and the position is not past the end of a stretch of t ticks from there
  pub record Passed (i earlier : ℕ) (p : Position) : Type 0 where
    pub few : i ≤ n
    pub sum : i < n → rows.Position σ P n (start_of ws) (end_of ws) row i 0 earlier
    pub whole : n ≤ i → earlier ≡ per_frame σ P
    pub behind : i < n → Behind b ws p (start_of ws i + t)

  pub passed_none : (p : Position) → p ≡ first → Passed 0 0 p
  passed_none p e = record {
    few = omega arith;
    sum = λ h. position_first σ P n (start_of ws) (end_of ws) row;
    whole = λ h. absurd (omega (arith, row.some));
    behind = λ h. behind_first b ws ok p e (start_of ws 0 + t);
  }

  module _ {i earlier : ℕ} {p : Position} (so : Passed i earlier p) (h : i < n) {w : Window} (read : w ≡ window_at (windows_of ws) i) where
    starts : w.start ≡ start_of ws i
    starts = starts_at ws i w read

    ends : w.end ≡ end_of ws i
    ends = ends_at ws i w read

    abbrev before : ℕ
    before = earlier + (w.end - w.start)

    -- what is supplied before the start that is tried
    before_start : before ≡ supply σ 0 w.end
    before_start = rw (starts, ends) (position_end σ P n (start_of ws) (end_of ws) row i 0 earlier (so.sum h) ∙ ap (supply σ 0) (zero-add (end_of ws i)))

    -- where the window that is read stands
    pub known : Known b earlier w
    known = record {
      order = omega (arith, starts, ends, row.order i h);
      inside = omega (arith, ends, row.inside i h);
      passed = omega (arith, ends, row.inside i h, before_start, supply_le σ 0 w.end);
      frame_most = ok.frame_most;
    }

    -- the start that is tried, and what is supplied before it
    module _ {tick start : ℕ} (tried : (tick ≡ w.end) × (start ≡ before)) where
      pub tick_is : tick ≡ end_of ws i
      tick_is = tried.0 ∙ ends

      -- the position is not past the end of the stretch from there
      pub still_behind : Behind b ws p (tick + t)
      still_behind = behind_on b ws p (start_of ws i + t) (tick + t) (omega (arith, starts, known, tried)) (so.behind h)

      -- and when it has moved there, it tells what is supplied in the stretch
      module _ {q : Position} (at : Behind b ws q (tick + t) × (tick + t < closes ws q)) {all : ℕ} (told : all ≡ q.before + (tick + t - opens ws q)) where
        all_is : all ≡ supply σ 0 (w.end + t)
        all_is = told ∙ upto_is b ws q (tick + t) at.0 at.1 ∙ ap (λ (k : ℕ). supply σ 0 (k + t)) tried.0

        pub enough : start ≤ all
        enough = omega (arith, tried, before_start, all_is, supply_between σ w.end t)

        pub stretch_is : all - start ≡ supply σ (end_of ws i) t
        stretch_is = omega (arith, tried, before_start, all_is, supply_between σ w.end t, ap (λ (k : ℕ). supply σ k t) ends)

      pub passed_next : {q : Position} → Behind b ws q (tick + t) → Passed (i + 1) start q
      passed_next {q} at = record {
        few = omega arith;
        sum = λ u. rw (tried.1, starts, ends) (position_next σ P n (start_of ws) (end_of ws) row i 0 earlier (so.sum h) u);
        whole = λ u.
            position_whole σ P n (start_of ws) (end_of ws) row start
            (rw (tried.1, starts, ends) (position_round σ P n (start_of ws) (end_of ws) row i 0 earlier (so.sum h) u));
        behind = λ u. behind_on b ws q (tick + t) (start_of ws (i + 1) + t) (omega (arith, tried, ends, row.apart i u)) at;
      }

  -- the ends of the first i windows are tried as starts: none of them has less than `low`
  pub record Tried (i low earlier : ℕ) (p : Position) : Type 0 where
    pub passed : Passed i earlier p
    pub least : least_supply σ P t ≤ low
    pub each : (k : ℕ) → k < i → low ≤ supply σ (end_of ws k) t

  pub tried_none : (p : Position) → p ≡ first → Tried 0 t 0 p
  tried_none p e = record { passed = passed_none p e; least = least_at_most σ P row.repeats t; each = λ k h. absurd (omega arith) }

  pub tried_next : {i low earlier : ℕ} {p : Position} → Tried i low earlier p → {next : ℕ} {q : Position} → Passed (i + 1) next q →
      {f : ℕ} → f ≡ supply σ (end_of ws i) t → Tried (i + 1) (min low f) next q
  tried_next {i} {low} so at {f} is = record {
    passed = at;
    least = omega (arith, so.least, is, least_over_all_starts σ P row.repeats (end_of ws i) t);
    each = below_more (λ (k : ℕ). min low f ≤ supply σ (end_of ws k) t) i (λ k u. omega (arith, so.each k u)) (omega (arith, is));
  }

  -- all are tried
  pub all_tried : {low i earlier : ℕ} {p : Position} → n ≤ i → Tried i low earlier p → (low ≡ least_supply σ P t) × (earlier ≡ per_frame σ P)
  all_tried {low} h so = (
    le_antisymm (ends_enough σ P n (start_of ws) (end_of ws) row t low (λ k u. so.each k (omega arith))) so.least,
    so.passed.whole h,
  )
