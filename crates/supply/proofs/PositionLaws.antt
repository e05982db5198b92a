-- Positions in the endless row of windows, as the code moves them
use mathlib.Core.Path.{◌≡◌, ap}
use mathlib.Core.List.{List}
use Prim.Native.Nat.{ℕ, ◌+◌, ◌-◌, ◌*◌, ◌/◌, ◌≤◌, ◌<◌}
use native.Mathlib.Omega.{arith}
use native.Mathlib.Decide.{dec_lt, dec_le}
use lib.ListN.{length}
use borrow.Author.Tests.{lt-ltb, le-ltb}
use Rattle.scope.specs.Limits.{most_frame}
use Rattle.scope.specs.Ticks.{supply}
use Rattle.scope.specs.Windows.{Board, Window, windows_of, window_at, supplied_by}
use Rattle.theory.specs.Answers.{LegalTable}
use Rattle.theory.specs.Ticks.{supply_up}
use Rattle.theory.specs.Rows.{start_of, end_of, table_row, position_first, position_in, position_before}
use Rattle.theory.specs.Rows.{position_past, position_most, position_next, position_round}
use Rattle.supply.specs.declared.row.Position.{Position}
use Rattle.supply.specs.declared.row.Ticks.TheVariants.{On, Off}
use Rattle.supply.specs.Positions.{first, opens, closes, following, ticks_from, Stands, Behind}

-- where a window that is read starts and ends
module _ (ws : List ℕ) (i : ℕ) (w : Window) (read : w ≡ window_at (windows_of ws) i) where
  pub starts_at : w.start ≡ start_of ws i
  starts_at = ap (λ (v : Window). v.start) read

  pub ends_at : w.end ≡ end_of ws i
  ends_at = ap (λ (v : Window). v.end) read

-- the ticks up to the next edge, as the code has them where it has read the window w
module _ (ws : List ℕ) (p : Position) (x : ℕ) (w : Window) (read : w ≡ window_at (windows_of ws) p.index) where
  pub ticks_off : x < p.base + w.start → Off (p.base + w.start - x) ≡ ticks_from ws p x
  unfolding ticks_from
  ticks_off h =
      let start : p.base + w.start ≡ opens ws p = omega (arith, starts_at ws p.index w read) in
      rw (← start, lt-ltb x (p.base + w.start) h)

  pub ticks_on : p.base + w.start ≤ x → On (p.base + w.end - x) ≡ ticks_from ws p x
  unfolding ticks_from
  ticks_on h =
      let start : p.base + w.start ≡ opens ws p = omega (arith, starts_at ws p.index w read) in
      let end : p.base + w.end ≡ closes ws p = omega (arith, ends_at ws p.index w read) in
      rw (← start, ← end, le-ltb x (p.base + w.start) h)

module _ (b : Board) (ws : List ℕ) where
  -- the numbers of a position are small
  pub record Small (p : Position) : Type 0 where
    pub order : start_of ws p.index ≤ end_of ws p.index
    pub inside : end_of ws p.index ≤ b.frame
    pub frame_most : b.frame ≤ most_frame
    pub base_most : p.base ≤ 3 * most_frame
    pub before_most : p.before ≤ 4 * most_frame

  pub small : (p : Position) → Stands b ws p → Small p
  small p s =
      let row = table_row b ws s.legal in
      record {
        order = row.order p.index s.at.there;
        inside = row.inside p.index s.at.there;
        frame_most = s.legal.frame_most;
        base_most = s.near;
        before_most = omega (arith, s.near, s.legal.frame_most, position_most _ _ _ _ _ row p.index p.base p.before s.at);
      }

  -- the code's next position, where it has read the window w
  module _ (p : Position) (w : Window) (e : w ≡ window_at (windows_of ws) p.index) where
    pub next_here : p.index + 1 < length ws / 2 →
        ◌≡◌ {A = Position} (record { index = p.index + 1; base = p.base; before = p.before + (w.end - w.start) }) (following b ws p)
    unfolding following
    next_here h = rw (lt-ltb (p.index + 1) (length ws / 2) h, e)

    pub next_round : length ws / 2 ≤ p.index + 1 →
        ◌≡◌ {A = Position} (record { index = 0; base = p.base + b.frame; before = p.before + (w.end - w.start) }) (following b ws p)
    unfolding following
    next_round h = rw (le-ltb (p.index + 1) (length ws / 2) h, e)

  -- the next window ends later, and is not past x where this one has ended by then
  pub behind_next : (p : Position) (x : ℕ) → Behind b ws p x → closes ws p ≤ x → x ≤ 2 * most_frame →
      Behind b ws (following b ws p) x × (closes ws p < closes ws (following b ws p))
  unfolding following
  behind_next p x h l m =
      let s = h.stands in
      let row = table_row b ws s.legal in
      let past = position_past _ _ _ _ _ row p.index p.base p.before s.at x l in
      elim (dec_lt (p.index + 1) (length ws / 2)) [
        | yes u ↦ rw (lt-ltb (p.index + 1) (length ws / 2) u) (
          record {
            stands = record { legal = s.legal; at = position_next _ _ _ _ _ row p.index p.base p.before s.at u; near = s.near };
            fewer = past;
          },
          omega (arith, row.rise p.index u),
        )
        | no u ↦ rw (le-ltb (p.index + 1) (length ws / 2) (omega arith)) (
          record {
            stands = record {
              legal = s.legal;
              at = position_round _ _ _ _ _ row p.index p.base p.before s.at (omega arith);
              near = omega (arith, s.legal.frame_most);
            };
            fewer = past;
          },
          omega (arith, row.early, row.inside p.index s.at.there),
        )
      ]

  -- from its position the supplied ticks before x can be told
  pub upto_is : (p : Position) (x : ℕ) → Behind b ws p x → x < closes ws p → p.before + (x - opens ws p) ≡ supply (supplied_by b ws) 0 x
  upto_is p x h l =
      let s = h.stands in
      let row = table_row b ws s.legal in
      elim (dec_le (opens ws p) x) [
        | yes u ↦ omega (arith, position_in _ _ _ _ _ row p.index p.base p.before s.at x u (omega arith))
        | no u ↦ omega (arith, position_before _ _ _ _ _ row p.index p.base p.before s.at x h.fewer (omega arith))
      ]

  -- a later tick is not passed either
  pub behind_on : (p : Position) (x y : ℕ) → x ≤ y → Behind b ws p x → Behind b ws p y
  behind_on p x y l h = record { stands = h.stands; fewer = omega (arith, h.fewer, supply_up (supplied_by b ws) 0 x y l) }

  -- at the first window none is
  pub behind_first : LegalTable b ws → (p : Position) → p ≡ first → (x : ℕ) → Behind b ws p x
  behind_first ok p e x =
      rw e (record { stands = record { legal = ok; at = position_first _ _ _ _ _ (table_row b ws ok); near = omega arith }; fewer = omega arith })

-- what is read at a position
pub ruleset read_at = (starts_at, ends_at, small, next_here, next_round, ticks_off, ticks_on)
