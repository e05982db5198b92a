-- A stretch of ticks whose start moves on, as the code counts it
use mathlib.Core.Path.{◌≡◌, refl, sym, ap, ◌∙◌}
use Rattle.std.specs.Prelude.{◌≢◌}
use mathlib.Core.Bool.{Bool}
use mathlib.Core.List.{List}
use Prim.Native.Nat.{ℕ, ◌+◌, ◌%◌, ◌≤◌, ◌<◌}
use native.Mathlib.Omega.{arith}
use native.Mathlib.Decide.{dec_lt}
use native.Mathlib.Nat.{zero-add}
use native.Mathlib.Numerals.{add-one}
use borrow.Author.Count.{below_more}
use borrow.Author.Tests.{lt-ltb}
use Rattle.scope.specs.Limits.{most_frame}
use Rattle.scope.specs.Numbers.{bit}
use Rattle.scope.specs.Ticks.{Periodic, supply, least_supply, least_start}
use Rattle.scope.specs.Windows.{Board, windows_of, window_at, gives, supplied_by}
use Rattle.theory.specs.Numbers.{bit_le}
use Rattle.theory.specs.Answers.{LegalTable}
use Rattle.theory.specs.Ticks.{supply_le, supply_slide, least_is_met, least_over_all_starts, least_start_unique, least_start_rest}
use Rattle.theory.specs.Rows.{table_row}
use Rattle.tables.specs.declared.cursor.Cursor.{Cursor}
use Rattle.tables.specs.Cursors.{begin, after, cursor_at}
use Rattle.tables.proofs.CursorLaws.{on_at_lem, at_next, at_begin}
use Rattle.checker.specs.declared.stretch.Stretch.{Stretch}
use Rattle.checker.specs.Stretches.{on_at, slid_of, Slides, Spans}

pub on_le : (ws : List ℕ) (c : Cursor) → on_at ws c ≤ 1
on_le ws c = bit_le (gives 0 (window_at (windows_of ws) c.window) c.tick)

module _ (b : Board) (ws : List ℕ) (ok : LegalTable b ws) where
  abbrev σ : ℕ → Bool
  σ = supplied_by b ws

  tick_is : (k : ℕ) (c : Cursor) → c ≡ cursor_at b ws k → on_at ws c ≡ bit (σ k)
  tick_is k c e = ap bit (on_at_lem b ws ok k c e)

  -- ---- the first ticks, one by one

  -- i of them are counted
  pub record Counted (i : ℕ) (to : Cursor) (n : ℕ) : Type 0 where
    pub at : to ≡ cursor_at b ws i
    pub held : n ≡ supply σ 0 i
    pub few : n ≤ i

  pub counted_none : (to : Cursor) → to ≡ begin → Counted 0 to 0
  unfolding supply
  counted_none to e = record { at = e ∙ at_begin b ws; held = refl; few = omega arith }

  pub counted_more : (i : ℕ) (to on : Cursor) (n tick : ℕ) → Counted i to n → tick ≡ on_at ws to → on ≡ after b ws to → Counted (i + 1) on (n + tick)
  unfolding supply
  counted_more i to on n tick so e f =
      let comes : tick ≡ bit (σ (0 + i)) = e ∙ tick_is i to so.at ∙ ap (λ (k : ℕ). bit (σ k)) (sym (zero-add i)) in
      let more : n + tick ≡ supply σ 0 (i + 1) = rw (add-one i) (omega (arith, so.held, comes)) in
      record { at = at_next b ws i to on so.at f; held = more; few = omega (arith, more, supply_le σ 0 (i + 1)) }

  pub counted_all : (t : ℕ) (from to : Cursor) (n : ℕ) → Counted t to n → from ≡ begin → Spans b ws 0 t (record { from = from; to = to; supply = n })
  counted_all t from to n so e = record {
    from = e ∙ at_begin b ws;
    to = so.at ∙ ap (cursor_at b ws) (sym (zero-add t));
    held = so.held;
  }

  -- ---- one tick on

  module _ (s t : ℕ) (r : Stretch) (so : Spans b ws s t r) where
    comes_is : on_at ws r.to ≡ bit (σ (s + t))
    comes_is = tick_is (s + t) r.to so.to

    goes_is : on_at ws r.from ≡ bit (σ s)
    goes_is = tick_is s r.from so.from

    moves : supply σ (s + 1) t + bit (σ s) ≡ supply σ s t + bit (σ (s + t))
    moves = rw (add-one s) (supply_slide σ s t)

    pub spans_slides : t ≤ most_frame → Slides b ws r
    spans_slides h = record {
      few = omega (arith, so.held, supply_le σ s t);
      there = omega (arith, so.held, comes_is, goes_is, moves);
    }

    pub spans_on : (q : Stretch) → q ≡ slid_of b ws r → Spans b ws (s + 1) t q
    spans_on q e = rw e (record {
      from = at_next b ws s r.from _ so.from refl;
      to = let on : s + 1 + t ≡ s + t + 1 = omega arith in rw on (at_next b ws (s + t) r.to _ so.to refl);
      held = omega (arith, so.held, comes_is, goes_is, moves);
    })

  -- ---- the starts, one by one

  abbrev P : ℕ
  P = b.frame

  per : Periodic σ P
  per = (table_row b ws ok).repeats

  spans_from : (s k t : ℕ) (r : Stretch) → s ≡ k → Spans b ws k t r → Spans b ws s t r
  spans_from s k t r e so = rw e so

  -- the stretch begins at its cursor's tick, and no start before holds the least supply
  pub record Started (t : ℕ) (r : Stretch) : Type 0 where
    pub inside : r.from.tick < P
    pub spans : Spans b ws r.from.tick t r
    pub above : (s : ℕ) → s < r.from.tick → least_supply σ P t < supply σ s t

  pub started_first : (t : ℕ) (r : Stretch) → Spans b ws 0 t r → Started t r
  started_first t r so =
      let e : r.from.tick ≡ 0 = ap (λ (c : Cursor). c.tick) (so.from ∙ sym (at_begin b ws)) in
      record { inside = omega (arith, e, ok.frame); spans = spans_from _ _ t r e so; above = λ s l. absurd (omega (arith, e)) }

  pub first_at : (t : ℕ) (r : Stretch) → Spans b ws 0 t r → 0 ≡ r.from.tick
  first_at t r so = sym (ap (λ (c : Cursor). c.tick) (so.from ∙ sym (at_begin b ws)))

  -- a start that holds more is passed over: another one holds the least supply, so the frame does not end there
  module _ (t : ℕ) (r q : Stretch) (n : ℕ) (so : Started t r) (en : n ≡ least_supply σ P t) (u : r.supply ≢ n) (e : q ≡ slid_of b ws r) where
    abbrev s : ℕ
    s = r.from.tick

    passed_over : (k : ℕ) → k < s + 1 → least_supply σ P t < supply σ k t
    passed_over =
        below_more (λ (k : ℕ). least_supply σ P t < supply σ k t) s so.above
        (omega (arith, u, en, so.spans.held, least_over_all_starts σ P per s t))

    within : s + 1 < P
    within =
        elim (dec_lt (s + 1) P) [
          | yes l ↦ l
          | no l ↦ let m = least_is_met σ P per t in absurd (omega (arith, m.2, passed_over m.0 (omega (arith, m.1))))
        ]

    pub on_by_one : q.from.tick ≡ s + 1
    unfolding after
    on_by_one = ap (λ (p : Stretch). p.from.tick) e ∙ rw (lt-ltb (s + 1) P within)

    pub started_next : Started t q
    started_next = record {
      inside = omega (arith, on_by_one, within);
      spans = spans_from _ _ t q on_by_one (spans_on s t r so.spans q e);
      above = rw on_by_one passed_over;
    }

  -- whole frames give every start as much: the start that is found for the rest of a length is the length's
  pub start_found : (t : ℕ) (r : Stretch) (n : ℕ) → Started (t % P) r → n ≡ least_supply σ P (t % P) → r.supply ≡ n →
      r.from.tick ≡ least_start σ P t
  start_found t r n so en e =
      least_start_unique σ P per (t % P) r.from.tick (sym so.spans.held ∙ e ∙ en) so.above ∙ least_start_rest σ P per t
