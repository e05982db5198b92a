-- A cursor as the code moves it on, and that on a legal table it tells which ticks are supplied
use mathlib.Core.Path.{◌≡◌, refl, sym, ap, ◌∙◌}
use mathlib.Core.List.{List}
use Prim.Native.Nat.{ℕ, zero, suc, ◌+◌, ◌-◌, ◌/◌, ◌%◌, ◌≤◌, ◌<◌}
use native.Mathlib.Omega.{arith}
use native.Mathlib.Nat.{add-zero, zero-mod, suc-mod, mod-lt, mod-eq_of_lt, mod_self}
use native.Mathlib.Numerals.{add-one}
use native.Mathlib.Decide.{ℕ_discrete, dec_lt}
use lib.ListN.{length}
use borrow.Author.Tests.{lt-ltb, le-ltb, eq-eqb, ne_eqb}
use Rattle.scope.specs.Windows.{Board, Window, window, windows_of, window_at, gives, supplied, supplied_by}
use Rattle.theory.specs.Lists.{pieces_length, piece_past}
use Rattle.theory.specs.Gaps.{fits, next, covers_by}
use Rattle.theory.specs.Rows.{end_of}
use Rattle.theory.specs.Answers.{LegalTable}
use Rattle.tables.specs.declared.cursor.Cursor.{Cursor}
use Rattle.tables.specs.Cursors.{begin, after, cursor_at}

-- ---- one tick on

-- only a window that is there ends after a tick
pub is_there : (ws : List ℕ) (i t : ℕ) → (window_at (windows_of ws) i).end ≡ t + 1 → i < length ws / 2
is_there ws i t e =
    elim (dec_lt i (length ws / 2)) [
      | yes l ↦ l
      | no l ↦ absurd (omega (arith, ap (λ (w : Window). w.end) (piece_past 2 window (window 0 0) ws i (omega arith))))
    ]

module _ (b : Board) (ws : List ℕ) (c : Cursor) where
  abbrev at : Window
  at = window_at (windows_of ws) c.window

  pub after_round : b.frame ≤ c.tick + 1 → begin ≡ after b ws c
  unfolding after
  after_round h = rw (le-ltb (c.tick + 1) b.frame h)

  module _ (h : c.tick + 1 < b.frame) where
    pub after_end : at.end ≡ c.tick + 1 → ◌≡◌ {A = Cursor} (record { tick = c.tick + 1; window = c.window + 1 }) (after b ws c)
    unfolding after
    after_end e = rw (lt-ltb (c.tick + 1) b.frame h, eq-eqb at.end (c.tick + 1) e)

    pub after_same : (at.end ≡ c.tick + 1 → ⊥) → ◌≡◌ {A = Cursor} (record { tick = c.tick + 1; window = c.window }) (after b ws c)
    unfolding after
    after_same u = rw (lt-ltb (c.tick + 1) b.frame h, ne_eqb at.end (c.tick + 1) u, add-zero c.window)

-- ---- on a legal table

module _ (b : Board) (ws : List ℕ) (ok : LegalTable b ws) where
  abbrev n : ℕ
  n = length (windows_of ws)

  -- the tick's place in its frame, and the first window that ends after it
  record Stands (k : ℕ) (c : Cursor) : Type 0 where
    tick : c.tick ≡ k % b.frame
    few : c.window ≤ n
    past : 0 < c.window → end_of ws (c.window - 1) ≤ c.tick
    ahead : c.window < n → c.tick < end_of ws c.window

  some : 0 < n
  some = omega (arith, ok.even, ok.some, pieces_length _ 2 window ws)

  stands_begin : (k : ℕ) → k % b.frame ≡ 0 → Stands k begin
  stands_begin k e = record {
    tick = sym e;
    few = omega arith;
    past = λ h. absurd (omega arith);
    ahead = λ h. omega (arith, (fits b (windows_of ws) ok.windows 0 some).0);
  }

  stands_after : (k : ℕ) (c : Cursor) → Stands k c → Stands (suc k) (after b ws c)
  stands_after k c s =
      let step : suc k % b.frame ≡ suc c.tick % b.frame = suc-mod k b.frame ∙ ap (λ (x : ℕ). suc x % b.frame) (sym s.tick) in
      let low : c.tick < b.frame = omega (arith, s.tick, mod-lt k {m = b.frame} ok.frame) in
      elim (dec_lt (c.tick + 1) b.frame) [
        | no h ↦
            let e : suc c.tick ≡ b.frame = omega arith in
            rw (← (after_round b ws c (omega arith))) (stands_begin (suc k) (step ∙ rw e (mod_self b.frame)))
        | yes h ↦
            let l : suc c.tick < b.frame = omega arith in
            let on : c.tick + 1 ≡ suc k % b.frame = add-one c.tick ∙ sym (step ∙ mod-eq_of_lt l) in
            elim (ℕ_discrete (end_of ws c.window) (c.tick + 1)) [
              | yes e ↦ rw (← (after_end b ws c h e)) (record {
                tick = on;
                few = omega (arith, is_there ws c.window c.tick e, pieces_length _ 2 window ws);
                past = λ p. let back : c.window + 1 - 1 ≡ c.window = omega arith in rw back (omega arith);
                ahead = λ p.
                    let back : c.window + 1 - 1 ≡ c.window = omega arith in
                    omega (
                      arith,
                      (fits b (windows_of ws) ok.windows (c.window + 1) p).0,
                      rw back at (next b (windows_of ws) ok.windows (c.window + 1) (omega arith) p),
                    );
              })
              | no u ↦ rw (← (after_same b ws c h u)) (record {
                tick = on;
                few = s.few;
                past = λ p. omega (arith, s.past p);
                ahead = λ p. omega (arith, s.ahead p);
              })
            ]
      ]

  stands : (k : ℕ) → Stands k (cursor_at b ws k)
  unfolding cursor_at
  stands zero = stands_begin 0 (zero-mod b.frame)
  stands (suc k) = stands_after k (cursor_at b ws k) (stands k)

  -- the window at hand gives the tick exactly where the tick is supplied
  pub on_at_lem : (k : ℕ) (c : Cursor) → c ≡ cursor_at b ws k → gives 0 (window_at (windows_of ws) c.window) c.tick ≡ supplied_by b ws k
  unfolding supplied
  on_at_lem k c e =
      let s : Stands k c = rw e (stands k) in
      ap (λ (q : ℕ). gives q (window_at (windows_of ws) c.window) c.tick) (sym ok.whole)
      ∙ sym (covers_by b (windows_of ws) ok.windows c.window c.tick s.few s.past s.ahead) ∙ rw s.tick

-- and it goes on
pub at_next : (b : Board) (ws : List ℕ) (k : ℕ) (c d : Cursor) → c ≡ cursor_at b ws k → d ≡ after b ws c → d ≡ cursor_at b ws (k + 1)
unfolding cursor_at
at_next b ws k c d e f = f ∙ ap (after b ws) e ∙ rw (add-one k)

pub at_begin : (b : Board) (ws : List ℕ) → begin ≡ cursor_at b ws 0
unfolding cursor_at
at_begin b ws = refl
