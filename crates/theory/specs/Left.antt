-- Document 02, request 7: what a board leaves of windows, each start moved by the lost ticks and windows no longer than these left out, supplies the same
-- ticks with nothing lost; and what it leaves of an owner's windows is a legal table
use Rattle.std.specs.Prelude.{◌≡◌, Bool, true, false, ◌&&◌}
use Rattle.std.proofs.Math.Path.{refl, ap, fun_ext}
use Rattle.std.proofs.Common.{sym, ◌∙◌, zero-add}
use mathlib.Core.List.{List, [], ◌∷◌}
use Prim.Native.Nat.{ℕ, zero, suc, ◌+◌, ◌-◌, ◌*◌, ◌%◌, ◌≤◌, ◌<◌}
use native.Mathlib.Omega.{arith}
use Rattle.std.proofs.Math.Decide.{dec_lt}
use Rattle.std.proofs.Math.Dec.{leb, ltb}
use Rattle.std.proofs.Math.ListN.{length, get_or}
use borrow.Author.Tests.{lt-ltb, le-ltb, eqb-false}
use Rattle.scope.specs.Numbers.{pieces, pieces_from}
use Rattle.scope.specs.Limits.{most_windows}
use Rattle.scope.specs.Windows.{Board, framed, Window, window, windows_of, window_at, gives, covers, supplied, supplied_by}
use Rattle.scope.specs.Answers.{Fault.fine, frame_fault, window_fault, table_fault, rule_fault}
use Rattle.scope.specs.Shared.{owned_of, own, left_of, own_left, whole_fault, lost_fault, shared_fault}
use Rattle.theory.specs.Lists.{pieces_length, Rising, rising_rest, rising_above, rising_two}
use Rattle.theory.specs.Windows.{gives_before, gives_after}
use Rattle.theory.specs.MaximalRuns.{rising_rule}
use Rattle.theory.specs.Gaps.{on_first}
use Rattle.theory.specs.Answers.{fault_if_fine, or_else_fine, LegalTable, table_legal, window_list_fine}
use Rattle.theory.specs.Shared.{whole, shared_parts, own_few, for_rising}

module _ (q : ℕ) where
  -- ---- one window and what is left of it

  pub left_kept : (w : Window) (ws : List Window) → q < w.end - w.start → left_of q (w ∷ ws) ≡ (q + w.start) ∷ w.end ∷ left_of q ws
  unfolding left_of
  left_kept w ws h = rw (lt-ltb q (w.end - w.start) h)

  pub left_out : (w : Window) (ws : List Window) → w.end - w.start ≤ q → left_of q (w ∷ ws) ≡ left_of q ws
  unfolding left_of
  left_out w ws h = rw (le-ltb q (w.end - w.start) h)

  -- ---- the same ticks

  moved_gives : (w : Window) (k : ℕ) → gives 0 (window (q + w.start) w.end) k ≡ gives q w k
  unfolding gives
  moved_gives w k = ap (λ (s : ℕ). leb s k && ltb k w.end) (zero-add (q + w.start))

  short_gives : (w : Window) (k : ℕ) → w.end - w.start ≤ q → gives q w k ≡ false
  short_gives w k h =
      elim (dec_lt k w.end) [
        | yes l ↦ gives_before q w k (omega arith)
        | no l ↦ gives_after q w k (omega arith)
      ]

  pub left_covers : (ws : List Window) (k : ℕ) → covers 0 (windows_of (left_of q ws)) k ≡ covers q ws k
  unfolding covers left_of pieces pieces_from
  left_covers [] k = refl
  left_covers (w ∷ ws) k =
      elim (dec_lt q (w.end - w.start)) [
        | yes h ↦ rw (left_kept w ws h, left_covers ws k, moved_gives w k)
        | no h ↦ rw (left_out w ws (omega arith), left_covers ws k, short_gives w k (omega arith))
      ]

  -- ---- in pairs, no more of them, and as the numbers rose they rise

  pub left_even : (ws : List Window) → length (left_of q ws) % 2 ≡ 0
  unfolding left_of
  left_even [] = refl
  left_even (w ∷ ws) =
      elim (dec_lt q (w.end - w.start)) [
        | yes h ↦ omega (arith, ap length (left_kept w ws h), left_even ws)
        | no h ↦ omega (arith, ap length (left_out w ws (omega arith)), left_even ws)
      ]

  pub left_few : (ws : List Window) → length (left_of q ws) ≤ 2 * length ws
  unfolding left_of
  left_few [] = omega arith
  left_few (w ∷ ws) =
      elim (dec_lt q (w.end - w.start)) [
        | yes h ↦ omega (arith, ap length (left_kept w ws h), left_few ws)
        | no h ↦ omega (arith, ap length (left_out w ws (omega arith)), left_few ws)
      ]

  left_above : (m : ℕ) (l : List ℕ) → ((k : ℕ) → k < length l → m < get_or l k 0) →
      (k : ℕ) → k < length (left_of q (windows_of l)) → m < get_or (left_of q (windows_of l)) k 0
  unfolding left_of pieces pieces_from
  left_above m [] h k u = absurd (omega arith)
  left_above m (s ∷ []) h k u = absurd (omega arith)
  left_above m (s ∷ e ∷ l) h k u =
      let later = left_above m l (λ i v. h (suc (suc i)) (omega arith)) in
      elim (dec_lt q (e - s)) [
        | yes v ↦ rw (left_kept (window s e) (windows_of l) v) (go later (h 0 (omega arith)) (h 1 (omega arith)) k (rw (left_kept (window s e) (windows_of l) v) at u))
        | no v ↦ rw (left_out (window s e) (windows_of l) (omega arith)) (later k (rw (left_out (window s e) (windows_of l) (omega arith)) at u))
      ]
    where
      go : ((k : ℕ) → k < length (left_of q (windows_of l)) → m < get_or (left_of q (windows_of l)) k 0) → m < s → m < e →
          (k : ℕ) → k < length ((q + s) ∷ e ∷ left_of q (windows_of l)) → m < get_or ((q + s) ∷ e ∷ left_of q (windows_of l)) k 0
      go later x y zero i = omega arith
      go later x y (suc zero) i = y
      go later x y (suc (suc k)) i = later k (omega arith)

  pub left_rising : (l : List ℕ) (n : ℕ) → Rising l n → Rising (left_of q (windows_of l)) n
  unfolding left_of pieces pieces_from
  left_rising [] n r = record { below = λ i h. absurd (omega arith); up = λ i j h l. absurd (omega arith) }
  left_rising (s ∷ []) n r = record { below = λ i h. absurd (omega arith); up = λ i j h l. absurd (omega arith) }
  left_rising (s ∷ e ∷ l) n r =
      let tail = rising_rest s (e ∷ l) n r in
      let rest = left_rising l n (rising_rest e l n tail) in
      let past = left_above e l (rising_above e l n tail) in
      let top : e < n = r.below 1 (omega arith) in
      elim (dec_lt q (e - s)) [
        | yes v ↦
            rw (left_kept (window s e) (windows_of l) v)
            (rising_two (q + s) e (left_of q (windows_of l)) n (omega arith) top past rest)
        | no v ↦ rw (left_out (window s e) (windows_of l) (omega arith)) rest
      ]

  -- nothing is left out of a list whose windows each have a tick, where none is lost
  pub left_whole : q ≡ 0 → (l : List ℕ) → length l % 2 ≡ 0 → ((i : ℕ) → i < length (windows_of l) → (window_at (windows_of l) i).start < (window_at (windows_of l) i).end) →
      left_of q (windows_of l) ≡ l
  unfolding left_of pieces pieces_from
  left_whole z [] h fits = refl
  left_whole z (s ∷ []) h fits = absurd (omega arith)
  left_whole z (s ∷ e ∷ l) h fits =
      let here : s < e = fits 0 (omega arith) in
      let start : q + s ≡ s = omega arith in
      left_kept (window s e) (windows_of l) (omega arith) ∙ rw (start, left_whole z l (omega arith) (λ i u. fits (suc i) (omega arith)))

-- ---- on a board

-- the ticks that it supplies are those of what it leaves, with nothing lost
pub left_supplied : (b : Board) (ws : List Window) → supplied b ws ≡ supplied_by (framed b.frame) (left_of b.lost ws)
unfolding supplied
left_supplied b ws = fun_ext (λ k. sym (left_covers b.lost ws (k % b.frame)))

-- ---- of the owner that is asked for

module _ (owners : ℕ) (b : Board) (ws : List ℕ) (legal : whole_fault owners b ws ≡ fine) where
  pub left_most : length (own_left b ws) ≤ 2 * most_windows
  left_most = omega (arith, left_few b.lost (windows_of (own b ws)), pieces_length Window 2 window (own b ws), own_few owners b ws legal)

  -- what is left, where it is not nothing, is a table in the same frame
  pub left_fine : 0 < length (own_left b ws) → table_fault (framed b.frame) (own_left b ws) ≡ fine
  unfolding table_fault frame_fault window_fault
  left_fine some =
      let w = whole owners b ws legal in
      rw (
        window_list_fine (own_left b ws) (left_even b.lost (windows_of (own b ws))) some left_most,
        w.framed,
        rising_rule (framed b.frame) (own_left b ws) (left_rising b.lost (own b ws) (b.frame + 1) (for_rising owners b b.owner (owned_of ws) w.ruled)),
      )

module _ (owners : ℕ) (b : Board) (ws : List ℕ) (listed : shared_fault owners b ws ≡ fine) where
  pub left_some : 0 < length (own_left b ws)
  unfolding lost_fault
  left_some =
      let f = or_else_fine (rule_fault b) _ (shared_parts owners b ws listed).3 in
      let filled = eqb-false (length (own_left b ws)) 0 (fault_if_fine _ 13 0 f.1) in omega (arith, filled)

  pub listed_left : table_fault (framed b.frame) (own_left b ws) ≡ fine
  listed_left = left_fine owners b ws (shared_parts owners b ws listed).0 left_some

  pub left_legal : LegalTable (framed b.frame) (own_left b ws)
  left_legal = table_legal (framed b.frame) (own_left b ws) listed_left refl

  -- so some tick is supplied
  pub some_tick : (k : ℕ) × (supplied_by b (own b ws) k ≡ true)
  some_tick =
      let t = left_legal in
      let some : 0 < length (windows_of (own_left b ws)) = omega (arith, t.even, t.some, pieces_length Window 2 window (own_left b ws)) in
      let k : ℕ = (window_at (windows_of (own_left b ws)) 0).start in
      (k, ap (λ (σ : ℕ → Bool). σ k) (left_supplied b (windows_of (own b ws))) ∙ on_first (framed b.frame) (windows_of (own_left b ws)) t.windows some refl)
