-- Laws of what a summary's numbers answer, and of the windows that stand in it, two numbers at a time
use mathlib.Core.Path.{◌≡◌, refl, sym, ap, ◌∙◌}
use mathlib.Core.List.{List, [], ◌∷◌}
use Prim.Native.Nat.{ℕ, zero, suc, ◌+◌, ◌-◌, ◌*◌, ◌/◌, ◌^◌, ◌≤◌, ◌<◌, min}
use native.Mathlib.Omega.{arith}
use native.Mathlib.Decide.{dec_lt}
use lib.ListN.{length, get_or, take, drop, length-take, length-drop}
use lib.Seq.{drop-cons}
use borrow.Author.Tests.{le-leb, lt-leb}
use Rattle.std.specs.Simd.{first_chunks}
use Rattle.scope.specs.Limits.{most_frame}
use Rattle.scope.specs.Numbers.{pieces, pieces_from}
use Rattle.scope.specs.Windows.{Board, Window, window, windows_of}
use Rattle.scope.specs.Answers.{Fault.fine, Fault.fault, Answer.refused, table_fault, length_fault}
use Rattle.scope.specs.Summary.{windows_in, ticks_before, summary_fault, least_from_answer}
use Rattle.theory.specs.Answers.{table_framed}
use Rattle.theory.specs.Lists.{pieces_length}
use Rattle.tables.proofs.FaultLaws.{stopped, passed, refused_there}
use Rattle.summaries.specs.Least.{most_ticks, from_answer}

-- what is left from window i on, as code that has counted the windows before it finds it
abbrev pub left : List ℕ → ℕ → ℕ → ℕ
left l r i = ticks_before (windows_of (drop (2 * i) l)) r

opened : (l : List ℕ) (i : ℕ) → 2 * i + 1 < length l →
    drop (2 * i) l ≡ get_or l (2 * i) 0 ∷ get_or l (2 * i + 1) 0 ∷ drop (2 * (i + 1)) l
opened l i h =
    let e : suc (2 * i) ≡ 2 * i + 1 = omega arith in
    let f : suc (2 * i + 1) ≡ 2 * (i + 1) = omega arith in
    drop-cons l (2 * i) 0 (omega arith) ∙ ap (λ (x : List ℕ). get_or l (2 * i) 0 ∷ x) (rw e (drop-cons l (2 * i + 1) 0 h ∙ rw f))

-- a window's two numbers, where a list is read as pairs
pair_at : (k i : ℕ) (l : List ℕ) → i < k → 2 * k ≤ length l → get_or (first_chunks 2 k l) i [] ≡ get_or l (2 * i) 0 ∷ get_or l (2 * i + 1) 0 ∷ []
pair_at zero i l h few = absurd (omega arith)
pair_at (suc k) i [] h few = absurd (omega arith)
pair_at (suc k) i (a ∷ []) h few = absurd (omega arith)
pair_at (suc k) zero (a ∷ b ∷ l) h few = refl
pair_at (suc k) (suc i) (a ∷ b ∷ l) h few =
    let e : 2 * suc i ≡ suc (suc (2 * i)) = omega arith in
    let f : suc (suc (2 * i)) + 1 ≡ suc (suc (2 * i + 1)) = omega arith in
    rw (e, f) (pair_at k i l (omega arith) (omega arith))

module _ (l : List ℕ) (r i : ℕ) (pairs : List (List ℕ)) (read : pairs ≡ first_chunks 2 (length l / 2) l) (has : i < length l / 2) where
  is_pair : get_or pairs i [] ≡ get_or l (2 * i) 0 ∷ get_or l (2 * i + 1) 0 ∷ []
  is_pair = rw read (pair_at (length l / 2) i l has (omega arith))

  -- a window that starts at tick r or later has none before it, and neither is a later one looked at
  pub left_none : r ≤ get_or (get_or pairs i []) 0 0 → left l r i ≡ 0
  unfolding ticks_before pieces pieces_from
  left_none h = let k : r ≤ get_or l (2 * i) 0 = rw is_pair at h in rw (opened l i (omega arith), le-leb r (get_or l (2 * i) 0) k)

  pub left_more : get_or (get_or pairs i []) 0 0 < r →
      left l r i ≡ min r (get_or (get_or pairs i []) 1 0) - get_or (get_or pairs i []) 0 0 + left l r (i + 1)
  unfolding ticks_before pieces pieces_from
  left_more h = let k : get_or l (2 * i) 0 < r = rw is_pair at h in rw (is_pair, opened l i (omega arith), lt-leb r (get_or l (2 * i) 0) k)

-- no window is left
none_of : (l : List ℕ) (r : ℕ) → length l ≤ 1 → ticks_before (windows_of l) r ≡ 0
unfolding ticks_before pieces pieces_from
none_of [] r h = refl
none_of (a ∷ []) r h = refl
none_of (a ∷ b ∷ l) r h = absurd (omega arith)

pub left_end : (l : List ℕ) (r i : ℕ) → length l / 2 ≤ i → left l r i ≡ 0
left_end l r i h = none_of (drop (2 * i) l) r (omega (arith, length-drop (2 * i) l))

-- each window has at most a frame's ticks before a tick of the frame
ticks_most : (ws : List Window) (r : ℕ) → r ≤ most_frame → ticks_before ws r ≤ length ws * most_frame
unfolding ticks_before
ticks_most [] r h = omega arith
ticks_most (w ∷ ws) r h =
    elim (dec_lt w.start r) [
      | yes u ↦ rw (lt-leb r w.start u) (omega (arith, ticks_most ws r h))
      | no u ↦ rw (le-leb r w.start (omega arith)) (omega arith)
    ]

pub ticks_small : (l : List ℕ) (r : ℕ) → length l < 2 ^ 33 → r ≤ most_frame → ticks_before (windows_of l) r ≤ most_ticks
ticks_small l r short h = omega (arith, ticks_most (windows_of l) r h, pieces_length Window 2 window l)

-- in memory that is too short for their number there are none
pub none_in : (s : List ℕ) (r : ℕ) → length s < 3 → ticks_before (windows_in s) r ≡ 0
none_in s r h = none_of (take (2 * get_or s 2 0) (drop 3 s)) r (omega (arith, length-take (2 * get_or s 2 0) (drop 3 s), length-drop 3 s))

-- what its summary tells is the answer, where it belongs
module _ (b : Board) (ws s : List ℕ) (t : ℕ) where
  pub from_belonging : fine ≡ table_fault b ws → fine ≡ summary_fault b ws s → from_answer b s t ≡ least_from_answer b ws s t
  unfolding from_answer least_from_answer
  from_belonging f e = rw (table_framed b ws (sym f), ← f, ← e)

  -- and its refusal, where it does not
  pub not_belonging : {n p : ℕ} → fine ≡ table_fault b ws → fault n p ≡ summary_fault b ws s → refused n p ≡ least_from_answer b ws s t
  unfolding least_from_answer
  not_belonging f e = refused_there _ (passed f (stopped (length_fault t) e))
