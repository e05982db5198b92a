-- Laws of the maximal runs of a test: read as windows they cover exactly the ticks at which it holds, and keep the rule of windows
use Rattle.std.specs.Prelude.{◌≡◌, cond, ◌&&◌, ◌||◌, ◌⊎◌, List, [], ◌∷◌, ◌++◌, eqb, length, get_or}
use Rattle.std.proofs.Math.Path.{refl, sym, ap}
use Rattle.std.proofs.Common.{◌∙◌, true≢false, inl, inr, append_assoc, arith, length-append}
use Rattle.std.proofs.Math.Bool.{Bool, true, false, not, or-true, or-false, or_assoc}
use Rattle.std.proofs.Math.Option.{none}
use Prim.Native.Nat.{ℕ, zero, suc, ◌+◌, ◌-◌, ◌*◌, ◌/◌, ◌%◌, ◌≤◌, ◌<◌}
use Rattle.std.proofs.Math.Numerals.{add-one}
use Rattle.std.proofs.Math.Decide.{ℕ_discrete, dec_lt}
use Rattle.std.proofs.Math.Dec.{ltb}
use borrow.Author.Tests.{lt-ltb, le-ltb, le-leb, eq-eqb}
use Rattle.scope.specs.Numbers.{keep, pieces_from, pieces}
use Rattle.scope.specs.Windows.{Board, framed, Window, window, windows_of, window_at, gives, covers, window_legal, bad_window}
use Rattle.scope.specs.Partition.{within, edge, maximal_runs}
use Rattle.theory.specs.Numbers.{both_and, bool_cases, below_suc, none_first}
use Rattle.theory.specs.Windows.{gives_in, gives_before, gives_after}
use Rattle.theory.specs.Lists.{pieces_length, two_at, pieces_append, keep_hit, keep_miss, keep_first, Rising, keep_rising}

-- ---- rising numbers, none above the frame, read two at a time are legal windows

module _ (l : List ℕ) where
  abbrev start_of : ℕ → ℕ
  start_of i = (window_at (windows_of l) i).start

  abbrev end_of : ℕ → ℕ
  end_of i = (window_at (windows_of l) i).end

  pub start_at_lem : (i : ℕ) → 2 * i + 1 < length l → start_of i ≡ get_or l (2 * i) 0
  start_at_lem i h = ap (λ (w : Window). w.start) (two_at window (window 0 0) l i h)

  pub end_at_lem : (i : ℕ) → 2 * i + 1 < length l → end_of i ≡ get_or l (2 * i + 1) 0
  end_at_lem i h = ap (λ (w : Window). w.end) (two_at window (window 0 0) l i h)

module _ (b : Board) (l : List ℕ) (r : Rising l (b.frame + 1)) where
  after_start : (i : ℕ) → 2 * i + 1 < length l → start_of l i < end_of l i
  after_start i h = omega (arith, start_at_lem l i h, end_at_lem l i h, r.up (2 * i) (2 * i + 1) (omega arith) h)

  in_frame : (i : ℕ) → 2 * i + 1 < length l → end_of l i ≤ b.frame
  in_frame i h = omega (arith, end_at_lem l i h, r.below (2 * i + 1) h)

  after_previous : (i : ℕ) → 2 * i + 1 < length l → 0 < i → end_of l (i - 1) < start_of l i
  after_previous i h k =
      let before : 2 * (i - 1) + 1 < 2 * i = omega arith in
      omega (arith, end_at_lem l (i - 1) (omega arith), start_at_lem l i h, r.up (2 * (i - 1) + 1) (2 * i) before (omega arith))

  rising_legal : (i : ℕ) → 2 * i + 1 < length l → window_legal b (windows_of l) i ≡ true
  unfolding window_legal
  rising_legal i h =
      both_and
      (both_and (lt-ltb (start_of l i) (end_of l i) (after_start i h)) (le-leb (end_of l i) b.frame (in_frame i h)))
      (elim (ℕ_discrete i 0) [
        | yes e ↦ rw (eq-eqb i 0 e)
        | no u ↦ rw (lt-ltb (end_of l (i - 1)) (start_of l i) (after_previous i h (omega arith))) (or-true (eqb i 0))
      ])

  pub rising_rule : bad_window b (windows_of l) ≡ none
  unfolding bad_window
  rising_rule =
      none_first (λ i. not (window_legal b (windows_of l) i)) (length (windows_of l))
      (λ i h. ap not (rising_legal i (omega (arith, pieces_length Window 2 window l))))

-- ---- a test in the ticks below n

module _ (p : ℕ → Bool) (n k : ℕ) where
  pub within_in : k < n → within p n k ≡ p k
  unfolding within
  within_in h = rw (lt-ltb k n h)

  pub within_out : n ≤ k → within p n k ≡ false
  unfolding within
  within_out h = rw (le-ltb k n h)

  -- one tick more, at which the test fails, changes nothing
  within_stays : p n ≡ false → within p n k ≡ within p (suc n) k
  unfolding within
  within_stays e =
      elim (ℕ_discrete k n) [
        | yes z ↦ rw (z, e, le-ltb n n (omega arith), lt-ltb n (suc n) (omega arith))
        | no z ↦ ap (λ (b : Bool). b && p k) (ltb_other z)
      ]
    where
      ltb_other : (k ≡ n → ⊥) → ltb k n ≡ ltb k (suc n)
      ltb_other z =
          elim (dec_lt k n) [
            | yes h ↦ lt-ltb k n h ∙ sym (lt-ltb k (suc n) (omega arith))
            | no h ↦ le-ltb k n (omega arith) ∙ sym (le-ltb k (suc n) (omega arith))
          ]

-- ---- what windows cover, and one window more after them

covers_last : (q : ℕ) (ws : List Window) (w : Window) (k : ℕ) → covers q (ws ++ (w ∷ [])) k ≡ (covers q ws k || gives q w k)
unfolding covers
covers_last q [] w k = or-false (gives q w k)
covers_last q (v ∷ ws) w k =
    ap (λ (t : Bool). gives q v k || t) (covers_last q ws w k) ∙ sym (or_assoc (gives q v k) (covers q ws k) (gives q w k))

covers_more : (q : ℕ) (l : List ℕ) (s e k : ℕ) → length l % 2 ≡ 0 →
    covers q (windows_of (l ++ (s ∷ e ∷ []))) k ≡ (covers q (windows_of l) k || gives q (window s e) k)
unfolding pieces_from pieces
covers_more q l s e k h =
    ap (λ (ws : List Window). covers q ws k) (pieces_append Window 2 window (omega arith) (length l / 2) l (s ∷ e ∷ []) (omega arith))
    ∙ covers_last q (windows_of l) (window s e) k

-- a window over the ticks s to n − 1, at all of which p holds, where none are lost
within_window : (p : ℕ → Bool) (s n : ℕ) → s < n → ((x : ℕ) → s ≤ x → x < n → p x ≡ true) → (k : ℕ) →
    (within p s k || gives 0 (window s n) k) ≡ within p n k
unfolding within
within_window p s n h run k =
    elim (dec_lt k s) [
      | yes a ↦ rw (gives_before 0 (window s n) k (omega (arith, a)), lt-ltb k s a, lt-ltb k n (omega arith)) (or-false (p k))
      | no a ↦ elim (dec_lt k n) [
        | yes c ↦ rw (gives_in 0 (window s n) k (omega arith) c, le-ltb k s (omega arith), lt-ltb k n c) (sym (run k (omega arith) c))
        | no c ↦ rw (gives_after 0 (window s n) k (omega arith), le-ltb k s (omega arith), le-ltb k n (omega arith))
      ]
    ]

-- ---- the edges of q below n: whole windows, or whole windows and the start of a run that is still open

module _ (q : ℕ → Bool) where
  abbrev edges : ℕ → List ℕ
  edges n = keep (edge q) n

  -- q just before n
  abbrev before : ℕ → Bool
  before n = ltb 0 n && q (n - 1)

  before_suc : (n : ℕ) → before (suc n) ≡ q n
  before_suc n = let e : suc n - 1 ≡ n = omega arith in let l : 0 < suc n = omega arith in rw (lt-ltb 0 (suc n) l, e)

  -- it is false as long as q has not held
  before_none : (n : ℕ) → ((k : ℕ) → k < n → q k ≡ false) → before n ≡ false
  before_none zero h = refl
  before_none (suc n) h = before_suc n ∙ h n (omega arith)

  edge_is : (n : ℕ) (a b : Bool) → q n ≡ a → before n ≡ b → edge q n ≡ cond a (not b) b
  unfolding edge
  edge_is n a b e f = rw (e, f)

module _ (q : ℕ → Bool) where
  -- the list l is of whole windows, which cover the ticks below n at which q holds
  record Closed (l : List ℕ) (n : ℕ) : Type 0 where
    even : length l % 2 ≡ 0
    cover : (k : ℕ) → covers 0 (windows_of l) k ≡ within q n k

  -- after the whole windows l a run starts at s, and q has held since
  record Open (l : List ℕ) (s n : ℕ) : Type 0 where
    start : s < n
    run : (k : ℕ) → s ≤ k → k < n → q k ≡ true
    is : edges q n ≡ l ++ (s ∷ [])
    shut : Closed l s

  data State (n : ℕ) : Type 0 where
    closed : before q n ≡ false → Closed (edges q n) n → State n
    opened : before q n ≡ true → (l : List ℕ) (s : ℕ) → Open l s n → State n

  closed_stays : (l : List ℕ) (n : ℕ) → q n ≡ false → Closed l n → Closed l (suc n)
  closed_stays l n e c = record { even = c.even; cover = λ k. c.cover k ∙ within_stays q n k e }

  -- an open run that ends at n
  open_closes : (l : List ℕ) (s n : ℕ) → Open l s n → Closed (l ++ (s ∷ n ∷ [])) n
  open_closes l s n o =
      record {
        even = omega (arith, length-append l (s ∷ n ∷ []), o.shut.even);
        cover = λ k.
            covers_more 0 l s n k o.shut.even ∙ ap (λ (t : Bool). t || gives 0 (window s n) k) (o.shut.cover k)
            ∙ within_window q s n o.start o.run k;
      }

  step : (n : ℕ) → (q n ≡ true) ⊎ (q n ≡ false) → State n → State (suc n)
  step n (inr e) (closed b c) =
      let z = keep_miss (edge q) n (edge_is q n false false e b) in
      closed (before_suc q n ∙ e) (rw z (closed_stays (edges q n) n e c))
  step n (inl e) (closed b c) =
      opened (before_suc q n ∙ e) (edges q n) n
      (record {
        start = omega arith;
        run = λ k h l. let z : k ≡ n = omega arith in rw z e;
        is = keep_hit (edge q) n (edge_is q n true false e b);
        shut = c;
      })
  step n (inl e) (opened b l s o) =
      opened (before_suc q n ∙ e) l s
      (record {
        start = omega (arith, o.start);
        run = λ k h u. below_suc (λ j. s ≤ j → q j ≡ true) n (λ j v w. o.run j w v) (λ w. e) k u h;
        is = keep_miss (edge q) n (edge_is q n true true e b) ∙ o.is;
        shut = o.shut;
      })
  step n (inr e) (opened b l s o) =
      let hit = keep_hit (edge q) n (edge_is q n false true e b) in
      let z : edges q (suc n) ≡ l ++ (s ∷ n ∷ []) = hit ∙ ap (λ (m : List ℕ). m ++ (n ∷ [])) o.is ∙ append_assoc l (s ∷ []) (n ∷ []) in
      closed (before_suc q n ∙ e) (rw z (closed_stays (l ++ (s ∷ n ∷ [])) n e (open_closes l s n o)))

  state : (n : ℕ) → State n
  unfolding keep pieces_from pieces covers
  state zero = closed refl (record { even = refl; cover = λ k. sym (within_out q 0 k (omega arith)) })
  state (suc n) = step n (bool_cases (q n)) (state n)

-- ---- the runs of p below n, as windows of a frame of n ticks

module _ (p : ℕ → Bool) (n : ℕ) where
  -- no run is open past n, where the pattern is false
  maximal_closed : Closed (within p n) (maximal_runs p n) (suc n)
  unfolding maximal_runs
  maximal_closed = rw add-one (go (state (within p n) (suc n)))
    where
      go : State (within p n) (suc n) → Closed (within p n) (edges (within p n) (suc n)) (suc n)
      go (closed b c) = c
      go (opened b l s o) =
          absurd (true≢false (sym (sym (before_suc (within p n) n) ∙ b) ∙ within_out p n n (omega arith)))

  pub maximal_even : length (maximal_runs p n) % 2 ≡ 0
  maximal_even = maximal_closed.even

  -- the windows cover exactly the ticks below n at which p holds
  pub maximal_cover : (k : ℕ) → covers 0 (windows_of (maximal_runs p n)) k ≡ within p n k
  maximal_cover k =
      maximal_closed.cover k ∙ elim (dec_lt k (suc n)) [
        | yes h ↦ within_in (within p n) (suc n) k h
        | no h ↦ within_out (within p n) (suc n) k (omega arith) ∙ sym (within_out p n k (omega arith))
      ]

  -- each run starts before it ends, ends at n or before, and starts strictly after the previous one's end
  pub maximal_rule : bad_window (framed n) (windows_of (maximal_runs p n)) ≡ none
  unfolding maximal_runs
  maximal_rule = rising_rule (framed n) (maximal_runs p n) (keep_rising (edge (within p n)) (n + 1))

  -- the first run starts where p first holds
  pub maximal_first : (c : ℕ) → c < n → p c ≡ true → ((j : ℕ) → j < c → p j ≡ false) → (rest : List ℕ) × (maximal_runs p n ≡ c ∷ rest)
  unfolding maximal_runs
  maximal_first c l e h =
      let q : ℕ → Bool = within p n in
      let not_yet : (j : ℕ) → j < c → q j ≡ false = λ j m. within_in p n j (omega arith) ∙ h j m in
      keep_first (edge q) c (n + 1) (omega arith) (edge_is q c true false (within_in p n c l ∙ e) (before_none q c not_yet))
      (λ j m. edge_is q j false false (not_yet j m) (before_none q j (λ i u. not_yet i (omega arith))))
