-- Which ticks a legal table supplies: those of its windows but the lost ones, and none of the gaps between them or from the last to the first of the next frame
use Rattle.std.specs.Prelude.{◌≡◌, Bool, true, false, List, ℕ, zero, suc, ◌+◌, ◌-◌, ◌≤◌, ◌<◌, leb, ltb, length}
use Rattle.std.proofs.Common.{sym, ◌∙◌, inl, inr, arith, mod-eq_of_lt}
use Rattle.std.proofs.Math.Path.{ap}
use Rattle.std.proofs.Math.Bool.{not}
use Rattle.std.proofs.Math.Option.{none}
use Rattle.std.proofs.Math.Decide.{ℕ_discrete, dec_lt}
use Rattle.std.proofs.Math.ListN.{get_or-eq_default}
use borrow.Author.Tests.{ltb-true, leb-true, ne_eqb, not-false}
use Rattle.scope.specs.Ticks.{Periodic}
use Rattle.scope.specs.Windows.{Board, Window, window, window_at, window_fits, gives, covers, supplied, window_legal, bad_window}
use Rattle.theory.specs.Numbers.{and_both, bool_cases, first_none}
use Rattle.theory.specs.Windows.{gives_in, gives_before, gives_after, covers_at, covers_no, supplied_periodic}

-- ---- a legal table

module _ (b : Board) (ws : List Window) (legal : bad_window b ws ≡ none) where
  abbrev start_of : ℕ → ℕ
  start_of i = (window_at ws i).start

  abbrev end_of : ℕ → ℕ
  end_of i = (window_at ws i).end

  abbrev σ : ℕ → Bool
  σ = supplied b ws

  rule : (i : ℕ) → i < length ws → window_legal b ws i ≡ true
  unfolding bad_window
  rule i h = not-false _ (first_none (λ j. not (window_legal b ws j)) (length ws) legal i h)

  pub fits : (i : ℕ) → i < length ws → (start_of i < end_of i) × (end_of i ≤ b.frame)
  unfolding window_legal
  fits i h =
      let l = and_both (window_fits b (window_at ws i)) _ (rule i h) in
      let m = and_both (ltb (start_of i) (end_of i)) (leb (end_of i) b.frame) l.0 in
      (ltb-true _ _ m.0, leb-true _ _ m.1)

  pub next : (i : ℕ) → 0 < i → i < length ws → end_of (i - 1) < start_of i
  unfolding window_legal
  next i p h =
      let l = and_both (window_fits b (window_at ws i)) _ (rule i h) in
      ltb-true _ _ (rw (ne_eqb i 0 (λ z. omega arith)) at l).1

  before : (i j : ℕ) → i < j → j < length ws → end_of i < start_of j
  before i zero h l = absurd (omega arith)
  before i (suc j) h l =
      let back : suc j - 1 ≡ j = omega arith in
      let gap : end_of j < start_of (suc j) = rw back at (next (suc j) (omega arith) l) in
      elim (ℕ_discrete i j) [
        | yes e ↦ rw e gap
        | no u ↦ omega (arith, before i j (omega arith) (omega arith), (fits j (omega arith)).0)
      ]

  -- past the end of window i no window up to it gives a tick, and before the start of window i none from it on
  none_up_to : (i k : ℕ) → i < length ws → end_of i ≤ k → (j : ℕ) → j ≤ i → gives b.lost (window_at ws j) k ≡ false
  none_up_to i k h l j m =
      gives_after b.lost (window_at ws j) k
      (elim (ℕ_discrete j i) [ yes e ↦ rw e l | no u ↦ omega (arith, before j i (omega arith) h, (fits i h).0) ])

  none_from : (i k : ℕ) → i < length ws → k < start_of i → (j : ℕ) → i ≤ j → j < length ws → gives b.lost (window_at ws j) k ≡ false
  none_from i k h l j m u =
      gives_before b.lost (window_at ws j) k
      (elim (ℕ_discrete i j) [ yes e ↦ rw (← e) (omega (arith, l)) | no v ↦ omega (arith, before i j (omega arith) u, (fits i h).0) ])

  here : (k : ℕ) → k < b.frame → σ k ≡ covers b.lost ws k
  unfolding supplied
  here k h = ap (covers b.lost ws) (mod-eq_of_lt h)

  -- the ticks of a window after those that are lost are supplied
  pub on_window : (i k : ℕ) → i < length ws → b.lost + start_of i ≤ k → k < end_of i → σ k ≡ true
  on_window i k h l m =
      here k (omega (arith, (fits i h).1)) ∙ covers_at b.lost k ws i h (gives_in b.lost (window_at ws i) k l m)

  -- those before the first, between two, and after the last are not
  off_head : (k : ℕ) → 0 < length ws → k < start_of 0 → σ k ≡ false
  off_head k some h = here k (omega (arith, fits 0 some)) ∙ covers_no b.lost k ws (λ j u. none_from 0 k some h j (omega arith) u)

  pub off_gap : (i k : ℕ) → i < length ws → end_of (i - 1) ≤ k → k < start_of i → σ k ≡ false
  off_gap i k h l m =
      here k (omega (arith, fits i h)) ∙ covers_no b.lost k ws
      (λ j u. elim (dec_lt j i) [ yes v ↦ none_up_to (i - 1) k (omega arith) l j (omega arith) | no v ↦ none_from i k h m j (omega arith) u ])

  -- where the windows before window i have ended by k, and window i, if there is one, has not, only window i can give k
  pub covers_by : (i k : ℕ) → i ≤ length ws → (0 < i → end_of (i - 1) ≤ k) → (i < length ws → k < end_of i) → covers b.lost ws k ≡ gives b.lost (window_at ws i) k
  covers_by i k h past ahead =
      elim (dec_lt i (length ws)) [
        | yes l ↦ elim (bool_cases (gives b.lost (window_at ws i) k)) [
          | inl e ↦ covers_at b.lost k ws i l e ∙ sym e
          | inr e ↦ covers_no b.lost k ws (λ j u. elim (ℕ_discrete j i) [ yes z ↦ rw z e | no z ↦ other j u z ]) ∙ sym e
        ]
        | no l ↦
            let past-it : window_at ws i ≡ window 0 0 = get_or-eq_default ws (window 0 0) (omega arith) in
            covers_no b.lost k ws (λ j u. before_it j (omega arith)) ∙ sym (ap (λ (w : Window). gives b.lost w k) past-it ∙ gives_after b.lost (window 0 0) k (omega arith))
      ]
    where
      before_it : (j : ℕ) → j < i → gives b.lost (window_at ws j) k ≡ false
      before_it j v = none_up_to (i - 1) k (omega arith) (past (omega arith)) j (omega arith)

      other : (j : ℕ) → j < length ws → (j ≡ i → ⊥) → gives b.lost (window_at ws j) k ≡ false
      other j u z =
          elim (dec_lt j i) [
            | yes v ↦ before_it j v
            | no v ↦ gives_before b.lost (window_at ws j) k (omega (arith, before i j (omega arith) u, ahead (omega arith)))
          ]

  off_tail : (k : ℕ) → end_of (length ws - 1) ≤ k → k < b.frame → σ k ≡ false
  off_tail k l m = here k m ∙ covers_no b.lost k ws (λ j u. none_up_to (length ws - 1) k (omega arith) l j (omega arith))

  module _ (some : 0 < length ws) where
    pub table_periodic : Periodic σ b.frame
    table_periodic = supplied_periodic b ws (omega (arith, fits 0 some))

    -- so from the end of the last window to the start of the first one of the next frame none is supplied
    pub off_round : (k : ℕ) → end_of (length ws - 1) ≤ k → k < start_of 0 + b.frame → σ k ≡ false
    off_round k l m =
        elim (dec_lt k b.frame) [
          | yes u ↦ off_tail k l u
          | no u ↦
              let e : k - b.frame + b.frame ≡ k = omega arith in
              ap σ (sym e) ∙ table_periodic.same (k - b.frame) ∙ off_head (k - b.frame) some (omega arith)
        ]

    -- and the first one's start is, where no tick is lost
    pub on_first : b.lost ≡ 0 → σ (start_of 0) ≡ true
    on_first whole = on_window 0 (start_of 0) some (omega (arith, whole)) (fits 0 some).0
