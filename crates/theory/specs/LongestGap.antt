-- The longest outage of a legal table is its longest gap, as a loop over the windows finds it
use Rattle.std.specs.Prelude.{◌≡◌, Bool, true, List, ℕ, ◌+◌, ◌-◌, ◌≤◌, ◌<◌, max, length}
use Rattle.std.proofs.Common.{sym, ap, ◌∙◌, true≢false, arith, add-zero}
use Rattle.std.proofs.Math.Option.{none}
use Rattle.std.proofs.Math.Decide.{dec_lt, dec_le}
use Rattle.scope.specs.Ticks.{Periodic}
use Rattle.scope.specs.Windows.{Board, Window, window_at, supplied, bad_window}
use Rattle.scope.specs.Partition.{outage}
use Rattle.scope.specs.Demands.{Silent}
use Rattle.theory.specs.Gaps.{fits, next, on_window, off_gap, off_round, on_first, table_periodic}
use Rattle.theory.specs.Outage.{outage_there, outage_longest}

-- ---- over any pattern

-- of the runs that start in the ticks from a up to, not including, z none has more than n ticks, and so many in a row are unsupplied
pub record Longest (σ : ℕ → Bool) (a z n : ℕ) : Type 0 where
  at : ℕ
  silent : Silent σ at n
  ends : (s : ℕ) → a ≤ s → s < z → (k : ℕ) × (k ≤ n) × (σ (s + k) ≡ true)

module _ (σ : ℕ → Bool) where
  longest_none : (a : ℕ) → Longest σ a a 0
  longest_none a = record { at = a; silent = λ k l. absurd (omega arith); ends = λ s h l. absurd (omega arith) }

  module _ (a z n : ℕ) (so : Longest σ a z n) where
    -- supplied ticks up to e
    longest_on : (e : ℕ) → ((k : ℕ) → z ≤ k → k < e → σ k ≡ true) → Longest σ a e n
    longest_on e on =
        record {
          at = so.at;
          silent = so.silent;
          ends = λ s h l. elim (dec_lt s z) [
            | yes u ↦ so.ends s h u
            | no u ↦ (0, omega arith, ap σ (add-zero s) ∙ on s (omega arith) l)
          ];
        }

    -- a gap of g ticks, then a supplied one
    longest_gap : (g : ℕ) → Silent σ z g → σ (z + g) ≡ true → Longest σ a (z + g) (max n g)
    longest_gap g off on =
        elim (dec_le n g) [
          | yes h ↦ let e : max n g ≡ g = omega arith in record { at = z; silent = rw e off; ends = ends }
          | no h ↦ let e : max n g ≡ n = omega arith in record { at = so.at; silent = rw e so.silent; ends = ends }
        ]
      where
        ends : (s : ℕ) → a ≤ s → s < z + g → (k : ℕ) × (k ≤ max n g) × (σ (s + k) ≡ true)
        ends s h l =
            elim (dec_lt s z) [
              | yes u ↦ let r = so.ends s h u in (r.0, omega (arith, r.1), r.2)
              | no u ↦ let e : s + (z + g - s) ≡ z + g = omega arith in (z + g - s, omega arith, ap σ e ∙ on)
            ]

  -- once round it is the longest outage
  longest_round : (P a n : ℕ) → Periodic σ P → a < P → Longest σ a (a + P) n → n ≡ outage σ P
  longest_round P a n per h so =
      let first = so.ends a (omega arith) (omega (arith, per.some)) in
      let most = outage_longest σ P per (a + first.0) first.2 so.at n so.silent in
      let there = outage_there σ P per in
      elim (dec_lt n (outage σ P)) [
        | yes l ↦ absurd (later there.0 there.1 l there.2)
        | no l ↦ omega (arith, most)
      ]
    where
      later : (s : ℕ) → s < P → n < outage σ P → Silent σ s (outage σ P) → ⊥
      later s u l off =
          elim (dec_le a s) [
            | yes v ↦ let r = so.ends s v (omega arith) in true≢false (sym r.2 ∙ off r.0 (omega (arith, r.1)))
            | no v ↦
                let r = so.ends (s + P) (omega arith) (omega arith) in
                let e : s + P + r.0 ≡ s + r.0 + P = omega arith in
                true≢false (sym r.2 ∙ ap σ e ∙ per.same (s + r.0) ∙ off r.0 (omega (arith, r.1)))
          ]

-- ---- window by window

-- the first i windows are passed: the last of them ends at z, and n is the longest run of those that start from a on and before z
pub record Passed (b : Board) (ws : List Window) (a i z n : ℕ) : Type 0 where
  pub some : 0 < i
  pub few : i ≤ length ws
  pub end : z ≡ (window_at ws (i - 1)).end
  pub longest : Longest (supplied b ws) a z n

module _ (b : Board) (ws : List Window) (whole : b.lost ≡ 0) (legal : bad_window b ws ≡ none) where
  abbrev σ : ℕ → Bool
  σ = supplied b ws

  pub passed_first : (w : Window) → 0 < length ws → w ≡ window_at ws 0 → Passed b ws w.start 1 w.end 0
  passed_first w some e =
      let starts = ap (λ (v : Window). v.start) e in
      let ends = ap (λ (v : Window). v.end) e in
      record {
        some = omega arith;
        few = omega arith;
        end = ends;
        longest = longest_on σ w.start w.start 0 (longest_none σ w.start) w.end
            (λ k h l. on_window b ws legal 0 k some (omega (arith, whole)) (omega arith));
      }

  module _ (a i z n : ℕ) (so : Passed b ws a i z n) where
    -- the gap before the next window, and that window
    pub passed_next : (w : Window) → i < length ws → w ≡ window_at ws i → (z ≤ w.start) × Passed b ws a (i + 1) w.end (max n (w.start - z))
    passed_next w l e =
        let starts = ap (λ (v : Window). v.start) e in
        let ends = ap (λ (v : Window). v.end) e in
        let after : z < w.start = omega (arith, so.end, next b ws legal i so.some l) in
        let g : ℕ = w.start - z in
        let gap = longest_gap σ a z n so.longest g (λ k h. off_gap b ws legal i (z + k) l (omega (arith, so.end)) (omega arith))
        (on_window b ws legal i (z + g) l (omega (arith, whole)) (omega (arith, fits b ws legal i l))) in (
          omega arith,
          record {
            some = omega arith;
            few = omega arith;
            end = let back : i + 1 - 1 ≡ i = omega arith in ends ∙ ap (λ (j : ℕ). (window_at ws j).end) (sym back);
            longest = longest_on σ a (z + g) (max n g) gap w.end (λ k h m. on_window b ws legal i k l (omega (arith, whole)) (omega arith));
          },
        )

    -- after the last one comes the gap to the first window of the next frame
    pub passed_last : i ≡ length ws → a ≡ (window_at ws 0).start →
        (z ≤ b.frame) × (a ≤ b.frame) × (max n (b.frame - z + a) ≡ outage σ b.frame)
    passed_last l e =
        let P : ℕ = b.frame in
        let some : 0 < length ws = omega (arith, so.some) in
        let per = table_periodic b ws legal some in
        let last : z ≡ (window_at ws (length ws - 1)).end = so.end ∙ ap (λ (j : ℕ). (window_at ws (j - 1)).end) l in
        let in_frame : z ≤ P = omega (arith, fits b ws legal (length ws - 1) (omega arith)) in
        let first : a < P = omega (arith, fits b ws legal 0 some) in
        let g : ℕ = P - z + a in
        let round : z + g ≡ a + P = omega arith in
        let gap = longest_gap σ a z n so.longest g (λ k h. off_round b ws legal some (z + k) (omega arith) (omega arith))
        (ap σ round ∙ per.same a ∙ ap σ e ∙ on_first b ws legal some whole) in
        (in_frame, omega arith, longest_round σ P a (max n g) per first (rw round at gap))
