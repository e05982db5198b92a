-- A row of windows in a frame that repeats: where the supplied ticks are, how many come before a tick, and which starts have the least supply. Over any
-- pattern σ and any stretches [start i, end i) of the frame; a legal table's windows are such a row
use Rattle.std.specs.Prelude.{◌≡◌, Bool, true, false, List, length}
use Rattle.std.proofs.Math.Path.{refl, ap}
use Rattle.std.proofs.Common.{sym, ◌∙◌, arith, add-zero, add-suc, zero-add, le_antisymm, add-one}
use Prim.Native.Nat.{ℕ, zero, suc, ◌+◌, ◌-◌, ◌/◌, ◌%◌, ◌≤◌, ◌<◌}
use Rattle.std.proofs.Math.Nat.{zero-mod, mod-add-mod, add-mod_right}
use Rattle.std.proofs.Math.Decide.{dec_le}
use Rattle.scope.specs.Numbers.{bit, least}
use Rattle.scope.specs.Ticks.{Periodic, supply, per_frame, least_supply}
use Rattle.scope.specs.Answers.{Answer.given, ◌or_else◌, table_fault, length_fault, least_supply_answer}
use Rattle.scope.specs.Windows.{Board, window, windows_of, window_at, supplied_by}
use Rattle.theory.specs.Numbers.{bit_le, least_le, least_met}
use Rattle.theory.specs.Lists.{pieces_length}
use Rattle.theory.specs.Ticks.{supply_split, supply_le, supply_slide, supply_up, supply_shift, supply_mod, least_over_all_starts, least_is_met}
use Rattle.theory.specs.Gaps.{fits, next, on_window, off_gap, off_round, table_periodic}
use Rattle.theory.specs.Answers.{LegalTable, or_else_fine, unless_given, table_legal}

-- n stretches in order: σ is on in each of them, off between two, and off from the last to the first one of the next frame. A stretch may be empty, and may
-- begin where the one before it ends; but the ends rise
pub record Row (σ : ℕ → Bool) (P n : ℕ) (start end : ℕ → ℕ) : Type 0 where
  pub repeats : Periodic σ P
  pub some : 0 < n
  pub early : 0 < end 0
  pub order : (i : ℕ) → i < n → start i ≤ end i
  pub inside : (i : ℕ) → i < n → end i ≤ P
  pub apart : (i : ℕ) → i + 1 < n → end i ≤ start (i + 1)
  pub rise : (i : ℕ) → i + 1 < n → end i < end (i + 1)
  pub on : (i k : ℕ) → i < n → start i ≤ k → k < end i → σ k ≡ true
  pub gap : (i k : ℕ) → i + 1 < n → end i ≤ k → k < start (i + 1) → σ k ≡ false
  pub round : (k : ℕ) → end (n - 1) ≤ k → k < start 0 + P → σ k ≡ false

-- ---- a stretch of one kind of ticks

module _ (σ : ℕ → Bool) where
  supply_on : (s t : ℕ) → ((k : ℕ) → s ≤ k → k < s + t → σ k ≡ true) → supply σ s t ≡ t
  unfolding supply
  supply_on s zero on = refl
  supply_on s (suc t) on =
      omega (arith, supply_on s t (λ k h l. on k h (omega arith)), ap bit (on (s + t) (omega arith) (omega arith)))

  supply_off : (s t : ℕ) → ((k : ℕ) → s ≤ k → k < s + t → σ k ≡ false) → supply σ s t ≡ 0
  unfolding supply
  supply_off s zero off = refl
  supply_off s (suc t) off =
      omega (arith, supply_off s t (λ k h l. off k h (omega arith)), ap bit (off (s + t) (omega arith) (omega arith)))

  -- a start earlier among unsupplied ticks has no more
  back : (t e n : ℕ) → ((k : ℕ) → e ≤ k → k < e + n → σ k ≡ false) → supply σ e t ≤ supply σ (e + n) t
  back t e zero off = omega (arith, ap (λ (k : ℕ). supply σ k t) (add-zero e))
  back t e (suc n) off =
      omega (
        arith,
        back t e n (λ k h l. off k h (omega arith)),
        supply_slide σ (e + n) t,
        ap bit (off (e + n) (omega arith) (omega arith)),
        ap (λ (k : ℕ). supply σ k t) (add-suc e n),
      )

  -- and so has a later one among supplied ticks
  forth : (t s n : ℕ) → ((k : ℕ) → s ≤ k → k < s + n → σ k ≡ true) → supply σ (s + n) t ≤ supply σ s t
  forth t s zero on = omega (arith, ap (λ (k : ℕ). supply σ k t) (add-zero s))
  forth t s (suc n) on =
      omega (
        arith,
        forth t s n (λ k h l. on k h (omega arith)),
        supply_slide σ (s + n) t,
        ap bit (on (s + n) (omega arith) (omega arith)),
        bit_le (σ (s + n + t)),
        ap (λ (k : ℕ). supply σ k t) (add-suc s n),
      )

  -- the supplied ticks of a stretch, as a difference
  pub supply_between : (s t : ℕ) → supply σ 0 (s + t) ≡ supply σ 0 s + supply σ s t
  supply_between s t = supply_split σ 0 s t ∙ ap (λ (k : ℕ). supply σ 0 s + supply σ k t) (zero-add s)

module _ (σ : ℕ → Bool) (P n : ℕ) (start end : ℕ → ℕ) (row : Row σ P n start end) where
  -- ---- the starts where a stretch ends suffice

  module _ (t p : ℕ) (there : (i : ℕ) → i < n → p ≤ supply σ (end i) t) where
    -- starts in stretch i
    from_inside : (i s : ℕ) → i < n → start i ≤ s → s ≤ end i → p ≤ supply σ s t
    from_inside i s h l m =
        let e : s + (end i - s) ≡ end i = omega arith in
        omega (
          arith,
          there i h,
          forth σ t s (end i - s) (λ k u v. row.on i k h (omega arith) (omega arith)),
          ap (λ (k : ℕ). supply σ k t) e,
        )

    -- starts in the gap after it
    from_gap : (i s : ℕ) → i < n → end i ≤ s → ((k : ℕ) → end i ≤ k → k < s → σ k ≡ false) → p ≤ supply σ s t
    from_gap i s h l off =
        let e : end i + (s - end i) ≡ s = omega arith in
        omega (arith, there i h, back σ t (end i) (s - end i) (λ k u v. off k u (omega arith)), ap (λ (k : ℕ). supply σ k t) e)

    -- starts from the first stretch to the end of stretch i
    from_row : (i s : ℕ) → i < n → start 0 ≤ s → s ≤ end i → p ≤ supply σ s t
    from_row zero s h l m = from_inside 0 s h l m
    from_row (suc i) s h l m =
        let e = add-one i in
        elim (dec_le s (end i)) [
          | yes u ↦ from_row i s (omega arith) l u
          | no u ↦ elim (dec_le (start (suc i)) s) [
            | yes v ↦ from_inside (suc i) s h v m
            | no v ↦ from_gap i s (omega arith) (omega arith) (λ k x y. row.gap i k (omega arith) x (rw e (omega arith)))
          ]
        ]

    from_any : (s : ℕ) → start 0 ≤ s → s < start 0 + P → p ≤ supply σ s t
    from_any s h l =
        let last : n - 1 < n = omega (arith, row.some) in
        elim (dec_le s (end (n - 1))) [
          | yes u ↦ from_row (n - 1) s last h u
          | no u ↦ from_gap (n - 1) s last (omega arith) (λ k x y. row.round k x (omega arith))
        ]

    -- what every such start has at least, all starts have
    pub ends_enough : p ≤ least_supply σ P t
    ends_enough =
        let m = least_is_met σ P row.repeats t in
        let first : start 0 ≤ P = omega (arith, row.order 0 row.some, row.inside 0 row.some) in
        elim (dec_le (start 0) m.0) [
          | yes u ↦ omega (arith, m.2, from_any m.0 u (omega (arith, m.1)))
          | no u ↦ omega (arith, m.2, from_any (m.0 + P) (omega arith) (omega arith), supply_shift σ P row.repeats m.0 t)
        ]

  -- the least supply over the starts where a stretch ends is the least supply over all starts
  pub ends_suffice : (t : ℕ) → least (λ i. supply σ (end i) t) n ≡ least_supply σ P t
  ends_suffice t =
      let f : ℕ → ℕ = λ i. supply σ (end i) t in
      let m = least_met f n row.some in
      le_antisymm (ends_enough t (least f n) (λ i h. least_le f n i h))
      (omega (arith, m.2, least_over_all_starts σ P row.repeats (end m.0) t))

  -- ---- stretch i of the frame that begins at tick `base`, and the supplied ticks before it

  pub record Position (i base before : ℕ) : Type 0 where
    pub there : i < n
    pub frames : base % P ≡ 0
    pub holds : before ≡ supply σ 0 (base + start i)

  -- a frame's first tick is as tick 0
  framed : (base a t : ℕ) → base % P ≡ 0 → supply σ (base + a) t ≡ supply σ a t
  framed base a t e =
      sym (supply_mod σ P row.repeats (base + a) t)
      ∙ ap (λ (k : ℕ). supply σ k t) (sym (mod-add-mod base P a) ∙ ap (λ (k : ℕ). (k + a) % P) e ∙ ap (λ (k : ℕ). k % P) (zero-add a))
      ∙ supply_mod σ P row.repeats a t

  -- before the first stretch nothing is supplied
  head_off : supply σ 0 (start 0) ≡ 0
  head_off =
      let last = row.inside (n - 1) (omega (arith, row.some)) in
      sym (supply_shift σ P row.repeats 0 (start 0))
      ∙ supply_off σ (0 + P) (start 0) (λ k h l. row.round k (omega arith) (omega arith))

  pub position_first : Position 0 0 0
  position_first = record { there = row.some; frames = zero-mod P; holds = sym (ap (supply σ 0) (zero-add (start 0)) ∙ head_off) }

  module _ (i base before : ℕ) (at : Position i base before) where
    -- up to a tick x in it
    pub position_in : (x : ℕ) → base + start i ≤ x → x ≤ base + end i → supply σ 0 x ≡ before + (x - (base + start i))
    position_in x h l =
        let m : ℕ = x - (base + start i) in
        let e : base + start i + m ≡ x = omega arith in
        omega (
          arith,
          at.holds,
          ap (supply σ 0) e,
          supply_between σ (base + start i) m,
          framed base (start i) m at.frames,
          supply_on σ (start i) m (λ k u v. row.on i k at.there u (omega arith)),
        )

    -- up to a tick x in the gap before it
    pub position_before : (x : ℕ) → before ≤ supply σ 0 x → x ≤ base + start i → supply σ 0 x ≡ before
    position_before x h l = omega (arith, at.holds, supply_up σ 0 x (base + start i) l)

    -- up to its end
    pub position_end : before + (end i - start i) ≡ supply σ 0 (base + end i)
    position_end = omega (arith, row.order i at.there, position_in (base + end i) (omega (arith, row.order i at.there)) (omega arith))

    -- a tick that it ends by
    pub position_past : (x : ℕ) → base + end i ≤ x → before + (end i - start i) ≤ supply σ 0 x
    position_past x h = omega (arith, position_end, supply_up σ 0 (base + end i) x h)

    -- no more than there are ticks
    pub position_most : before ≤ base + P
    position_most = omega (arith, row.order i at.there, row.inside i at.there, at.holds, supply_le σ 0 (base + start i))

    -- over a gap from its end on
    over : (m : ℕ) → ((k : ℕ) → end i ≤ k → k < end i + m → σ k ≡ false) → supply σ 0 (base + end i + m) ≡ before + (end i - start i)
    over m off =
        omega (arith, position_end, supply_between σ (base + end i) m, framed base (end i) m at.frames, supply_off σ (end i) m off)

    -- the next one, in this frame or, after the last, in the next
    pub position_next : i + 1 < n → Position (i + 1) base (before + (end i - start i))
    position_next h =
        let g = row.apart i h in
        let e : base + end i + (start (i + 1) - end i) ≡ base + start (i + 1) = omega arith in
        record {
          there = h;
          frames = at.frames;
          holds = sym (over (start (i + 1) - end i) (λ k u v. row.gap i k h u (omega arith))) ∙ ap (supply σ 0) e;
        }

    pub position_round : n ≤ i + 1 → Position 0 (base + P) (before + (end i - start i))
    position_round h =
        let last : i ≡ n - 1 = omega (arith, at.there) in
        let in_frame = row.inside i at.there in
        let e : base + end i + (start 0 + P - end i) ≡ base + P + start 0 = omega arith in
        record {
          there = row.some;
          frames = add-mod_right base P ∙ at.frames;
          holds = sym (over (start 0 + P - end i) (λ k u v. row.round k (rw (← last) u) (omega arith))) ∙ ap (supply σ 0) e;
        }

  -- once round, A ticks are supplied
  pub position_whole : (before : ℕ) → Position 0 (0 + P) before → before ≡ per_frame σ P
  position_whole before at =
      omega (
        arith,
        at.holds,
        ap (λ (k : ℕ). supply σ 0 (k + start 0)) (zero-add P),
        supply_between σ P (start 0),
        supply_shift σ P row.repeats 0 (start 0),
        ap (λ (k : ℕ). supply σ k (start 0)) (zero-add P),
        head_off,
      )

-- ---- a legal table

abbrev pub start_of : List ℕ → ℕ → ℕ
start_of ws i = (window_at (windows_of ws) i).start

abbrev pub end_of : List ℕ → ℕ → ℕ
end_of ws i = (window_at (windows_of ws) i).end

module _ (b : Board) (ws : List ℕ) (ok : LegalTable b ws) where
  pub table_row : Row (supplied_by b ws) b.frame (length ws / 2) (start_of ws) (end_of ws)
  table_row =
      let all = windows_of ws in
      let count : length all ≡ length ws / 2 = pieces_length _ 2 window ws in
      let one : 0 < length all = omega (arith, ok.even, ok.some) in
      let within : (i : ℕ) → i < length ws / 2 → i < length all = λ i h. omega arith in
      let after : (i : ℕ) → i + 1 < length ws / 2 → end_of ws i < start_of ws (i + 1) = λ i h.
      let e : i + 1 - 1 ≡ i = omega arith in rw e at (next b all ok.windows (i + 1) (omega arith) (within (i + 1) h)) in
      record {
        repeats = table_periodic b all ok.windows one;
        some = omega arith;
        early = omega (arith, fits b all ok.windows 0 one);
        order = λ i h. omega (arith, fits b all ok.windows i (within i h));
        inside = λ i h. (fits b all ok.windows i (within i h)).1;
        apart = λ i h. omega (arith, after i h);
        rise = λ i h. omega (arith, after i h, fits b all ok.windows (i + 1) (within (i + 1) h));
        on = λ i k h l. on_window b all ok.windows i k (within i h) (omega (arith, l, ok.whole));
        gap = λ i k h l m. let e : i + 1 - 1 ≡ i = omega arith in off_gap b all ok.windows (i + 1) k (within (i + 1) h) (rw e l) m;
        round = λ k l m. off_round b all ok.windows one k (rw count l) m;
      }

-- ---- the entry, of pairs of which nothing is lost: the least supply is the least over the starts where a window ends

pub ends_answer : (b : Board) (ws : List ℕ) (t v : ℕ) → b.lost ≡ 0 → least_supply_answer b ws t ≡ given v →
    v ≡ least (λ i. supply (supplied_by b ws) (end_of ws i) t) (length ws / 2)
unfolding least_supply_answer
ends_answer b ws t v whole e =
    let g = unless_given (table_fault b ws or_else length_fault t) (least_supply (supplied_by b ws) b.frame t) v e in
    let ok = table_legal b ws (or_else_fine (table_fault b ws) (length_fault t) g.0).0 whole in
    sym g.1 ∙ sym (ends_suffice (supplied_by b ws) b.frame (length ws / 2) (start_of ws) (end_of ws) (table_row b ws ok) t)
