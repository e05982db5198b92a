-- Ticks cut into q: the least supply of a whole number of ticks is q times as much, so no start between two ticks has less
use Rattle.std.specs.Prelude.{◌≡◌, Bool, ◌⊎◌, leb, ltb}
use Rattle.std.proofs.Math.Path.{refl, ap, fun_ext}
use Rattle.std.proofs.Common.{sym, ◌∙◌, inl, inr, mod-lt, le-div_iff_mul-le, div-lt_iff_lt-mul, mul-le-mul_left, le-leb, lt-ltb, le-ltb}
use mathlib.Core.List.{List, [], ◌∷◌}
use Prim.Native.Nat.{ℕ, zero, suc, ◌+◌, ◌-◌, ◌*◌, ◌/◌, ◌%◌, ◌≤◌, ◌<◌}
use native.Mathlib.Omega.{arith}
use Rattle.std.proofs.Math.Nat.{mul-add-div, div-eq_of_lt, div-add-mod}
use Rattle.std.proofs.Math.Decide.{dec_le}
use Rattle.std.proofs.Math.Arith.{mod-mul}
use Rattle.std.proofs.lemmas.Bool.{lt-leb}
use Rattle.scope.specs.Numbers.{bit}
use Rattle.scope.specs.Ticks.{Periodic, supply, least_supply}
use Rattle.scope.specs.Windows.{Board, Window, window, gives, covers, supplied}
use Rattle.scope.specs.Demands.{finer_board, finer_windows}
use Rattle.theory.specs.Ticks.{supply_split, supply_slide, least_over_all_starts, least_is_met, least_unique}
use Rattle.theory.specs.Windows.{supplied_periodic}

-- ---- any pattern, each of its ticks cut into q

abbrev pub finer : ℕ → (ℕ → Bool) → ℕ → Bool
finer q σ k = σ (k / q)

module _ (q : ℕ) (pos : 1 ≤ q) (σ : ℕ → Bool) where
  -- the parts of a tick are supplied where the tick is
  finer_tick : (s r : ℕ) → r ≤ q → supply (finer q σ) (q * s) r ≡ r * bit (σ s)
  unfolding supply
  finer_tick s zero h = omega arith
  finer_tick s (suc r) h =
      let e : (q * s + r) / q ≡ s = omega (arith, mul-add-div pos s r, div-eq_of_lt h) in
      omega (arith, finer_tick s r (omega arith), ap (λ (k : ℕ). bit (σ k)) e)

  -- from a whole tick on there is q times the supply
  finer_whole : (s t : ℕ) → supply (finer q σ) (q * s) (q * t) ≡ q * supply σ s t
  unfolding supply
  finer_whole s zero = let e : q * 0 ≡ 0 = omega arith in omega (arith, ap (supply (finer q σ) (q * s)) e)
  finer_whole s (suc t) =
      let e : q * suc t ≡ q * t + q = omega arith in
      let u : q * s + q * t ≡ q * (s + t) = omega arith in
      omega (
        arith,
        ap (supply (finer q σ) (q * s)) e,
        supply_split (finer q σ) (q * s) (q * t) q,
        ap (λ (k : ℕ). supply (finer q σ) k q) u,
        finer_tick (s + t) q (omega arith),
        finer_whole s t,
      )

  -- r parts after tick s and u parts before the next one: u times the supply from the one and r times that from the other
  finer_between : (s t r u : ℕ) → r + u ≡ q →
      supply (finer q σ) (q * s + r) (q * t) ≡ u * supply σ s t + r * supply σ (suc s) t
  finer_between s t r u h =
      let e : r + q * t ≡ q * t + r = omega arith in
      let v : q * s + q * t ≡ q * (s + t) = omega arith in
      let w : q * supply σ s t ≡ (r + u) * supply σ s t = ap (λ (k : ℕ). k * supply σ s t) (sym h) in
      let z : r * (supply σ (suc s) t + bit (σ s)) ≡ r * (supply σ s t + bit (σ (s + t))) = ap (λ (k : ℕ). r * k) (supply_slide σ s t) in
      omega (
        arith,
        supply_split (finer q σ) (q * s) r (q * t),
        supply_split (finer q σ) (q * s) (q * t) r,
        ap (supply (finer q σ) (q * s)) e,
        ap (λ (k : ℕ). supply (finer q σ) k r) v,
        finer_tick s r (omega arith),
        finer_tick (s + t) r (omega arith),
        finer_whole s t,
        w,
        z,
      )

module _ (q : ℕ) (pos : 1 ≤ q) (σ : ℕ → Bool) (P : ℕ) (per : Periodic σ P) where
  -- it repeats with the finer frame
  finer_periodic : Periodic (finer q σ) (q * P)
  finer_periodic = record { some = omega (arith, mul-le-mul_left q per.some); same = again }
    where
      again : (k : ℕ) → σ ((k + q * P) / q) ≡ σ (k / q)
      again k =
          let e : k + q * P ≡ q * P + k = omega arith in
          let z : (k + q * P) / q ≡ k / q + P = omega (arith, ap (λ (i : ℕ). i / q) e, mul-add-div pos P k) in
          ap σ z ∙ per.same (k / q)

  -- no start, on a tick or between two, has less than q times the least supply
  finer_above : (t x : ℕ) → q * least_supply σ P t ≤ supply (finer q σ) x (q * t)
  finer_above t x =
      let s : ℕ = x / q in
      let r : ℕ = x % q in
      let h : r + (q - r) ≡ q = omega (arith, mod-lt x pos) in
      omega (
        arith,
        ap (λ (k : ℕ). supply (finer q σ) k (q * t)) (div-add-mod x q),
        finer_between q pos σ s t r (q - r) h,
        ap (λ (k : ℕ). k * least_supply σ P t) h,
        mul-le-mul_left (q - r) (least_over_all_starts σ P per s t),
        mul-le-mul_left r (least_over_all_starts σ P per (suc s) t),
      )

  -- the start that holds the least supply still holds it
  pub least_finer : (t : ℕ) → least_supply (finer q σ) (q * P) (q * t) ≡ q * least_supply σ P t
  least_finer t =
      let m = least_is_met σ P per t in
      least_unique (finer q σ) (q * P) finer_periodic (q * t) (q * least_supply σ P t) (q * m.0) (finer_above t)
      (finer_whole q pos σ m.0 t ∙ ap (λ (k : ℕ). q * k) m.2)

-- ---- a window table, each of its ticks cut into q

module _ (q : ℕ) (pos : 1 ≤ q) where
  -- a part lies at or after a finer edge exactly where its tick does so with the edge
  finer_edge : (a y : ℕ) → ((q * a ≤ y) × (a ≤ y / q)) ⊎ ((y < q * a) × (y / q < a))
  finer_edge a y =
      elim (dec_le a (y / q)) [
        | yes h ↦ let l : a * q ≤ y = (le-div_iff_mul-le pos).0 h in inl (omega arith)
        | no h ↦
            let g : y / q < a = omega arith in
            let l : y < a * q = (div-lt_iff_lt-mul pos).0 g in
            inr (omega arith)
      ]

  finer_start : (a y : ℕ) → leb (q * a) y ≡ leb a (y / q)
  finer_start a y =
      elim (finer_edge a y) [
        | inl h ↦ le-leb (q * a) y h.0 ∙ sym (le-leb a (y / q) h.1)
        | inr h ↦ lt-leb (q * a) y h.0 ∙ sym (lt-leb a (y / q) h.1)
      ]

  finer_end : (y b : ℕ) → ltb y (q * b) ≡ ltb (y / q) b
  finer_end y b =
      elim (finer_edge b y) [
        | inl h ↦ le-ltb y (q * b) h.0 ∙ sym (le-ltb (y / q) b h.1)
        | inr h ↦ lt-ltb y (q * b) h.0 ∙ sym (lt-ltb (y / q) b h.1)
      ]

  -- a finer window gives the parts of the ticks that the window gives
  finer_gives : (lost : ℕ) (w : Window) (y : ℕ) → gives (q * lost) (window (q * w.start) (q * w.end)) y ≡ gives lost w (y / q)
  unfolding gives
  finer_gives lost w y =
      let e : q * lost + q * w.start ≡ q * (lost + w.start) = omega arith in
      rw (e, finer_start (lost + w.start) y, finer_end y w.end)

  finer_covers : (lost : ℕ) (ws : List Window) (y : ℕ) → covers (q * lost) (finer_windows q ws) y ≡ covers lost ws (y / q)
  unfolding covers
  finer_covers lost [] y = refl
  finer_covers lost (w ∷ ws) y = rw (finer_gives lost w y, finer_covers lost ws y)

  -- a part's place in the finer frame lies in the tick's place in the frame
  finer_place : (P k : ℕ) → 0 < P → (k % (q * P)) / q ≡ (k / q) % P
  finer_place P k h =
      let e : q * P ≡ P * q = omega arith in
      let w : k % (q * P) ≡ q * ((k / q) % P) + k % q = omega (arith, ap (λ (i : ℕ). k % i) e, mod-mul k h pos) in
      omega (arith, ap (λ (i : ℕ). i / q) w, mul-add-div pos ((k / q) % P) (k % q), div-eq_of_lt (mod-lt k pos))

  finer_supplied : (b : Board) (ws : List Window) → 0 < b.frame → supplied (finer_board q b) (finer_windows q ws) ≡ finer q (supplied b ws)
  unfolding supplied
  finer_supplied b ws h = fun_ext (λ k. finer_covers b.lost ws (k % (q * b.frame)) ∙ ap (covers b.lost ws) (finer_place b.frame k h))

-- in q-th parts of a tick the least supply of t ticks is q times as much
pub finer_least : (b : Board) (ws : List Window) (q : ℕ) → 0 < b.frame → 1 ≤ q → (t : ℕ) →
    least_supply (supplied (finer_board q b) (finer_windows q ws)) (q * b.frame) (q * t) ≡ q * least_supply (supplied b ws) b.frame t
finer_least b ws q h pos t =
    ap (λ (σ : ℕ → Bool). least_supply σ (q * b.frame) (q * t)) (finer_supplied q pos b ws h)
    ∙ least_finer q pos (supplied b ws) b.frame (supplied_periodic b ws h) t
