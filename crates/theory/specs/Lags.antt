-- The delay by pieces: the greatest lag of a piece's lengths stands at one of its two ends
use Rattle.std.specs.Prelude.{◌≡◌, Bool, true, false}
use Rattle.std.proofs.Common.{ap, arith, add-zero, add-suc, mul-le-mul}
use Prim.Native.Nat.{ℕ, zero, suc, ◌+◌, ◌-◌, ◌*◌, ◌≤◌, ◌<◌, max}
use Rattle.std.proofs.Math.Decide.{ℕ_discrete}
use Rattle.scope.specs.Numbers.{bit, greatest}
use Rattle.scope.specs.Limits.{most_frame, most_number}
use Rattle.scope.specs.Ticks.{Periodic, per_frame, least_supply}
use Rattle.scope.specs.Partition.{rises, lag, delay}
use Rattle.theory.specs.Ticks.{supply_le}
use Rattle.theory.specs.Partition.{rise}
use Rattle.theory.specs.Delay.{lag_exact, lag_frames, delay_met}
use Rattle.theory.specs.Pieces.{Piece}

module _ (σ : ℕ → Bool) (P : ℕ) (per : Periodic σ P) where
  abbrev A : ℕ
  A = per_frame σ P

  abbrev lag_at : ℕ → ℕ
  lag_at = lag σ P

  -- a tick at which the least supply stays adds A, one at which it rises takes P − A
  pub lag_stays : (t : ℕ) → rises σ P t ≡ false → lag_at (suc t) ≡ lag_at t + A
  lag_stays t e =
      let l : least_supply σ P (suc t) ≡ least_supply σ P t = omega (arith, rise σ P per t, ap bit e) in
      omega (arith, lag_exact σ P per t, lag_exact σ P per (suc t), ap (λ (x : ℕ). P * x) l)

  pub lag_rises : (t : ℕ) → rises σ P t ≡ true → lag_at (suc t) + P ≡ lag_at t + A
  lag_rises t e =
      let l : least_supply σ P (suc t) ≡ least_supply σ P t + 1 = omega (arith, rise σ P per t, ap bit e) in
      omega (arith, lag_exact σ P per t, lag_exact σ P per (suc t), ap (λ (x : ℕ). P * x) l)

  falls : (t : ℕ) → rises σ P t ≡ true → lag_at (suc t) ≤ lag_at t
  falls t e = omega (arith, lag_rises t e, supply_le σ 0 P)

  -- over rising ticks the lag falls, over the others it grows
  lag_down : (a x : ℕ) → ((k : ℕ) → a ≤ k → k < a + x → rises σ P k ≡ true) → lag_at (a + x) ≤ lag_at a
  lag_down a zero on = omega (arith, ap lag_at (add-zero a))
  lag_down a (suc x) on =
      omega (arith, lag_down a x (λ k h l. on k h (omega arith)), falls (a + x) (on (a + x) (omega arith) (omega arith)), ap lag_at (add-suc a x))

  -- the delay fits 32 bits: a whole frame does not lag, and a shorter length t lags at most A·t
  pub delay_fits : P ≤ most_frame → delay σ P ≤ most_number
  delay_fits h = let m = delay_met σ P per in elim (ℕ_discrete m.0 P) [
    | yes e ↦ let z : 0 + 1 * P ≡ m.0 = omega (arith, e) in omega (arith, m.2, ap lag_at z, lag_frames σ P per 1 0, lag_exact σ P per 0)
    | no e ↦
        let x : A ≤ most_frame = omega (arith, supply_le σ 0 P) in
        let y : m.0 ≤ most_frame - 1 = omega (arith, m.1) in
        omega (arith, m.2, lag_exact σ P per m.0, mul-le-mul x y)
  ]

  -- ---- by pieces: the greatest lag of the lengths up to a piece's end

  grows : (a x : ℕ) → ((k : ℕ) → a ≤ k → k < a + x → rises σ P k ≡ false) → greatest lag_at (suc (a + x)) ≡ max (greatest lag_at (suc a)) (lag_at (a + x))
  unfolding greatest
  grows a zero off = rw (add-zero a) (omega arith)
  grows a (suc x) off =
      let s = lag_stays (a + x) (off (a + x) (omega arith) (omega arith)) in
      rw (add-suc a x) (omega (arith, s, grows a x (λ k h l. off k h (omega arith))))

  sinks : (a x : ℕ) → ((k : ℕ) → a ≤ k → k < a + x → rises σ P k ≡ true) → greatest lag_at (suc (a + x)) ≡ max (greatest lag_at (suc a)) (lag_at (a + x))
  unfolding greatest
  sinks a zero on = rw (add-zero a) (omega arith)
  sinks a (suc x) on =
      let down = lag_down a x (λ k h l. on k h (omega arith)) in
      let s = falls (a + x) (on (a + x) (omega arith) (omega arith)) in
      rw (add-suc a x) (omega (arith, s, down, sinks a x (λ k h l. on k h (omega arith))))

  pub piece_lag : (t end least : ℕ) (rising : Bool) → Piece σ P t rising end least → greatest lag_at (end + 1) ≡ max (greatest lag_at (t + 1)) (lag_at end)
  piece_lag t end least rising p =
      let e : t + (end - t) ≡ end = omega (arith, p.after) in
      let x : end + 1 ≡ suc (t + (end - t)) = omega (arith, p.after) in
      let y : t + 1 ≡ suc t = omega arith in
      omega (arith, go rising p.same, ap lag_at e, ap (greatest lag_at) x, ap (greatest lag_at) y)
    where
      go : (b : Bool) → ((k : ℕ) → t ≤ k → k < end → rises σ P k ≡ b) →
          greatest lag_at (suc (t + (end - t))) ≡ max (greatest lag_at (suc t)) (lag_at (t + (end - t)))
      go true same = sinks t (end - t) (λ k h l. same k h (omega (arith, p.after)))
      go false same = grows t (end - t) (λ k h l. same k h (omega (arith, p.after)))
