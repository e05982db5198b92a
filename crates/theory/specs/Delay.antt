-- Laws of the delay: how far, at any length, the least supply falls behind the average
use Rattle.std.specs.Prelude.{◌≡◌, refl, Bool}
use Rattle.std.proofs.Math.Path.{ap}
use Prim.Native.Nat.{ℕ, zero, suc, ◌+◌, ◌*◌, ◌/◌, ◌%◌, ◌≤◌, ◌<◌}
use native.Mathlib.Omega.{arith}
use Rattle.std.proofs.Common.{add_comm}
use Rattle.std.proofs.Math.Nat.{mod-lt, mod-add-div'}
use Rattle.scope.specs.Numbers.{bit, sum}
use Rattle.scope.specs.Ticks.{Periodic, supply, per_frame, least_supply}
use Rattle.scope.specs.Partition.{lag, delay}
use Rattle.theory.specs.Numbers.{sum_le, sum_zero, sum_same, greatest_ge, greatest_met}
use Rattle.theory.specs.Ticks.{supply_frame, least_over_all_starts, least_frames}

-- one tick more at each of the starts 0 to n − 1: these are n ticks in a row
starts_more : (σ : ℕ → Bool) (t n : ℕ) → sum (λ s. supply σ s (suc t)) n ≡ sum (λ s. supply σ s t) n + supply σ t n
unfolding sum supply
starts_more σ t zero = refl
starts_more σ t (suc n) = omega (arith, starts_more σ t n, ap (λ (k : ℕ). bit (σ k)) (add_comm n t))

module _ (σ : ℕ → Bool) (P : ℕ) (per : Periodic σ P) where
  -- over the P starts together, t ticks hold t times the supply of a frame
  starts_total : (t : ℕ) → sum (λ s. supply σ s t) P ≡ per_frame σ P * t
  unfolding supply
  starts_total zero = omega (arith, sum_zero P)
  starts_total (suc t) = omega (arith, starts_more σ t P, starts_total t, supply_frame σ P per t)

  -- the least supply is at most the average
  pub least_average : (t : ℕ) → P * least_supply σ P t ≤ per_frame σ P * t
  least_average t =
      omega (
        arith,
        starts_total t,
        sum_same (least_supply σ P t) P,
        sum_le (λ s. least_supply σ P t) (λ s. supply σ s t) P (λ s l. least_over_all_starts σ P per s t),
      )

  -- so the subtraction loses nothing
  pub lag_exact : (t : ℕ) → lag σ P t + P * least_supply σ P t ≡ per_frame σ P * t
  unfolding lag
  lag_exact t = omega (arith, least_average t)

  -- whole frames more leave the lag as it is
  pub lag_frames : (q t : ℕ) → lag σ P (t + q * P) ≡ lag σ P t
  lag_frames q t =
      omega (arith, lag_exact (t + q * P), lag_exact t, ap (λ (x : ℕ). P * x) (least_frames σ P per q t))

  -- no length, however long, lags more than the delay
  pub delay_greatest : (t : ℕ) → per_frame σ P * t ≤ P * least_supply σ P t + delay σ P
  unfolding delay
  delay_greatest t =
      let r : t % P < P + 1 = omega (arith, mod-lt t per.some) in
      omega (
        arith,
        lag_exact t,
        ap (lag σ P) (mod-add-div' t P),
        lag_frames (t / P) (t % P),
        greatest_ge (lag σ P) (P + 1) (t % P) r,
      )

  -- and some length of at most a frame lags that much
  pub delay_met : (t : ℕ) × (t ≤ P) × (lag σ P t ≡ delay σ P)
  unfolding delay
  delay_met = let m = greatest_met (lag σ P) (P + 1) (omega arith) in (m.0, omega (arith, m.1), m.2)
