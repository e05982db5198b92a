-- Document 01, "Supply and demand": supply, over any pattern σ of supplied ticks.
use Rattle.std.specs.Prelude.{ℕ, zero, suc, ◌+◌, ◌<◌, ◌≡◌, Bool, eqb}
use Rattle.scope.specs.Numbers.{bit, least, first, or_zero}

-- σ repeats with the frame P
pub record Periodic (σ : ℕ → Bool) (P : ℕ) : Type 0 where
  pub some : 0 < P
  pub same : (k : ℕ) → σ (k + P) ≡ σ k

-- how many of the t ticks s, s + 1, .., s + t − 1 are supplied
unfoldable pub supply : (ℕ → Bool) → ℕ → ℕ → ℕ
supply σ s zero = 0
supply σ s (suc t) = supply σ s t + bit (σ (s + t))

-- A: the supplied ticks of one frame
abbrev pub per_frame : (ℕ → Bool) → ℕ → ℕ
per_frame σ P = supply σ 0 P

-- the least supply of length t, over the starts 0 to P − 1
unfoldable pub least_supply : (ℕ → Bool) → ℕ → ℕ → ℕ
least_supply σ P t = least (λ s. supply σ s t) P

-- the least start in 0 to P − 1 whose next t ticks hold the least supply
unfoldable pub least_start : (ℕ → Bool) → ℕ → ℕ → ℕ
least_start σ P t = or_zero (first (λ s. eqb (supply σ s t) (least_supply σ P t)) P)
