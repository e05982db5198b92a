-- Document 01, "Supply and demand": the critical partition and the delay; document 02, request 1: the longest outage. Over any pattern σ.
use Rattle.std.specs.Prelude.{ℕ, zero, suc, ◌+◌, ◌-◌, ◌*◌, Bool, not, cond, ◌&&◌, List, ltb}
use Rattle.scope.specs.Numbers.{greatest, keep}
use Rattle.scope.specs.Ticks.{per_frame, least_supply}

-- the least supply of t + 1 exceeds that of t
unfoldable pub rises : (ℕ → Bool) → ℕ → ℕ → Bool
rises σ P t = ltb (least_supply σ P t) (least_supply σ P (t + 1))

-- the pattern p in the ticks 0 to n − 1, and false from n on
unfoldable pub within : (ℕ → Bool) → ℕ → ℕ → Bool
within p n k = ltb k n && p k

-- a maximal run of p starts or ends at k: p at k differs from p just before k, which is false before tick 0
unfoldable pub edge : (ℕ → Bool) → ℕ → Bool
edge p k = cond (p k) (not (ltb 0 k && p (k - 1))) (ltb 0 k && p (k - 1))

-- the maximal runs of p among the ticks 0 to n − 1: start, end, start, end, ..
unfoldable pub maximal_runs : (ℕ → Bool) → ℕ → List ℕ
maximal_runs p n = keep (edge (within p n)) (n + 1)

-- the windows of the critical partition: the maximal runs of ticks in 0 to P − 1 at which the least supply rises
unfoldable pub critical : (ℕ → Bool) → ℕ → List ℕ
critical σ P = maximal_runs (rises σ P) P

-- A·t − P·(least supply of t)
unfoldable pub lag : (ℕ → Bool) → ℕ → ℕ → ℕ
lag σ P t = per_frame σ P * t - P * least_supply σ P t

-- the greatest of these over t in 0 to P
unfoldable pub delay : (ℕ → Bool) → ℕ → ℕ
delay σ P = greatest (lag σ P) (P + 1)

-- the length of the run of unsupplied ticks that starts at tick s, of which at most n ticks are looked at
unfoldable pub outage_from : (ℕ → Bool) → ℕ → ℕ → ℕ
outage_from σ s zero = 0
outage_from σ s (suc n) = cond (σ s) 0 (outage_from σ (s + 1) n + 1)

-- the longest run of unsupplied ticks over endless frames, 0 if every tick is supplied: a run starts at some tick of a frame and goes on over its
-- end. Where σ repeats with P and supplies a tick, P ticks show the end of any run: `outage_there` and `outage_longest` (theory/Outage) are that law
unfoldable pub outage : (ℕ → Bool) → ℕ → ℕ
outage σ P = greatest (λ s. outage_from σ s P) P
