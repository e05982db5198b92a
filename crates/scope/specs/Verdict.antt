-- Document 01, "The two tests": the verdict under earliest deadline first.
use Rattle.std.specs.Prelude.{ℕ, suc, Bool, List, ltb}
use Rattle.std.proofs.Math.Option.{Option, none, some}
use Rattle.scope.specs.Numbers.{first}
use Rattle.scope.specs.Ticks.{least_supply, least_start}
use Rattle.scope.specs.Tasks.{Task, demand}

pub data Verdict : Type 0 where
  meets : (cycle : ℕ) → Verdict
  miss : (length start demand supply : ℕ) → Verdict

-- the demand of length t is above its least supply
unfoldable pub violates : (ℕ → Bool) → ℕ → List Task → ℕ → Bool
violates σ P ts t = ltb (least_supply σ P t) (demand ts t)

-- a miss is shown by its least start and both amounts
abbrev pub shown : (ℕ → Bool) → ℕ → List Task → ℕ → Option ℕ → Verdict
shown σ P ts H none = meets H
shown σ P ts H (some t) = miss t (least_start σ P t) (demand ts t) (least_supply σ P t)

-- the search ends at the first violating length up to H (at length 0 nothing is demanded)
unfoldable pub verdict : (ℕ → Bool) → ℕ → List Task → ℕ → Verdict
verdict σ P ts H = shown σ P ts H (first (violates σ P ts) (suc H))
