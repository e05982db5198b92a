-- Document 01, "The two tests": the response bound under fixed priority, lower index first.
use Rattle.std.specs.Prelude.{ℕ, suc, ◌+◌, ◌-◌, ◌*◌, ◌/◌, Bool, ◌&&◌, List, leb}
use Rattle.std.proofs.Math.Option.{Option, none, some}
use Rattle.scope.specs.Numbers.{sum, first}
use Rattle.scope.specs.Ticks.{least_supply}
use Rattle.scope.specs.Tasks.{Task, task_at}

pub data Bound : Type 0 where
  bound : (length : ℕ) → Bound
  no_bound : Bound

-- ceil(t/T)
abbrev pub ceil : ℕ → ℕ → ℕ
ceil t T = (t + (T - 1)) / T

-- C + the sum over lower indices j of ceil(t/Tj)·Cj
unfoldable pub asked : List Task → ℕ → ℕ → ℕ
asked ts i t = (task_at ts i).C + sum (λ j. ceil t (task_at ts j).T * (task_at ts j).C) i

-- t is at least 1, and its least supply is at least what task i and those above it ask for
unfoldable pub suffices : (ℕ → Bool) → ℕ → List Task → ℕ → ℕ → Bool
suffices σ P ts i t = leb 1 t && leb (asked ts i t) (least_supply σ P t)

abbrev pub or_no_bound : Option ℕ → Bound
or_no_bound none = no_bound
or_no_bound (some t) = bound t

-- the least t in 1 to D that suffices
unfoldable pub response : (ℕ → Bool) → ℕ → List Task → ℕ → Bound
response σ P ts i = or_no_bound (first (suffices σ P ts i) (suc (task_at ts i).D))
