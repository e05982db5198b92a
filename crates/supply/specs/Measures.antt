-- What the code knows of the critical partition and the delay that it finds by pieces, and of numbers that it holds against them
use Rattle.std.specs.Prelude.{ℕ, zero, suc, ◌+◌, ◌≡◌, Bool, false, cond, ◌&&◌, List, [], ◌∷◌, eqb, length}
use Rattle.scope.specs.Ticks.{per_frame}
use Rattle.scope.specs.Windows.{Board, supplied_by}
use Rattle.scope.specs.Partition.{delay as delay_of}
use Rattle.scope.specs.Answers.{critical_of}
use Rattle.scope.specs.Summary.{begins}
use Rattle.supply.specs.declared.partition.Met.{Met}
use Rattle.supply.specs.declared.partition.Measure.{Measure}

-- a list has x at index k
unfoldable pub has_at : List ℕ → ℕ → ℕ → Bool
has_at [] k x = false
has_at (y ∷ l) zero x = eqb x y
has_at (y ∷ l) (suc k) x = has_at l k x

-- one edge more at t, where there is one
unfoldable pub met_of : Met → List ℕ → Bool → ℕ → Met
met_of m held here t = cond here (record { count = m.count + 1; same = m.same && has_at held m.count t }) m

pub record Measured (b : Board) (ws held : List ℕ) (m : Measure) : Type 0 where
  pub whole : m.whole ≡ per_frame (supplied_by b ws) b.frame
  pub numbers : m.numbers ≡ length (critical_of b ws)
  pub delay : m.delay ≡ delay_of (supplied_by b ws) b.frame
  pub same : m.same ≡ begins (critical_of b ws) held
