-- A stretch of ticks whose start moves on
use Rattle.std.specs.Prelude.{◌≡◌, List, ℕ, ◌+◌, ◌-◌, ◌≤◌}
use Rattle.scope.specs.Limits.{most_frame}
use Rattle.scope.specs.Numbers.{bit}
use Rattle.scope.specs.Ticks.{supply}
use Rattle.scope.specs.Windows.{Board, windows_of, window_at, gives, supplied_by}
use Rattle.tables.specs.declared.cursor.Cursor.{Cursor}
use Rattle.tables.specs.Cursors.{after, cursor_at}
use Rattle.checker.specs.declared.stretch.Stretch.{Stretch}

-- 1 where the window at hand gives the tick, else 0
abbrev pub on_at : List ℕ → Cursor → ℕ
on_at ws c = bit (gives 0 (window_at (windows_of ws) c.window) c.tick)

-- one tick comes and one goes
abbrev pub slid_of : Board → List ℕ → Stretch → Stretch
slid_of b ws r = record { from = after b ws r.from; to = after b ws r.to; supply = r.supply + on_at ws r.to - on_at ws r.from }

-- the one that goes is among those that are there, which are few
pub record Slides (b : Board) (ws : List ℕ) (r : Stretch) : Type 0 where
  pub few : r.supply ≤ most_frame
  pub there : on_at ws r.from ≤ r.supply + on_at ws r.to

-- the t ticks from s on
pub record Spans (b : Board) (ws : List ℕ) (s t : ℕ) (r : Stretch) : Type 0 where
  pub from : r.from ≡ cursor_at b ws s
  pub to : r.to ≡ cursor_at b ws (s + t)
  pub held : r.supply ≡ supply (supplied_by b ws) s t
