use mathlib.Core.Path.{ap₂, ◌∙◌}
use Prim.Native.Nat.{ℕ}
use Rattle.scope.specs.Windows.{Window, gives}
use Rattle.tables.proofs.cursor.Cursor.is_on.Goals as goal

pub returns : goal.returns
returns c = c.holds.ensures ∙ ap₂ (λ (w : Window) (t : ℕ). gives 0 w t) c.window_at-window.ensures c.from.ensures
