-- The text of a `Text`, and the lists of a plan that it has room for
use Rattle.std.specs.Prelude.{ℕ, ◌*◌, ◌≤◌, List, length, take}
use Rattle.scope.specs.Limits.{most_settings, most_windows, most_tasks}
use Rattle.print.specs.declared.text.Text.{Text}

abbrev pub shown : {n : ℕ} → Text n → List ℕ
shown t = take t.end t.bytes

-- no more settings, windows and tasks than a plan can have
abbrev pub Short : (settings windows tasks : List ℕ) → Type 0
Short settings windows tasks = (length settings ≤ most_settings) × (length windows ≤ 2 * most_windows) × (length tasks ≤ 3 * most_tasks)
