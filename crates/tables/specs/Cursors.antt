-- What a cursor does, on any table, and where it is after k ticks
use Rattle.std.specs.Prelude.{cond, List, ℕ, zero, suc, ◌+◌, eqb, ltb}
use Rattle.scope.specs.Numbers.{bit}
use Rattle.scope.specs.Windows.{Board, windows_of, window_at}
use Rattle.tables.specs.declared.cursor.Cursor.{Cursor}

-- the first tick of a frame
abbrev pub begin : Cursor
begin = record { tick = 0; window = 0 }

-- one tick on: after the last tick of a frame comes the first; where the window at hand ends, the next one is at hand
unfoldable pub after : Board → List ℕ → Cursor → Cursor
after b ws c = cond (ltb (c.tick + 1) b.frame) (record {
  tick = c.tick + 1;
  window = c.window + bit (eqb (window_at (windows_of ws) c.window).end (c.tick + 1));
}) begin

-- k ticks on
unfoldable pub cursor_at : Board → List ℕ → ℕ → Cursor
cursor_at b ws zero = begin
cursor_at b ws (suc k) = after b ws (cursor_at b ws k)
