-- Document 01, "Tables and sizes": window tables, and which ticks they supply.
use Rattle.std.specs.Prelude.{ℕ, ◌+◌, ◌-◌, ◌%◌, Bool, false, not, ◌&&◌, ◌||◌, List, [], ◌∷◌, leb, ltb, eqb, length, get_or}
use Rattle.std.proofs.Math.Option.{Option}
use Rattle.scope.specs.Numbers.{first, pieces}

-- what a table is judged by beside its windows: the frame, and of a table that teams share (Shared) the owner that is asked for, the shortest window
-- that the board allows, the rule by which it gives windows, and the ticks that it loses of each
pub record Board : Type 0 where
  pub frame : ℕ
  pub owner : ℕ
  pub shortest : ℕ
  pub rule : ℕ
  pub lost : ℕ

-- the board of which only the frame and the owner are told: it allows every window, and is rule 1, which gives the whole window
abbrev pub framed_for : ℕ → ℕ → Board
framed_for P o = record { frame = P; owner = o; shortest = 1; rule = 1; lost = 0 }

-- only the frame: it asks for owner 0
abbrev pub framed : ℕ → Board
framed P = framed_for P 0

-- the ticks `start` up to but not including `end`
pub record Window : Type 0 where
  pub start : ℕ
  pub end : ℕ

abbrev pub window : ℕ → ℕ → Window
window s e = record { start = s; end = e }

-- the windows of a list of numbers: start, end, start, end, ..
abbrev pub windows_of : List ℕ → List Window
windows_of = pieces 2 window

abbrev pub window_at : List Window → ℕ → Window
window_at ws i = get_or ws i (window 0 0)

-- window w gives tick k of a frame, where the first q ticks of every window are lost: under rule 1 q is 0
unfoldable pub gives : ℕ → Window → ℕ → Bool
gives q w k = leb (q + w.start) k && ltb k w.end

-- one of the windows gives tick k of a frame
unfoldable pub covers : ℕ → List Window → ℕ → Bool
covers q [] k = false
covers q (w ∷ ws) k = gives q w k || covers q ws k

-- tick k is supplied if one of the windows gives k mod P, where each loses as many ticks as the board does
unfoldable pub supplied : Board → List Window → ℕ → Bool
supplied b ws k = covers b.lost ws (k % b.frame)

-- the ticks that a table supplies, as an entry is given it: the windows are a list of numbers
abbrev pub supplied_by : Board → List ℕ → ℕ → Bool
supplied_by b numbers = supplied b (windows_of numbers)

-- start < end ≤ P
abbrev pub window_fits : Board → Window → Bool
window_fits b w = ltb w.start w.end && leb w.end b.frame

-- and the start is strictly greater than the previous end
unfoldable pub window_legal : Board → List Window → ℕ → Bool
window_legal b ws i = window_fits b (window_at ws i) && (eqb i 0 || ltb (window_at ws (i - 1)).end (window_at ws i).start)

-- the lowest index of a window that breaks its rule
unfoldable pub bad_window : Board → List Window → Option ℕ
bad_window b ws = first (λ i. not (window_legal b ws i)) (length ws)
