-- Document 02, request 6: a summary that is kept beside a table in lent memory, what is answered from it, and edits of a table with its summary.
use Rattle.std.specs.Prelude.{ℕ, ◌+◌, ◌-◌, ◌*◌, ◌/◌, ◌%◌, min, Bool, true, false, not, cond, ◌&&◌, List, [], ◌∷◌, ◌++◌, map, leb, ltb, eqb, ℤ, pos, ◌-ℤ◌, length, get_or, take, drop}
use Rattle.scope.specs.Numbers.{written}
use Rattle.scope.specs.Limits.{teams}
use Rattle.scope.specs.Ticks.{per_frame}
use Rattle.scope.specs.Windows.{Board, Window, windows_of, supplied_by}
use Rattle.scope.specs.Partition.{delay}
use Rattle.scope.specs.Tasks.{Task, tasks_of, demand}
use Rattle.scope.specs.Answers.{Fault, Fault.fine, Answer, Answer.refused, fault_if, ◌or_else◌, unless, unless_kept, table_fault, group_fault, length_fault}
use Rattle.scope.specs.Answers.{room_fault, critical_of}
use Rattle.scope.specs.Shared.{own, shared_fault, asked_for, kept}

-- ---- the summary of one owner's windows, in pairs

-- A, the delay, the number of critical windows, then start and end of each
unfoldable pub summary_of : Board → List ℕ → List ℕ
summary_of b ws =
    per_frame (supplied_by b ws) b.frame ∷ delay (supplied_by b ws) b.frame ∷ length (critical_of b ws) / 2 ∷ critical_of b ws

unfoldable pub make_fault : Board → List ℕ → ℕ → Fault
make_fault b ws room = table_fault b ws or_else room_fault (length (summary_of b ws)) room

-- how many numbers
unfoldable pub make_answer : Board → List ℕ → ℕ → Answer ℕ
make_answer b ws room = unless (make_fault b ws room) (length (summary_of b ws))

unfoldable pub make_out : Board → List ℕ → List ℕ → List ℕ
make_out b ws out = unless_kept (make_fault b ws (length out)) (written (summary_of b ws) out) out

-- ---- it belongs to the windows lent with it

-- the memory begins with the list; what follows is not looked at
unfoldable pub begins : List ℕ → List ℕ → Bool
begins [] memory = true
begins (x ∷ l) [] = false
begins (x ∷ l) (y ∷ memory) = eqb x y && begins l memory

-- 14: the memory does not begin with what a fresh making writes
unfoldable pub summary_fault : Board → List ℕ → List ℕ → Fault
summary_fault b ws summary = fault_if (not (begins (summary_of b ws) summary)) 14 0

-- ---- what is answered from it

-- the critical windows that stand in a summary
abbrev pub windows_in : List ℕ → List Window
windows_in summary = windows_of (take (2 * get_or summary 2 0) (drop 3 summary))

-- the ticks of windows before tick r; from the first window on that starts there or later, none is looked at
unfoldable pub ticks_before : List Window → ℕ → ℕ
ticks_before [] r = 0
ticks_before (w ∷ ws) r = cond (leb r w.start) 0 (min r w.end - w.start + ticks_before ws r)

-- the least supply of length t: A for each whole frame, and of the rest what the critical windows have of it
unfoldable pub least_from : ℕ → List ℕ → ℕ → ℕ
least_from P summary t = t / P * get_or summary 0 0 + ticks_before (windows_in summary) (t % P)

unfoldable pub least_from_answer : Board → List ℕ → List ℕ → ℕ → Answer ℕ
least_from_answer b ws summary t =
    unless (table_fault b ws or_else summary_fault b ws summary or_else length_fault t) (least_from b.frame summary t)

-- least supply minus group demand, a signed number
unfoldable pub margin_from : ℕ → List ℕ → List Task → ℕ → ℤ
margin_from P summary ts t = pos (least_from P summary t) -ℤ pos (demand ts t)

-- 7: one of the lengths is over 1,000,000
unfoldable pub lengths_fault : List ℕ → Fault
lengths_fault [] = fine
lengths_fault (t ∷ lengths) = length_fault t or_else lengths_fault lengths

unfoldable pub margins_fault : Board → List ℕ → List ℕ → List ℕ → List ℕ → ℕ → Fault
margins_fault b ws summary ts lengths room =
    table_fault b ws or_else group_fault ts or_else summary_fault b ws summary or_else lengths_fault lengths or_else room_fault (length lengths) room

-- how many margins
unfoldable pub margins_answer : Board → List ℕ → List ℕ → List ℕ → List ℕ → ℕ → Answer ℕ
margins_answer b ws summary ts lengths room = unless (margins_fault b ws summary ts lengths room) (length lengths)

unfoldable pub margins_out : Board → List ℕ → List ℕ → List ℕ → List ℕ → List ℤ → List ℤ
margins_out b ws summary ts lengths out =
    unless_kept (margins_fault b ws summary ts lengths (length out)) (written (map (margin_from b.frame summary (tasks_of ts)) lengths) out) out

-- ---- the same on a table that teams share, in threes, for the owner that is asked for

unfoldable pub make_for : Board → List ℕ → ℕ → Answer ℕ
make_for b ws room = asked_for teams b ws refused (λ mine. make_answer b mine room)

unfoldable pub make_out_for : Board → List ℕ → List ℕ → List ℕ
make_out_for b ws out = asked_for teams b ws (kept out) (λ mine. make_out b mine out)

unfoldable pub least_from_for : Board → List ℕ → List ℕ → ℕ → Answer ℕ
least_from_for b ws summary t = asked_for teams b ws refused (λ mine. least_from_answer b mine summary t)

unfoldable pub margins_for : Board → List ℕ → List ℕ → List ℕ → List ℕ → ℕ → Answer ℕ
margins_for b ws summary ts lengths room = asked_for teams b ws refused (λ mine. margins_answer b mine summary ts lengths room)

unfoldable pub margins_out_for : Board → List ℕ → List ℕ → List ℕ → List ℕ → List ℤ → List ℤ
margins_out_for b ws summary ts lengths out = asked_for teams b ws (kept out) (λ mine. margins_out b mine summary ts lengths out)

-- ---- edits of a table that teams share, in threes

pub data Edit : Type 0 where
  -- the window at an index gets a new start and end, and keeps its owner
  move : (index start end : ℕ) → Edit
  -- a window is inserted before the one at an index, or after the last
  add : (index start end owner : ℕ) → Edit
  -- the window at an index goes
  remove : (index : ℕ) → Edit

-- at index i, the numbers `come` in place of `gone` windows
abbrev pub spliced : ℕ → ℕ → List ℕ → List ℕ → List ℕ
spliced i gone come ws = take (3 * i) ws ++ come ++ drop (3 * (i + gone)) ws

-- the list that an edit leaves
unfoldable pub edited : Edit → List ℕ → List ℕ
edited (move i s e) ws = spliced i 1 (s ∷ e ∷ get_or ws (3 * i + 2) 0 ∷ []) ws
edited (add i s e o) ws = spliced i 0 (s ∷ e ∷ o ∷ []) ws
edited (remove i) ws = spliced i 1 [] ws

-- 7: no window has the index; adding may be at the number of windows
unfoldable pub index_fault : Edit → ℕ → Fault
index_fault (move i s e) count = fault_if (leb count i) 7 0
index_fault (add i s e o) count = fault_if (ltb count i) 7 0
index_fault (remove i) count = fault_if (leb count i) 7 0

-- the list in lent window memory: so many windows at its front; the rest is room
abbrev pub table_in : ℕ → List ℕ → List ℕ
table_in count memory = take (3 * count) memory

-- 1: the memory is shorter
unfoldable pub count_fault : ℕ → List ℕ → Fault
count_fault count memory = fault_if (ltb (length memory) (3 * count)) 1 0

-- the list and the summary that an edit leaves
abbrev pub edited_list : ℕ → List ℕ → Edit → List ℕ
edited_list count memory edit = edited edit (table_in count memory)

abbrev pub edited_summary : Board → ℕ → List ℕ → Edit → List ℕ
edited_summary b count memory edit = summary_of b (own b (edited_list count memory edit))

-- the table as it is and its summary, the index, the table as it would be, room for its windows, room for its summary
unfoldable pub edit_fault : ℕ → Board → ℕ → List ℕ → List ℕ → Edit → Fault
edit_fault owners b count memory summary edit =
    count_fault count memory
    or_else shared_fault owners b (table_in count memory)
    or_else summary_fault b (own b (table_in count memory)) summary
    or_else index_fault edit count
    or_else shared_fault owners b (edited_list count memory edit)
    or_else room_fault (length (edited_list count memory edit)) (length memory)
    or_else room_fault (length (edited_summary b count memory edit)) (length summary)

-- how many windows there are now, and how many numbers their summary has
pub record Edited : Type 0 where
  pub windows : ℕ
  pub numbers : ℕ

unfoldable pub edit_answer : ℕ → Board → ℕ → List ℕ → List ℕ → Edit → Answer Edited
edit_answer owners b count memory summary edit =
    unless (edit_fault owners b count memory summary edit)
    (record { windows = length (edited_list count memory edit) / 3; numbers = length (edited_summary b count memory edit) })

-- both memories afterwards
unfoldable pub edit_windows : ℕ → Board → ℕ → List ℕ → List ℕ → Edit → List ℕ
edit_windows owners b count memory summary edit =
    unless_kept (edit_fault owners b count memory summary edit) (written (edited_list count memory edit) memory) memory

unfoldable pub edit_summary : ℕ → Board → ℕ → List ℕ → List ℕ → Edit → List ℕ
edit_summary owners b count memory summary edit =
    unless_kept (edit_fault owners b count memory summary edit) (written (edited_summary b count memory edit) summary) summary
