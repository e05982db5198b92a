-- Document 01, "Marked examples": W1 to W13, and after them document 02's examples and what 01 says of limits, refusals and errors; one table under one
-- statement, by computation.
use Rattle.std.specs.Prelude.{ℕ, zero, suc, ◌≡◌, refl, Bool, true, false, ◌&&◌, List, [], ◌∷◌, map, eqb, ℤ, pos, length, replicate}
use Prim.Native.Char.{code}
use Prim.Native.String.{String, [] as ε, ◌∷◌ as ◌◂◌}
use Rattle.std.proofs.Math.Option.{none, some}
use Rattle.std.proofs.Math.IntN.{ℤ.negsuc}
use Rattle.scope.specs.Windows.{Board, framed_for, framed, Window, window}
use Rattle.scope.specs.Tasks.{Task, task, tasks_of}
use Rattle.scope.specs.Verdict.{Verdict, Verdict.meets, Verdict.miss}
use Rattle.scope.specs.Bound.{Bound, Bound.bound}
use Rattle.scope.specs.Run.{Outcome.met, Outcome.missed, Ran}
use Rattle.scope.specs.Answers.{Fault, Fault.fine, Fault.fault, Answer, Answer.given, Answer.refused, Delay, board_answer, window_answer, task_answer}
use Rattle.scope.specs.Answers.{length_answer, run_ticks_answer, window_list_fault, task_list_fault, cycle_fault, job_list_fault, least_supply_answer, critical_answer}
use Rattle.scope.specs.Answers.{critical_out, delay_answer, outage_answer, demand_answer, margin_answer, verdict_answer, bound_answer, run_answer, run_out}
use Rattle.scope.specs.Plan.{Plan, write_answer, write_out}
use Rattle.scope.specs.Line.{bytes, line, line_answer, line_out}
use Rattle.scope.specs.Trace.{Record, completion}
use Rattle.scope.specs.Replay as Replays
use Rattle.scope.specs.Replay.{Replayed, extent_fault, replay_answer}
use Rattle.scope.specs.Limits.{teams}
use Rattle.scope.specs.Shared.{Owned, owned, as_owned, owned_list_fault, owned_answer, own_answer, own_out, as_owned_answer, as_owned_out}
use Rattle.scope.specs.Shared.{supplied_for, least_supply_for, critical_for, critical_out_for, delay_for, outage_for, margin_for, verdict_for, bound_for}
use Rattle.scope.specs.Shared.{run_for, run_out_for, replay_for, plan_answer}
use Rattle.scope.specs.Summary.{Edit, Edit.move, Edit.add, Edit.remove, Edited, make_for, make_out_for, least_from_for, margins_for, margins_out_for}
use Rattle.scope.specs.Summary.{edit_answer, edit_windows, edit_summary}
use Rattle.scope.specs.Computing.{everything}

-- ---- what is asked of an entry, and what it answers; of a lent buffer, what it holds before and after

pub data Question : Type 0 where
  least_supplies : (frame : ℕ) (windows lengths : List ℕ) → Question
  critical_windows : (frame : ℕ) (windows buffer : List ℕ) → Question
  delay_of : (frame : ℕ) (windows : List ℕ) → Question
  verdict_of : (frame : ℕ) (windows tasks : List ℕ) → Question
  margin_of : (frame : ℕ) (windows tasks : List ℕ) (length : ℕ) → Question
  bounds_of : (frame : ℕ) (windows tasks indices : List ℕ) → Question
  run_of : (frame : ℕ) (windows tasks : List ℕ) (n : ℕ) (jobs buffer : List ℕ) → Question
  line_of : (settings : ℕ) (plan : List ℕ) → Question
  outage_of : (frame : ℕ) (windows : List ℕ) → Question
  demands_of : (tasks lengths : List ℕ) → Question
  written_plan : (plan : Plan) (buffer : List ℕ) → Question
  line_into : (settings : ℕ) (plan buffer : List ℕ) → Question
  frames : (frames : List ℕ) → Question
  boards_alone : (boards : List Board) → Question
  asked_lengths : (lengths : List ℕ) → Question
  run_ticks : (ticks : List ℕ) → Question
  window_alone : (frame start end : ℕ) → Question
  task_alone : (c t d : ℕ) → Question
  lists_of : (windows tasks jobs : ℕ) → Question
  cycle_of : (frame : ℕ) (tasks : List ℕ) → Question
  replay_of : (frame : ℕ) (windows tasks trace : List ℕ) → Question
  releases_of : (releases : ℕ) → Question
  least_supplies_for : (board : Board) (windows lengths : List ℕ) → Question
  critical_windows_for : (board : Board) (windows buffer : List ℕ) → Question
  delay_of_for : (board : Board) (windows : List ℕ) → Question
  verdict_of_for : (board : Board) (windows tasks : List ℕ) → Question
  margin_of_for : (board : Board) (windows tasks : List ℕ) (length : ℕ) → Question
  bounds_of_for : (board : Board) (windows tasks indices : List ℕ) → Question
  run_of_for : (board : Board) (windows tasks : List ℕ) (n : ℕ) (jobs buffer : List ℕ) → Question
  outage_of_for : (board : Board) (windows : List ℕ) → Question
  replay_of_for : (board : Board) (windows tasks trace : List ℕ) → Question
  supplied_of_for : (board : Board) (windows ticks : List ℕ) → Question
  shared_lists : (sizes : List ℕ) → Question
  owned_alone : (frame start end owner : ℕ) → Question
  own_of : (board : Board) (windows buffer : List ℕ) → Question
  owned_pairs : (owner : ℕ) (windows buffer : List ℕ) → Question
  summary_made_for : (board : Board) (windows buffer : List ℕ) → Question
  least_froms_for : (board : Board) (windows summary lengths : List ℕ) → Question
  margins_of_for : (board : Board) (windows summary tasks lengths : List ℕ) (buffer : List ℤ) → Question
  edit_of_for : (board : Board) (count : ℕ) (windows summary : List ℕ) (edit : Edit) → Question

pub data Reply : Type 0 where
  amounts : List (Answer ℕ) → Reply
  windows : Answer ℕ → List ℕ → Reply
  a_delay : Answer Delay → Reply
  a_verdict : Answer Verdict → Reply
  a_margin : Answer ℤ → Reply
  bounds : List (Answer Bound) → Reply
  a_run : Answer Ran → List ℕ → Reply
  text : List ℕ → Reply
  bytes_in : Answer ℕ → List ℕ → Reply
  boards : List (Answer Board) → Reply
  a_window : Answer Window → Reply
  a_task : Answer Task → Reply
  faults : List Fault → Reply
  a_replay : Answer Replayed → Reply
  an_owned : Answer Owned → Reply
  ticks : List (Answer Bool) → Reply
  summary : Answer ℕ → List ℕ → Reply
  margins : Answer ℕ → List ℤ → Reply
  an_edit : Answer Edited → (windows summary : List ℕ) → Reply

-- a release at tick 0
abbrev release : Record
release = record { instant = 0; kind = 0; task = 0; work = 1 }

-- a board with frame P that asks for owner o, allows no window shorter than m, and gives windows by rule r with q ticks lost
abbrev pub on_rule : ℕ → ℕ → ℕ → ℕ → ℕ → Board
on_rule P o m r q = record { frame = P; owner = o; shortest = m; rule = r; lost = q }

-- one that allows every window, and loses q ticks of each
abbrev pub losing : ℕ → ℕ → ℕ → Board
losing P o q = on_rule P o 1 2 q

-- one that gives the whole window
abbrev pub on_at_least : ℕ → ℕ → ℕ → Board
on_at_least P o m = on_rule P o m 1 0

-- and allows every window
abbrev pub on_for : ℕ → ℕ → Board
on_for = framed_for

-- and asks for owner 0
abbrev pub on : ℕ → Board
on = framed

unfoldable pub reply : Question → Reply
reply (least_supplies P ws ts) = amounts (map (least_supply_answer (on P) ws) ts)
reply (critical_windows P ws out) = windows (critical_answer (on P) ws (length out)) (critical_out (on P) ws out)
reply (delay_of P ws) = a_delay (delay_answer (on P) ws)
reply (verdict_of P ws ts) = a_verdict (verdict_answer (on P) ws ts)
reply (margin_of P ws ts t) = a_margin (margin_answer (on P) ws ts t)
reply (bounds_of P ws ts is) = bounds (map (bound_answer (on P) ws ts) is)
reply (run_of P ws ts n js out) = a_run (run_answer (on P) ws ts n js (length out)) (run_out (on P) ws ts n js out)
reply (line_of k plan) = text (line (plan_answer k plan))
reply (outage_of P ws) = amounts (outage_answer (on P) ws ∷ [])
reply (demands_of ts lengths) = amounts (map (demand_answer ts) lengths)
reply (written_plan plan out) = bytes_in (write_answer plan (length out)) (write_out plan out)
reply (line_into k plan out) = bytes_in (line_answer (plan_answer k plan) (length out)) (line_out (plan_answer k plan) out)
reply (frames l) = boards (map (λ P. board_answer (on P)) l)
reply (boards_alone l) = boards (map board_answer l)
reply (asked_lengths l) = amounts (map length_answer l)
reply (run_ticks l) = amounts (map run_ticks_answer l)
reply (window_alone P s e) = a_window (window_answer (on P) (window s e))
reply (task_alone c t d) = a_task (task_answer (task c t d))
-- lists of so many numbers, whatever they are
reply (lists_of w t j) = faults (window_list_fault (replicate w 0) ∷ task_list_fault (replicate t 0) ∷ job_list_fault 0 (replicate j 0) ∷ [])
reply (cycle_of P ts) = faults (cycle_fault (on P) (tasks_of ts) ∷ [])
reply (replay_of P ws ts trace) = a_replay (replay_answer (on P) ws ts trace)
-- so many releases, whatever they are, and one more
reply (releases_of m) = faults (extent_fault (replicate m release) ∷ extent_fault (replicate (suc m) release) ∷ [])
-- on a table that teams share, in threes, for one of them
reply (least_supplies_for b ws ts) = amounts (map (least_supply_for b ws) ts)
reply (critical_windows_for b ws out) = windows (critical_for b ws (length out)) (critical_out_for b ws out)
reply (delay_of_for b ws) = a_delay (delay_for b ws)
reply (verdict_of_for b ws ts) = a_verdict (verdict_for b ws ts)
reply (margin_of_for b ws ts t) = a_margin (margin_for b ws ts t)
reply (bounds_of_for b ws ts is) = bounds (map (bound_for b ws ts) is)
reply (run_of_for b ws ts n js out) = a_run (run_for b ws ts n js (length out)) (run_out_for b ws ts n js out)
reply (outage_of_for b ws) = amounts (outage_for b ws ∷ [])
reply (supplied_of_for b ws ks) = ticks (map (supplied_for b ws) ks)
reply (replay_of_for b ws ts trace) = a_replay (replay_for b ws ts trace)
reply (owned_alone P s e o) = an_owned (owned_answer teams (on P) (owned s e o))
reply (own_of b ws out) = windows (own_answer teams b ws (length out)) (own_out teams b ws out)
reply (owned_pairs o ws out) = windows (as_owned_answer o ws (length out)) (as_owned_out o ws out)
reply (shared_lists l) = faults (map (λ n. owned_list_fault (replicate n 0)) l)
reply (summary_made_for b ws out) = summary (make_for b ws (length out)) (make_out_for b ws out)
reply (least_froms_for b ws s ts) = amounts (map (least_from_for b ws s) ts)
reply (margins_of_for b ws s ts lengths out) = margins (margins_for b ws s ts lengths (length out)) (margins_out_for b ws s ts lengths out)
reply (edit_of_for b n ws s edit) = an_edit (edit_answer teams b n ws s edit) (edit_windows teams b n ws s edit) (edit_summary teams b n ws s edit)

-- ---- the table

pub record Example : Type 0 where
  pub name : String
  pub question : Question
  pub expected : Reply

infix 4 ◌asks◌gives◌
abbrev ◌asks◌gives◌ : String → Question → Reply → Example
n asks q gives r = record { name = n; question = q; expected = r }

-- the windows of X, whose frame is 8
abbrev pub X : List ℕ
X = 0 ∷ 2 ∷ 5 ∷ 7 ∷ []

-- the window of a school's lab, document 02, request 1, whose frame is 8 too
abbrev pub lab : List ℕ
lab = 3 ∷ 5 ∷ []

-- X as owner 0's, and the rest of its frame as owner 1's
abbrev pub XShared : List ℕ
XShared = 0 ∷ 2 ∷ 0 ∷ 2 ∷ 5 ∷ 1 ∷ 5 ∷ 7 ∷ 0 ∷ 7 ∷ 8 ∷ 1 ∷ []

-- the lab's window as owner 1's, and the rest of its frame as owner 0's
abbrev pub lab_shared : List ℕ
lab_shared = 0 ∷ 3 ∷ 0 ∷ 3 ∷ 5 ∷ 1 ∷ 5 ∷ 8 ∷ 0 ∷ []

-- the summary of X, and that of the rest of its frame
abbrev pub XSummary : List ℕ
XSummary = 4 ∷ 12 ∷ 2 ∷ 3 ∷ 5 ∷ 6 ∷ 8 ∷ []

abbrev pub hers : List ℕ
hers = 4 ∷ 12 ∷ 2 ∷ 2 ∷ 3 ∷ 5 ∷ 8 ∷ []

-- two windows of owner 0, whose frame is 4, and their summary; the same windows of two owners; and two windows that share that frame
abbrev pub Y : List ℕ
Y = 0 ∷ 1 ∷ 0 ∷ 2 ∷ 3 ∷ 0 ∷ []

abbrev pub YSummary : List ℕ
YSummary = 2 ∷ 2 ∷ 2 ∷ 1 ∷ 2 ∷ 3 ∷ 4 ∷ []

abbrev pub apart : List ℕ
apart = 0 ∷ 1 ∷ 0 ∷ 2 ∷ 3 ∷ 1 ∷ []

abbrev pub halves : List ℕ
halves = 0 ∷ 2 ∷ 0 ∷ 2 ∷ 4 ∷ 1 ∷ []

-- the summary of one window of one tick in that frame, wherever it is, the same where Y's was, and that of one of two ticks
abbrev pub one_summary : List ℕ
one_summary = 1 ∷ 3 ∷ 1 ∷ 3 ∷ 4 ∷ []

abbrev pub one_and_room : List ℕ
one_and_room = 1 ∷ 3 ∷ 1 ∷ 3 ∷ 4 ∷ 3 ∷ 4 ∷ []

abbrev pub half_summary : List ℕ
half_summary = 2 ∷ 4 ∷ 1 ∷ 2 ∷ 4 ∷ []

-- n windows of owner 1, one tick each, every third tick from tick k on
abbrev pub others_from : ℕ → ℕ → List ℕ
others_from k zero = []
others_from k (suc n) = k ∷ suc k ∷ 1 ∷ others_from (suc (suc (suc k))) n

abbrev pub others : ℕ → List ℕ
others = others_from 2

unfoldable pub table : List Example
table =
    ("W1" asks least_supplies 8 X (0 ∷ 1 ∷ 2 ∷ 3 ∷ 4 ∷ 5 ∷ 6 ∷ 7 ∷ 8 ∷ [])
    gives amounts (map given (0 ∷ 0 ∷ 0 ∷ 0 ∷ 1 ∷ 2 ∷ 2 ∷ 3 ∷ 4 ∷ [])))
    -- W2: (3,5), (6,8); the rest of the buffer stays
    ∷ ("W2" asks critical_windows 8 X (9 ∷ 9 ∷ 9 ∷ 9 ∷ 9 ∷ []) gives windows (given 2) (3 ∷ 5 ∷ 6 ∷ 8 ∷ 9 ∷ []))
    ∷ ("W3" asks delay_of 8 X gives a_delay (given (record { delay = 12; A = 4 })))
    ∷ ("W4" asks verdict_of 8 X (1 ∷ 4 ∷ 4 ∷ []) gives a_verdict (given (meets 8)))
    ∷ ("W5" asks verdict_of 8 X (1 ∷ 4 ∷ 3 ∷ []) gives a_verdict (given (miss 3 2 1 0)))
    -- W6, as an answer, as the printed line of the plan file, and with its margin; negsuc 0 is −1
    ∷ ("W6" asks verdict_of 8 X (1 ∷ 4 ∷ 4 ∷ 2 ∷ 8 ∷ 6 ∷ []) gives a_verdict (given (miss 6 2 3 2)))
    ∷ ("W6, its line" asks line_of 0 (8 ∷ 2 ∷ 0 ∷ 2 ∷ 5 ∷ 7 ∷ 2 ∷ 1 ∷ 4 ∷ 4 ∷ 2 ∷ 8 ∷ 6 ∷ [])
    gives text (bytes "MISS length 6 start 2 demand 3 supply 2\n"))
    ∷ ("W6, its margin" asks margin_of 8 X (1 ∷ 4 ∷ 4 ∷ 2 ∷ 8 ∷ 6 ∷ []) 6 gives a_margin (given (negsuc 0)))
    ∷ ("W7" asks verdict_of 8 X (1 ∷ 4 ∷ 4 ∷ 2 ∷ 8 ∷ 7 ∷ []) gives a_verdict (given (meets 8)))
    ∷ ("W8" asks verdict_of 8 X (5 ∷ 8 ∷ 8 ∷ []) gives a_verdict (given (miss 8 0 5 4)))
    ∷ ("W9" asks verdict_of 8 X (13 ∷ 24 ∷ 24 ∷ []) gives a_verdict (given (miss 24 0 13 12)))
    ∷ ("W10" asks verdict_of 8 X [] gives a_verdict (given (meets 8)))
    ∷ ("W11" asks bounds_of 8 X (1 ∷ 4 ∷ 4 ∷ 1 ∷ 8 ∷ 8 ∷ []) (0 ∷ 1 ∷ []) gives bounds (map (λ t. given (bound t)) (4 ∷ 7 ∷ [])))
    ∷ ("W12" asks bounds_of 1 (0 ∷ 1 ∷ []) (1 ∷ 10 ∷ 10 ∷ 1 ∷ 5 ∷ 5 ∷ 1 ∷ 15 ∷ 15 ∷ 2 ∷ 10 ∷ 10 ∷ 2 ∷ 30 ∷ 30 ∷ []) (0 ∷ 1 ∷ 2 ∷ 3 ∷ 4 ∷ [])
    gives bounds (map (λ t. given (bound t)) (1 ∷ 2 ∷ 3 ∷ 5 ∷ 8 ∷ [])))
    -- W13: W7's tasks, both released in full at tick 2
    ∷ ("W13" asks run_of 8 X (1 ∷ 4 ∷ 4 ∷ 2 ∷ 8 ∷ 7 ∷ []) 10 (2 ∷ 0 ∷ 1 ∷ 2 ∷ 1 ∷ 2 ∷ []) (9 ∷ 9 ∷ 9 ∷ [])
    gives a_run (given (record { outcome = met; backlog = 2 })) (4 ∷ 7 ∷ 9 ∷ []))
    -- request 1: X still reads 3, the lab's table 6. Its 6 ticks hold nothing and 7 do; asked as one tick of work, due in 6, they start at tick 5
    ∷ ("outage of X" asks outage_of 8 X gives amounts (given 3 ∷ []))
    ∷ ("outage over midnight" asks outage_of 8 lab gives amounts (given 6 ∷ []))
    ∷ ("supply of that outage" asks least_supplies 8 lab (6 ∷ 7 ∷ []) gives amounts (given 0 ∷ given 1 ∷ []))
    ∷ ("where it starts" asks verdict_of 8 lab (1 ∷ 8 ∷ 6 ∷ []) gives a_verdict (given (miss 6 5 1 0)))
    -- an outage of most of a frame, of its last tick, and none
    ∷ ("outage after the windows" asks outage_of 8 (0 ∷ 2 ∷ []) gives amounts (given 6 ∷ []))
    ∷ ("outage of the last tick" asks outage_of 8 (0 ∷ 7 ∷ []) gives amounts (given 1 ∷ []))
    ∷ ("no outage" asks outage_of 8 (0 ∷ 8 ∷ []) gives amounts (given 0 ∷ []))
    -- request 2: W7's tasks, released in full at the first record, whose stamp is 100; the same by a counter that goes past its top
    ∷ ("a trace" asks replay_of 8 X (1 ∷ 4 ∷ 4 ∷ 2 ∷ 8 ∷ 7 ∷ []) (0 ∷ 0 ∷ 1 ∷ 100 ∷ 0 ∷ 1 ∷ 2 ∷ 100 ∷ 1 ∷ 0 ∷ 101 ∷ 1 ∷ 1 ∷ 106 ∷ [])
    gives a_replay (given Replays.same))
    ∷ ("a trace past the counter's top" asks replay_of 8 X (1 ∷ 4 ∷ 4 ∷ 2 ∷ 8 ∷ 7 ∷ [])
    (0 ∷ 0 ∷ 1 ∷ 254 ∷ 255 ∷ 255 ∷ 255 ∷ 15 ∷ 0 ∷ 1 ∷ 2 ∷ 254 ∷ 255 ∷ 255 ∷ 255 ∷ 15 ∷ 1 ∷ 0 ∷ 255 ∷ 255 ∷ 255 ∷ 255 ∷ 15 ∷ 1 ∷ 1 ∷ 4 ∷ [])
    gives a_replay (given Replays.same))
    ∷ ("a late completion" asks replay_of 8 X (1 ∷ 4 ∷ 4 ∷ 2 ∷ 8 ∷ 7 ∷ []) (0 ∷ 0 ∷ 1 ∷ 100 ∷ 0 ∷ 1 ∷ 2 ∷ 100 ∷ 1 ∷ 0 ∷ 101 ∷ 1 ∷ 1 ∷ 107 ∷ [])
    gives a_replay (given (Replays.differs (some (completion 7 1)) (some (completion 6 1)))))
    ∷ ("another task's completion" asks replay_of 8 X (1 ∷ 4 ∷ 4 ∷ 2 ∷ 8 ∷ 7 ∷ []) (0 ∷ 0 ∷ 1 ∷ 100 ∷ 0 ∷ 1 ∷ 2 ∷ 100 ∷ 1 ∷ 9 ∷ 101 ∷ 1 ∷ 1 ∷ 106 ∷ [])
    gives a_replay (given (Replays.differs (some (completion 1 9)) (some (completion 1 0)))))
    ∷ ("the trace has ended" asks replay_of 8 X (1 ∷ 4 ∷ 4 ∷ 2 ∷ 8 ∷ 7 ∷ []) (0 ∷ 0 ∷ 1 ∷ 100 ∷ 0 ∷ 1 ∷ 2 ∷ 100 ∷ 1 ∷ 0 ∷ 101 ∷ 0 ∷ 0 ∷ 1 ∷ 106 ∷ [])
    gives a_replay (given (Replays.differs none (some (completion 6 1)))))
    ∷ ("the machine has ended" asks replay_of 8 X (1 ∷ 4 ∷ 4 ∷ 2 ∷ 8 ∷ 7 ∷ []) (0 ∷ 0 ∷ 1 ∷ 100 ∷ 0 ∷ 1 ∷ 2 ∷ 100 ∷ 1 ∷ 0 ∷ 101 ∷ 1 ∷ 1 ∷ 106 ∷ 1 ∷ 0 ∷ 107 ∷ [])
    gives a_replay (given (Replays.differs (some (completion 7 0)) none)))
    ∷ ("a completion at once" asks replay_of 8 X (1 ∷ 4 ∷ 4 ∷ 2 ∷ 8 ∷ 7 ∷ []) (1 ∷ 0 ∷ 100 ∷ [])
    gives a_replay (given (Replays.differs (some (completion 0 0)) none)))
    ∷ ("completions of the last instant only" asks replay_of 8 X (1 ∷ 4 ∷ 4 ∷ 2 ∷ 8 ∷ 7 ∷ []) (0 ∷ 0 ∷ 1 ∷ 100 ∷ 0 ∷ 1 ∷ 2 ∷ 100 ∷ 1 ∷ 0 ∷ 101 ∷ [])
    gives a_replay (given Replays.same))
    ∷ ("a completion and a release of one instant" asks replay_of 8 X (1 ∷ 4 ∷ 4 ∷ 2 ∷ 8 ∷ 7 ∷ [])
    (0 ∷ 0 ∷ 1 ∷ 100 ∷ 0 ∷ 1 ∷ 2 ∷ 100 ∷ 1 ∷ 0 ∷ 101 ∷ 1 ∷ 1 ∷ 106 ∷ 0 ∷ 0 ∷ 1 ∷ 106 ∷ [])
    gives a_replay (given Replays.same))
    ∷ ("a completion after the last record" asks replay_of 8 X (1 ∷ 4 ∷ 4 ∷ 2 ∷ 8 ∷ 7 ∷ [])
    (0 ∷ 0 ∷ 1 ∷ 100 ∷ 0 ∷ 1 ∷ 2 ∷ 100 ∷ 1 ∷ 0 ∷ 101 ∷ 0 ∷ 0 ∷ 1 ∷ 105 ∷ [])
    gives a_replay (given Replays.same))
    ∷ ("an empty trace" asks replay_of 8 X (1 ∷ 4 ∷ 4 ∷ 2 ∷ 8 ∷ 7 ∷ []) []
    gives a_replay (given Replays.same))
    -- a miss at instant 5, and a difference after it, with it, before it
    ∷ ("a miss, then a difference" asks replay_of 8 X (1 ∷ 4 ∷ 4 ∷ 2 ∷ 8 ∷ 5 ∷ []) (0 ∷ 0 ∷ 1 ∷ 100 ∷ 0 ∷ 1 ∷ 2 ∷ 100 ∷ 1 ∷ 0 ∷ 101 ∷ 1 ∷ 1 ∷ 106 ∷ [])
    gives a_replay (given (Replays.missed 5 1)))
    ∷ ("a miss with a difference" asks replay_of 8 X (1 ∷ 4 ∷ 4 ∷ 2 ∷ 8 ∷ 5 ∷ []) (0 ∷ 0 ∷ 1 ∷ 100 ∷ 0 ∷ 1 ∷ 2 ∷ 100 ∷ 1 ∷ 0 ∷ 101 ∷ 1 ∷ 1 ∷ 105 ∷ [])
    gives a_replay (given (Replays.missed 5 1)))
    ∷ ("a difference before a miss" asks replay_of 8 X (1 ∷ 4 ∷ 4 ∷ 2 ∷ 8 ∷ 5 ∷ [])
    (0 ∷ 0 ∷ 1 ∷ 100 ∷ 0 ∷ 1 ∷ 2 ∷ 100 ∷ 1 ∷ 0 ∷ 101 ∷ 1 ∷ 1 ∷ 104 ∷ 1 ∷ 9 ∷ 105 ∷ [])
    gives a_replay (given (Replays.differs (some (completion 4 1)) none)))
    ∷ ("a miss after the last record" asks replay_of 8 X (1 ∷ 4 ∷ 4 ∷ 2 ∷ 8 ∷ 5 ∷ []) (0 ∷ 0 ∷ 1 ∷ 100 ∷ 0 ∷ 1 ∷ 2 ∷ 100 ∷ 1 ∷ 0 ∷ 101 ∷ 0 ∷ 0 ∷ 1 ∷ 104 ∷ [])
    gives a_replay (given Replays.same))
    -- and its refusals
    ∷ ("another kind" asks replay_of 8 X (1 ∷ 4 ∷ 4 ∷ 2 ∷ 8 ∷ 7 ∷ []) (0 ∷ 0 ∷ 1 ∷ 100 ∷ 2 ∷ 0 ∷ 101 ∷ [])
    gives a_replay (refused 9 4))
    ∷ ("a kind of two bytes" asks replay_of 8 X (1 ∷ 4 ∷ 4 ∷ 2 ∷ 8 ∷ 7 ∷ []) (129 ∷ 1 ∷ [])
    gives a_replay (refused 9 0))
    ∷ ("a record cut short" asks replay_of 8 X (1 ∷ 4 ∷ 4 ∷ 2 ∷ 8 ∷ 7 ∷ []) (0 ∷ 0 ∷ 1 ∷ [])
    gives a_replay (refused 9 3))
    ∷ ("9 before 1" asks replay_of 0 [] [] (1 ∷ 0 ∷ 228 ∷ [])
    gives a_replay (refused 9 2))
    ∷ ("1 for an empty trace" asks replay_of 8 [] (1 ∷ 4 ∷ 4 ∷ 2 ∷ 8 ∷ 7 ∷ []) []
    gives a_replay (refused 1 0))
    ∷ ("5 before the trace's 10" asks replay_of 8 X (0 ∷ 4 ∷ 4 ∷ []) (0 ∷ 0 ∷ 1 ∷ 0 ∷ 1 ∷ 0 ∷ 224 ∷ 145 ∷ 67 ∷ [])
    gives a_replay (refused 5 0))
    ∷ ("a trace one tick too long" asks replay_of 8 X (1 ∷ 4 ∷ 4 ∷ 2 ∷ 8 ∷ 7 ∷ []) (0 ∷ 0 ∷ 1 ∷ 0 ∷ 1 ∷ 0 ∷ 224 ∷ 145 ∷ 67 ∷ [])
    gives a_replay (refused 10 0))
    ∷ ("trace of as many releases as a run may have, and one more" asks releases_of 4096 gives faults (fine ∷ fault 10 0 ∷ []))
    ∷ ("a trace past 32 bits" asks replay_of 8 X (1 ∷ 4 ∷ 4 ∷ 2 ∷ 8 ∷ 7 ∷ []) (1 ∷ 0 ∷ 1 ∷ 1 ∷ 0 ∷ 0 ∷ 1 ∷ 0 ∷ 255 ∷ 255 ∷ 255 ∷ 255 ∷ 15 ∷ [])
    gives a_replay (refused 10 0))
    ∷ ("the trace's 10 before 11" asks replay_of 8 X (1 ∷ 4 ∷ 4 ∷ 2 ∷ 8 ∷ 7 ∷ []) (0 ∷ 9 ∷ 1 ∷ 0 ∷ 1 ∷ 0 ∷ 224 ∷ 145 ∷ 67 ∷ [])
    gives a_replay (refused 10 0))
    ∷ ("a release before a completion" asks replay_of 8 X (1 ∷ 4 ∷ 4 ∷ 2 ∷ 8 ∷ 7 ∷ []) (0 ∷ 0 ∷ 1 ∷ 100 ∷ 1 ∷ 0 ∷ 100 ∷ [])
    gives a_replay (refused 11 1))
    ∷ ("completions out of order" asks replay_of 8 X (1 ∷ 4 ∷ 4 ∷ 2 ∷ 8 ∷ 7 ∷ []) (0 ∷ 0 ∷ 1 ∷ 100 ∷ 0 ∷ 1 ∷ 2 ∷ 100 ∷ 1 ∷ 1 ∷ 101 ∷ 1 ∷ 0 ∷ 101 ∷ [])
    gives a_replay (refused 11 3))
    ∷ ("releases out of order" asks replay_of 8 X (1 ∷ 4 ∷ 4 ∷ 2 ∷ 8 ∷ 7 ∷ []) (0 ∷ 1 ∷ 2 ∷ 100 ∷ 0 ∷ 0 ∷ 1 ∷ 100 ∷ [])
    gives a_replay (refused 11 1))
    ∷ ("an illegal release" asks replay_of 8 X (1 ∷ 4 ∷ 4 ∷ 2 ∷ 8 ∷ 7 ∷ [])
    (0 ∷ 0 ∷ 1 ∷ 100 ∷ 0 ∷ 1 ∷ 2 ∷ 100 ∷ 1 ∷ 0 ∷ 101 ∷ 0 ∷ 0 ∷ 2 ∷ 104 ∷ 1 ∷ 1 ∷ 106 ∷ [])
    gives a_replay (refused 11 3))
    ∷ ("a release too soon" asks replay_of 8 X (1 ∷ 4 ∷ 4 ∷ 2 ∷ 8 ∷ 7 ∷ []) (0 ∷ 0 ∷ 1 ∷ 100 ∷ 0 ∷ 1 ∷ 2 ∷ 100 ∷ 1 ∷ 0 ∷ 101 ∷ 0 ∷ 0 ∷ 1 ∷ 103 ∷ [])
    gives a_replay (refused 11 3))
    ∷ ("a release of no task" asks replay_of 8 X (1 ∷ 4 ∷ 4 ∷ 2 ∷ 8 ∷ 7 ∷ []) (0 ∷ 2 ∷ 1 ∷ 100 ∷ [])
    gives a_replay (refused 11 0))
    -- request 4: whatever owner 1 does, X is X to owner 0; owner 1's windows are (2,5) and (7,8), which touch owner 0's
    ∷ ("W1, shared" asks least_supplies_for (on_for 8 0) XShared (0 ∷ 1 ∷ 2 ∷ 3 ∷ 4 ∷ 5 ∷ 6 ∷ 7 ∷ 8 ∷ [])
    gives amounts (map given (0 ∷ 0 ∷ 0 ∷ 0 ∷ 1 ∷ 2 ∷ 2 ∷ 3 ∷ 4 ∷ [])))
    ∷ ("owner 1's least supply" asks least_supplies_for (on_for 8 1) XShared (1 ∷ 2 ∷ 3 ∷ 4 ∷ 5 ∷ 6 ∷ 7 ∷ 8 ∷ [])
    gives amounts (map given (0 ∷ 0 ∷ 1 ∷ 1 ∷ 1 ∷ 2 ∷ 3 ∷ 4 ∷ [])))
    ∷ ("ticks of both owners" asks supplied_of_for (on_for 8 0) XShared (1 ∷ 2 ∷ 8 ∷ []) gives ticks (given true ∷ given false ∷ given true ∷ []))
    ∷ ("the same for owner 1" asks supplied_of_for (on_for 8 1) XShared (1 ∷ 2 ∷ 8 ∷ []) gives ticks (given false ∷ given true ∷ given false ∷ []))
    ∷ ("W2, shared" asks critical_windows_for (on_for 8 0) XShared (9 ∷ 9 ∷ 9 ∷ 9 ∷ 9 ∷ []) gives windows (given 2) (3 ∷ 5 ∷ 6 ∷ 8 ∷ 9 ∷ []))
    ∷ ("W3, shared" asks delay_of_for (on_for 8 0) XShared gives a_delay (given (record { delay = 12; A = 4 })))
    ∷ ("W6, shared" asks verdict_of_for (on_for 8 0) XShared (1 ∷ 4 ∷ 4 ∷ 2 ∷ 8 ∷ 6 ∷ []) gives a_verdict (given (miss 6 2 3 2)))
    ∷ ("W6's tasks as owner 1's" asks verdict_of_for (on_for 8 1) XShared (1 ∷ 4 ∷ 4 ∷ 2 ∷ 8 ∷ 6 ∷ []) gives a_verdict (given (miss 6 4 3 2)))
    ∷ ("W5, shared" asks verdict_of_for (on_for 8 0) XShared (1 ∷ 4 ∷ 3 ∷ []) gives a_verdict (given (miss 3 2 1 0)))
    ∷ ("W5's task as owner 1's" asks verdict_of_for (on_for 8 1) XShared (1 ∷ 4 ∷ 3 ∷ []) gives a_verdict (given (meets 8)))
    ∷ ("W6, its margin, shared" asks margin_of_for (on_for 8 0) XShared (1 ∷ 4 ∷ 4 ∷ 2 ∷ 8 ∷ 6 ∷ []) 6 gives a_margin (given (negsuc 0)))
    ∷ ("W11, shared" asks bounds_of_for (on_for 8 0) XShared (1 ∷ 4 ∷ 4 ∷ 1 ∷ 8 ∷ 8 ∷ []) (0 ∷ 1 ∷ []) gives bounds (map (λ t. given (bound t)) (4 ∷ 7 ∷ [])))
    ∷ ("W13, shared" asks run_of_for (on_for 8 0) XShared (1 ∷ 4 ∷ 4 ∷ 2 ∷ 8 ∷ 7 ∷ []) 10 (2 ∷ 0 ∷ 1 ∷ 2 ∷ 1 ∷ 2 ∷ []) (9 ∷ 9 ∷ 9 ∷ [])
    gives a_run (given (record { outcome = met; backlog = 2 })) (4 ∷ 7 ∷ 9 ∷ []))
    ∷ ("W13's jobs as owner 1's" asks run_of_for (on_for 8 1) XShared (1 ∷ 4 ∷ 4 ∷ 2 ∷ 8 ∷ 7 ∷ []) 10 (2 ∷ 0 ∷ 1 ∷ 2 ∷ 1 ∷ 2 ∷ []) (9 ∷ 9 ∷ 9 ∷ [])
    gives a_run (given (record { outcome = met; backlog = 2 })) (1 ∷ 3 ∷ 9 ∷ []))
    ∷ ("owner 1's outage" asks outage_of_for (on_for 8 1) XShared gives amounts (given 2 ∷ []))
    ∷ ("outage of X, shared" asks outage_of_for (on_for 8 0) XShared gives amounts (given 3 ∷ []))
    ∷ ("outage over midnight, shared" asks outage_of_for (on_for 8 1) lab_shared gives amounts (given 6 ∷ []))
    ∷ ("W7, shared" asks verdict_of_for (on_for 8 0) XShared (1 ∷ 4 ∷ 4 ∷ 2 ∷ 8 ∷ 7 ∷ []) gives a_verdict (given (meets 8)))
    ∷ ("a trace, shared" asks replay_of_for (on_for 8 0) XShared (1 ∷ 4 ∷ 4 ∷ 2 ∷ 8 ∷ 7 ∷ []) (0 ∷ 0 ∷ 1 ∷ 100 ∷ 0 ∷ 1 ∷ 2 ∷ 100 ∷ 1 ∷ 0 ∷ 101 ∷ 1 ∷ 1 ∷ 106 ∷ [])
    gives a_replay (given Replays.same))
    -- windows of different owners may touch, of one owner not; none may start before the previous end; an owner but 0 or 1 breaks the rule
    ∷ ("owners that touch" asks verdict_of_for (on_for 8 1) (0 ∷ 2 ∷ 0 ∷ 2 ∷ 4 ∷ 1 ∷ []) [] gives a_verdict (given (meets 8)))
    ∷ ("one owner that touches" asks verdict_of_for (on_for 8 1) (0 ∷ 2 ∷ 1 ∷ 2 ∷ 4 ∷ 1 ∷ []) [] gives a_verdict (refused 3 1))
    ∷ ("another team that touches itself" asks verdict_of_for (on_for 8 0) (0 ∷ 2 ∷ 0 ∷ 4 ∷ 5 ∷ 1 ∷ 5 ∷ 6 ∷ 1 ∷ []) [] gives a_verdict (refused 3 2))
    ∷ ("owners that overlap" asks verdict_of_for (on_for 8 0) (0 ∷ 3 ∷ 0 ∷ 2 ∷ 4 ∷ 1 ∷ []) [] gives a_verdict (refused 3 1))
    ∷ ("another team's empty window" asks verdict_of_for (on_for 8 0) (0 ∷ 2 ∷ 0 ∷ 4 ∷ 4 ∷ 1 ∷ []) [] gives a_verdict (refused 3 1))
    ∷ ("no such owner in the list" asks verdict_of_for (on_for 8 0) (0 ∷ 2 ∷ 0 ∷ 4 ∷ 5 ∷ 2 ∷ []) [] gives a_verdict (refused 3 1))
    -- the whole list is counted: another team's numbers that are not in threes, or its 64 windows beside one
    ∷ ("another team's number left over" asks verdict_of_for (on_for 8 0) (0 ∷ 2 ∷ 0 ∷ 4 ∷ []) [] gives a_verdict (refused 1 0))
    ∷ ("64 windows, 63 of another team" asks supplied_of_for (on_for 200 0) (0 ∷ 1 ∷ 0 ∷ others 63) (0 ∷ []) gives ticks (given true ∷ []))
    ∷ ("65 windows, 64 of another team" asks supplied_of_for (on_for 200 0) (0 ∷ 1 ∷ 0 ∷ others 64) (0 ∷ []) gives ticks (refused 1 0 ∷ []))
    -- an owner with no window, or no such owner, just after 3; before 4, and 9 before it
    ∷ ("an absent owner" asks verdict_of_for (on_for 8 1) (0 ∷ 2 ∷ 0 ∷ []) [] gives a_verdict (refused 1 0))
    ∷ ("no such owner asked for" asks outage_of_for (on_for 8 2) XShared gives amounts (refused 1 0 ∷ []))
    ∷ ("3 before an absent owner" asks verdict_of_for (on_for 8 1) (0 ∷ 2 ∷ 0 ∷ 2 ∷ 3 ∷ 0 ∷ []) [] gives a_verdict (refused 3 1))
    ∷ ("an absent owner before 4" asks verdict_of_for (on_for 8 1) (0 ∷ 2 ∷ 0 ∷ []) (1 ∷ []) gives a_verdict (refused 1 0))
    ∷ ("9 before an absent owner" asks replay_of_for (on_for 8 1) (0 ∷ 2 ∷ 0 ∷ []) [] (2 ∷ []) gives a_replay (refused 9 0))
    ∷ ("an absent owner's buffer" asks critical_windows_for (on_for 8 1) (0 ∷ 2 ∷ 0 ∷ []) (9 ∷ 9 ∷ []) gives windows (refused 1 0) (9 ∷ 9 ∷ []))
    -- a window alone with its owner, and an owner's windows in lent memory
    ∷ ("window of the last owner" asks owned_alone 8 7 8 1 gives an_owned (given (owned 7 8 1)))
    ∷ ("window of no owner" asks owned_alone 8 7 8 2 gives an_owned (refused 3 0))
    ∷ ("owner 1's windows" asks own_of (on_for 8 1) XShared (9 ∷ 9 ∷ 9 ∷ 9 ∷ 9 ∷ []) gives windows (given 4) (2 ∷ 5 ∷ 7 ∷ 8 ∷ 9 ∷ []))
    ∷ ("owner 1's windows without room" asks own_of (on_for 8 1) XShared (9 ∷ 9 ∷ 9 ∷ []) gives windows (refused 8 4) (9 ∷ 9 ∷ 9 ∷ []))
    ∷ ("an absent owner before 8" asks own_of (on_for 8 2) XShared [] gives windows (refused 1 0) [])
    -- pairs read as one owner's, a number that is left over too
    ∷ ("X as owner 1's" asks owned_pairs 1 X (9 ∷ 9 ∷ 9 ∷ 9 ∷ 9 ∷ 9 ∷ 9 ∷ []) gives windows (given 6) (0 ∷ 2 ∷ 1 ∷ 5 ∷ 7 ∷ 1 ∷ 9 ∷ []))
    ∷ ("an odd list as owner 0's" asks owned_pairs 0 (0 ∷ 2 ∷ 5 ∷ []) (9 ∷ 9 ∷ 9 ∷ 9 ∷ []) gives windows (given 4) (0 ∷ 2 ∷ 0 ∷ 5 ∷ []))
    ∷ ("pairs without room" asks owned_pairs 0 (0 ∷ 2 ∷ []) (9 ∷ 9 ∷ []) gives windows (refused 8 3) (9 ∷ 9 ∷ []))
    -- lists in threes: the longest, one window more, none, pairs; and the order
    ∷ ("shared lists" asks shared_lists (192 ∷ 195 ∷ 0 ∷ 4 ∷ []) gives faults (fine ∷ fault 1 0 ∷ fault 1 0 ∷ fault 1 0 ∷ []))
    ∷ ("1 before 2, shared" asks verdict_of_for (on_for 0 0) X [] gives a_verdict (refused 1 0))
    ∷ ("2 before 3, shared" asks verdict_of_for (on_for 0 0) (2 ∷ 2 ∷ 0 ∷ []) [] gives a_verdict (refused 2 0))
    -- request 5: X has windows of two ticks, and the rest of its frame one of three and one of one tick. A window of m ticks is let in, a shorter one is not
    ∷ ("X of two ticks and more" asks verdict_of_for (on_at_least 8 0 2) (as_owned 0 X) (1 ∷ 4 ∷ 4 ∷ 2 ∷ 8 ∷ 6 ∷ []) gives a_verdict (given (miss 6 2 3 2)))
    ∷ ("X of three ticks and more" asks verdict_of_for (on_at_least 8 0 3) (as_owned 0 X) [] gives a_verdict (refused 12 0))
    ∷ ("every window at m = 1" asks least_supplies_for (on_at_least 8 1 1) XShared (8 ∷ []) gives amounts (given 4 ∷ []))
    -- whoever owns it, and the lowest index of the whole list
    ∷ ("another team's sliver" asks verdict_of_for (on_at_least 8 0 2) XShared [] gives a_verdict (refused 12 3))
    ∷ ("an own sliver" asks verdict_of_for (on_at_least 8 1 2) XShared [] gives a_verdict (refused 12 3))
    ∷ ("the lowest of two slivers" asks verdict_of_for (on_at_least 8 1 3) XShared [] gives a_verdict (refused 12 0))
    ∷ ("a sliver between longer windows" asks outage_of_for (on_at_least 8 0 3) lab_shared gives amounts (refused 12 1 ∷ []))
    -- m out of its range is at place 64, and before any window; the largest m allows one window, the frame's whole length
    ∷ ("m of 0" asks outage_of_for (on_at_least 8 0 0) XShared gives amounts (refused 12 64 ∷ []))
    ∷ ("the largest m" asks supplied_of_for (on_at_least 65536 0 65536) (0 ∷ 65536 ∷ 0 ∷ []) (9 ∷ []) gives ticks (given true ∷ []))
    ∷ ("one more than the largest m" asks supplied_of_for (on_at_least 65536 0 65537) (0 ∷ 65536 ∷ 0 ∷ []) (9 ∷ []) gives ticks (refused 12 64 ∷ []))
    ∷ ("the range before the windows" asks outage_of_for (on_at_least 8 0 65537) (0 ∷ 1 ∷ 0 ∷ []) gives amounts (refused 12 64 ∷ []))
    ∷ ("shortest windows" asks boards_alone (map (on_at_least 8 0) (0 ∷ 1 ∷ 65536 ∷ 65537 ∷ []))
    gives boards (refused 12 64 ∷ given (on 8) ∷ given (on_at_least 8 0 65536) ∷ refused 12 64 ∷ []))
    -- after 1, 2, 3 and an absent owner, before 4; after a trace's 9; and nothing is written
    ∷ ("1 before 12" asks verdict_of_for (on_at_least 8 0 0) [] [] gives a_verdict (refused 1 0))
    ∷ ("2 before 12" asks verdict_of_for (on_at_least 0 0 0) XShared [] gives a_verdict (refused 2 0))
    ∷ ("3 before 12" asks verdict_of_for (on_at_least 8 0 2) (0 ∷ 1 ∷ 0 ∷ 2 ∷ 2 ∷ 0 ∷ []) [] gives a_verdict (refused 3 1))
    ∷ ("an absent owner before 12" asks verdict_of_for (on_at_least 8 1 0) (0 ∷ 1 ∷ 0 ∷ []) [] gives a_verdict (refused 1 0))
    ∷ ("12 before 4" asks verdict_of_for (on_at_least 8 0 2) (0 ∷ 1 ∷ 0 ∷ []) (1 ∷ []) gives a_verdict (refused 12 0))
    ∷ ("12 before 7" asks least_supplies_for (on_at_least 8 0 2) (0 ∷ 1 ∷ 0 ∷ []) (1000001 ∷ []) gives amounts (refused 12 0 ∷ []))
    ∷ ("12 before 8" asks critical_windows_for (on_at_least 8 0 2) (0 ∷ 1 ∷ 0 ∷ []) (9 ∷ []) gives windows (refused 12 0) (9 ∷ []))
    ∷ ("12 before 10" asks run_of_for (on_at_least 8 0 2) (0 ∷ 1 ∷ 0 ∷ []) [] 0 (1 ∷ []) (9 ∷ []) gives a_run (refused 12 0) (9 ∷ []))
    ∷ ("9 before 12" asks replay_of_for (on_at_least 8 0 2) (0 ∷ 1 ∷ 0 ∷ []) [] (2 ∷ []) gives a_replay (refused 9 0))
    ∷ ("an owner's windows among slivers" asks own_of (on_at_least 8 0 2) XShared (9 ∷ []) gives windows (refused 12 3) (9 ∷ []))
    -- plan files with m first; W6's with m of 2 and of 3
    ∷ ("W6 with m first" asks line_of 1 (2 ∷ 8 ∷ 2 ∷ 0 ∷ 2 ∷ 5 ∷ 7 ∷ 2 ∷ 1 ∷ 4 ∷ 4 ∷ 2 ∷ 8 ∷ 6 ∷ [])
    gives text (bytes "MISS length 6 start 2 demand 3 supply 2\n"))
    ∷ ("a plan of slivers" asks line_of 1 (3 ∷ 8 ∷ 2 ∷ 0 ∷ 2 ∷ 5 ∷ 7 ∷ 2 ∷ 1 ∷ 4 ∷ 4 ∷ 2 ∷ 8 ∷ 6 ∷ []) gives text (bytes "REFUSED 12 at 0\n"))
    ∷ ("a plan with m of 0" asks line_of 1 (0 ∷ 8 ∷ 2 ∷ 0 ∷ 2 ∷ 5 ∷ 7 ∷ 0 ∷ []) gives text (bytes "REFUSED 12 at 64\n"))
    ∷ ("m missing" asks line_of 1 [] gives text (bytes "REFUSED 9 at 0\n"))
    ∷ ("m in too many bytes" asks line_of 1 (130 ∷ 0 ∷ 8 ∷ []) gives text (bytes "REFUSED 9 at 0\n"))
    ∷ ("a byte left over after m and a plan" asks line_of 1 (2 ∷ 8 ∷ 1 ∷ 0 ∷ 2 ∷ 0 ∷ 7 ∷ []) gives text (bytes "REFUSED 9 at 6\n"))
    ∷ ("1 as soon as it is read, after m" asks line_of 1 (0 ∷ 0 ∷ 65 ∷ []) gives text (bytes "REFUSED 1 at 0\n"))
    ∷ ("4 as soon as it is read, before 12" asks line_of 1 (0 ∷ 8 ∷ 1 ∷ 0 ∷ 2 ∷ 33 ∷ []) gives text (bytes "REFUSED 4 at 0\n"))
    ∷ ("a plan written with m first" asks written_plan (record { settings = 300 ∷ []; frame = 8; windows = 0 ∷ 2 ∷ []; tasks = [] }) (9 ∷ 9 ∷ 9 ∷ 9 ∷ 9 ∷ 9 ∷ 9 ∷ 9 ∷ [])
    gives bytes_in (given 7) (172 ∷ 2 ∷ 8 ∷ 1 ∷ 0 ∷ 2 ∷ 0 ∷ 9 ∷ []))
    -- request 6: X's summary is A, the delay, the number of critical windows, (3,5) and (6,8); owner 1's critical windows are (2,3) and (5,8)
    ∷ ("X's summary" asks summary_made_for (on 8) XShared (9 ∷ 9 ∷ 9 ∷ 9 ∷ 9 ∷ 9 ∷ 9 ∷ 9 ∷ []) gives summary (given 7) (4 ∷ 12 ∷ 2 ∷ 3 ∷ 5 ∷ 6 ∷ 8 ∷ 9 ∷ []))
    ∷ ("owner 1's summary" asks summary_made_for (on_for 8 1) XShared (9 ∷ 9 ∷ 9 ∷ 9 ∷ 9 ∷ 9 ∷ 9 ∷ []) gives summary (given 7) hers)
    ∷ ("a whole frame's summary" asks summary_made_for (on 4) (0 ∷ 4 ∷ 0 ∷ []) (9 ∷ 9 ∷ 9 ∷ 9 ∷ 9 ∷ []) gives summary (given 5) (4 ∷ 0 ∷ 1 ∷ 0 ∷ 4 ∷ []))
    ∷ ("a summary without room" asks summary_made_for (on 4) Y (9 ∷ 9 ∷ 9 ∷ 9 ∷ 9 ∷ 9 ∷ []) gives summary (refused 8 7) (9 ∷ 9 ∷ 9 ∷ 9 ∷ 9 ∷ 9 ∷ []))
    ∷ ("a summary without room for its count" asks summary_made_for (on 4) Y (9 ∷ 9 ∷ []) gives summary (refused 8 7) (9 ∷ 9 ∷ []))
    ∷ ("12 before a summary's 8" asks summary_made_for (on_at_least 8 0 2) XShared (9 ∷ []) gives summary (refused 12 3) (9 ∷ []))
    ∷ ("an absent owner before a summary's 8" asks summary_made_for (on_for 4 1) Y (9 ∷ []) gives summary (refused 1 0) (9 ∷ []))
    -- least supply from a summary; what follows it in lent memory is not looked at
    ∷ ("least supply from X's summary" asks least_froms_for (on 8) XShared XSummary (3 ∷ 15 ∷ []) gives amounts (given 0 ∷ given 7 ∷ []))
    ∷ ("least supply from owner 1's" asks least_froms_for (on_for 8 1) XShared hers (14 ∷ []) gives amounts (given 6 ∷ []))
    ∷ ("least supply from Y's summary" asks least_froms_for (on 4) Y YSummary (0 ∷ 1 ∷ 2 ∷ 3 ∷ 4 ∷ 5 ∷ 6 ∷ 999999 ∷ 1000000 ∷ 1000001 ∷ [])
    gives amounts (given 0 ∷ given 0 ∷ given 1 ∷ given 1 ∷ given 2 ∷ given 2 ∷ given 3 ∷ given 499999 ∷ given 500000 ∷ refused 7 0 ∷ []))
    ∷ ("what follows a summary" asks least_froms_for (on 8) XShared (4 ∷ 12 ∷ 2 ∷ 3 ∷ 5 ∷ 6 ∷ 8 ∷ 0 ∷ 1 ∷ []) (7 ∷ []) gives amounts (given 3 ∷ []))
    -- a summary that does not belong to the windows: in one number, in its length, or another team's
    ∷ ("a summary with another A" asks least_froms_for (on 4) Y (3 ∷ 2 ∷ 2 ∷ 1 ∷ 2 ∷ 3 ∷ 4 ∷ []) (3 ∷ []) gives amounts (refused 14 0 ∷ []))
    ∷ ("a summary with another delay" asks least_froms_for (on 4) Y (2 ∷ 3 ∷ 2 ∷ 1 ∷ 2 ∷ 3 ∷ 4 ∷ []) (3 ∷ []) gives amounts (refused 14 0 ∷ []))
    ∷ ("a summary with another count" asks least_froms_for (on 4) Y (2 ∷ 2 ∷ 1 ∷ 1 ∷ 2 ∷ 3 ∷ 4 ∷ []) (3 ∷ []) gives amounts (refused 14 0 ∷ []))
    ∷ ("a summary with another first window" asks least_froms_for (on 4) Y (2 ∷ 2 ∷ 2 ∷ 0 ∷ 2 ∷ 3 ∷ 4 ∷ []) (3 ∷ []) gives amounts (refused 14 0 ∷ []))
    ∷ ("a summary with another last number" asks least_froms_for (on 4) Y (2 ∷ 2 ∷ 2 ∷ 1 ∷ 2 ∷ 3 ∷ 3 ∷ []) (3 ∷ []) gives amounts (refused 14 0 ∷ []))
    ∷ ("a summary one number short" asks least_froms_for (on 4) Y (2 ∷ 2 ∷ 2 ∷ 1 ∷ 2 ∷ 3 ∷ []) (3 ∷ []) gives amounts (refused 14 0 ∷ []))
    ∷ ("an empty summary" asks least_froms_for (on 4) Y [] (3 ∷ []) gives amounts (refused 14 0 ∷ []))
    ∷ ("X's summary for the other team" asks least_froms_for (on_for 8 1) XShared XSummary (3 ∷ []) gives amounts (refused 14 0 ∷ []))
    ∷ ("3 before 14" asks least_froms_for (on 4) (0 ∷ 1 ∷ 0 ∷ 1 ∷ 2 ∷ 0 ∷ []) [] (3 ∷ []) gives amounts (refused 3 1 ∷ []))
    ∷ ("an absent owner before 14" asks least_froms_for (on_for 4 1) Y YSummary (3 ∷ []) gives amounts (refused 1 0 ∷ []))
    ∷ ("12 before 14" asks least_froms_for (on_at_least 8 0 2) XShared [] (3 ∷ []) gives amounts (refused 12 3 ∷ []))
    ∷ ("14 before 7" asks least_froms_for (on 4) Y [] (1000001 ∷ []) gives amounts (refused 14 0 ∷ []))
    -- margins from a summary, one a length: W1 where no task asks for anything, and W6's; negsuc 1 is −2
    ∷ ("W1, from the summary" asks margins_of_for (on 8) XShared XSummary [] (0 ∷ 1 ∷ 2 ∷ 3 ∷ 4 ∷ 5 ∷ 6 ∷ 7 ∷ 8 ∷ 999999 ∷ 1000000 ∷ []) (replicate 11 (pos 9))
    gives margins (given 11) (map pos (0 ∷ 0 ∷ 0 ∷ 0 ∷ 1 ∷ 2 ∷ 2 ∷ 3 ∷ 4 ∷ 499999 ∷ 500000 ∷ [])))
    ∷ ("W6's margins, from the summary" asks margins_of_for (on 8) XShared XSummary (1 ∷ 4 ∷ 4 ∷ 2 ∷ 8 ∷ 6 ∷ []) (6 ∷ 5 ∷ 8 ∷ 999999 ∷ []) (replicate 5 (pos 9))
    gives margins (given 4) (negsuc 0 ∷ pos 1 ∷ pos 0 ∷ pos 0 ∷ pos 9 ∷ []))
    ∷ ("W6's margins as owner 1's" asks margins_of_for (on_for 8 1) XShared hers (1 ∷ 4 ∷ 4 ∷ 2 ∷ 8 ∷ 6 ∷ []) (5 ∷ 6 ∷ []) (pos 9 ∷ pos 9 ∷ [])
    gives margins (given 2) (pos 0 ∷ negsuc 0 ∷ []))
    ∷ ("a length asked twice" asks margins_of_for (on 4) Y YSummary (4 ∷ 4 ∷ 4 ∷ []) (4 ∷ 4 ∷ []) (pos 9 ∷ pos 9 ∷ []) gives margins (given 2) (negsuc 1 ∷ negsuc 1 ∷ []))
    ∷ ("no length at all" asks margins_of_for (on 4) Y YSummary [] [] (pos 9 ∷ []) gives margins (given 0) (pos 9 ∷ []))
    ∷ ("14 without a length" asks margins_of_for (on 4) Y [] [] [] (pos 9 ∷ []) gives margins (refused 14 0) (pos 9 ∷ []))
    ∷ ("12 before 4, margins" asks margins_of_for (on_at_least 4 0 2) Y [] (1 ∷ []) [] (pos 9 ∷ []) gives margins (refused 12 0) (pos 9 ∷ []))
    ∷ ("4 before 14" asks margins_of_for (on 4) Y [] (1 ∷ []) [] (pos 9 ∷ []) gives margins (refused 4 0) (pos 9 ∷ []))
    ∷ ("5 before 14" asks margins_of_for (on 4) Y [] (1 ∷ 4 ∷ 4 ∷ 0 ∷ 4 ∷ 4 ∷ []) [] (pos 9 ∷ []) gives margins (refused 5 1) (pos 9 ∷ []))
    ∷ ("14 before 7, margins" asks margins_of_for (on 4) Y [] [] (1000001 ∷ []) (pos 9 ∷ []) gives margins (refused 14 0) (pos 9 ∷ []))
    ∷ ("one length too long" asks margins_of_for (on 4) Y YSummary [] (3 ∷ 1000001 ∷ 4 ∷ []) (replicate 3 (pos 9)) gives margins (refused 7 0) (replicate 3 (pos 9)))
    ∷ ("7 before 8, margins" asks margins_of_for (on 4) Y YSummary [] (1000001 ∷ 3 ∷ []) (pos 9 ∷ []) gives margins (refused 7 0) (pos 9 ∷ []))
    ∷ ("margins without room" asks margins_of_for (on 4) Y YSummary [] (3 ∷ 4 ∷ 5 ∷ []) (pos 9 ∷ pos 9 ∷ []) gives margins (refused 8 3) (pos 9 ∷ pos 9 ∷ []))
    -- edits: how many windows and numbers there are now, and both memories, the rest of each as it was. A window that is moved keeps its owner
    ∷ ("owner 1's window moved" asks edit_of_for (on_for 8 1) 4 XShared hers (move 1 2 4)
    gives an_edit (given (record { windows = 4; numbers = 7 })) (0 ∷ 2 ∷ 0 ∷ 2 ∷ 4 ∷ 1 ∷ 5 ∷ 7 ∷ 0 ∷ 7 ∷ 8 ∷ 1 ∷ []) (3 ∷ 10 ∷ 2 ∷ 3 ∷ 4 ∷ 6 ∷ 8 ∷ []))
    ∷ ("another team's window moved" asks edit_of_for (on 4) 2 apart one_summary (move 1 3 4)
    gives an_edit (given (record { windows = 2; numbers = 5 })) (0 ∷ 1 ∷ 0 ∷ 3 ∷ 4 ∷ 1 ∷ []) one_summary)
    ∷ ("a move that touches another team's window" asks edit_of_for (on 4) 2 apart one_summary (move 1 1 2)
    gives an_edit (given (record { windows = 2; numbers = 5 })) (0 ∷ 1 ∷ 0 ∷ 1 ∷ 2 ∷ 1 ∷ []) one_summary)
    ∷ ("a move to a shorter summary" asks edit_of_for (on 4) 2 (0 ∷ 1 ∷ 0 ∷ 2 ∷ 3 ∷ 0 ∷ 9 ∷ []) YSummary (move 1 2 4)
    gives an_edit (given (record { windows = 2; numbers = 5 })) (0 ∷ 1 ∷ 0 ∷ 2 ∷ 4 ∷ 0 ∷ 9 ∷ []) (3 ∷ 3 ∷ 1 ∷ 1 ∷ 4 ∷ 3 ∷ 4 ∷ []))
    ∷ ("a window added to X"
    asks edit_of_for (on 8) 2 (0 ∷ 2 ∷ 0 ∷ 5 ∷ 7 ∷ 0 ∷ 9 ∷ 9 ∷ 9 ∷ 9 ∷ []) (4 ∷ 12 ∷ 2 ∷ 3 ∷ 5 ∷ 6 ∷ 8 ∷ 9 ∷ 9 ∷ 9 ∷ []) (add 1 3 4 0)
    gives an_edit (given (record { windows = 3; numbers = 9 })) (0 ∷ 2 ∷ 0 ∷ 3 ∷ 4 ∷ 0 ∷ 5 ∷ 7 ∷ 0 ∷ 9 ∷ []) (5 ∷ 7 ∷ 3 ∷ 1 ∷ 2 ∷ 3 ∷ 5 ∷ 6 ∷ 8 ∷ 9 ∷ []))
    ∷ ("another team's window added" asks edit_of_for (on 4) 2 (0 ∷ 1 ∷ 0 ∷ 2 ∷ 3 ∷ 0 ∷ 9 ∷ 9 ∷ 9 ∷ []) YSummary (add 1 1 2 1)
    gives an_edit (given (record { windows = 3; numbers = 7 })) (0 ∷ 1 ∷ 0 ∷ 1 ∷ 2 ∷ 1 ∷ 2 ∷ 3 ∷ 0 ∷ []) YSummary)
    ∷ ("a window added before the first" asks edit_of_for (on 4) 1 (2 ∷ 3 ∷ 0 ∷ 9 ∷ 9 ∷ 9 ∷ []) (1 ∷ 3 ∷ 1 ∷ 3 ∷ 4 ∷ 9 ∷ 9 ∷ []) (add 0 0 1 0)
    gives an_edit (given (record { windows = 2; numbers = 7 })) Y YSummary)
    ∷ ("a window added at the count" asks edit_of_for (on 4) 1 (0 ∷ 1 ∷ 0 ∷ 9 ∷ 9 ∷ 9 ∷ []) (1 ∷ 3 ∷ 1 ∷ 3 ∷ 4 ∷ 9 ∷ 9 ∷ []) (add 1 2 3 0)
    gives an_edit (given (record { windows = 2; numbers = 7 })) Y YSummary)
    ∷ ("a window removed" asks edit_of_for (on 4) 2 Y YSummary (remove 0)
    gives an_edit (given (record { windows = 1; numbers = 5 })) (2 ∷ 3 ∷ 0 ∷ 2 ∷ 3 ∷ 0 ∷ []) one_and_room)
    ∷ ("the last window removed" asks edit_of_for (on 4) 2 Y YSummary (remove 1) gives an_edit (given (record { windows = 1; numbers = 5 })) Y one_and_room)
    -- windows after the count are room
    ∷ ("another team's window removed" asks edit_of_for (on 4) 3 (0 ∷ 1 ∷ 0 ∷ 1 ∷ 2 ∷ 1 ∷ 2 ∷ 3 ∷ 0 ∷ 3 ∷ 4 ∷ 1 ∷ []) YSummary (remove 1)
    gives an_edit (given (record { windows = 2; numbers = 7 })) (0 ∷ 1 ∷ 0 ∷ 2 ∷ 3 ∷ 0 ∷ 2 ∷ 3 ∷ 0 ∷ 3 ∷ 4 ∷ 1 ∷ []) YSummary)
    ∷ ("an own window after the count" asks edit_of_for (on 4) 1 Y one_and_room (move 0 1 2)
    gives an_edit (given (record { windows = 1; numbers = 5 })) (1 ∷ 2 ∷ 0 ∷ 2 ∷ 3 ∷ 0 ∷ []) one_and_room)
    ∷ ("a summary of a window after the count too" asks edit_of_for (on 4) 1 Y YSummary (add 1 2 3 0) gives an_edit (refused 14 0) Y YSummary)
    -- refused edits leave both memories as they were. An absent index
    ∷ ("a window moved at the count" asks edit_of_for (on 4) 1 Y one_and_room (move 1 2 3) gives an_edit (refused 7 0) Y one_and_room)
    ∷ ("a window added above the count" asks edit_of_for (on 4) 1 Y one_and_room (add 2 2 3 0) gives an_edit (refused 7 0) Y one_and_room)
    ∷ ("a window removed at the count" asks edit_of_for (on 4) 1 Y one_and_room (remove 1) gives an_edit (refused 7 0) Y one_and_room)
    -- the table as it is, whole, before its summary: an edit can't repair it
    ∷ ("a memory shorter than the count" asks edit_of_for (on 4) 3 Y YSummary (remove 0) gives an_edit (refused 1 0) Y YSummary)
    ∷ ("a memory one number short" asks edit_of_for (on 4) 2 (0 ∷ 1 ∷ 0 ∷ 2 ∷ 3 ∷ []) YSummary (remove 1) gives an_edit (refused 1 0) (0 ∷ 1 ∷ 0 ∷ 2 ∷ 3 ∷ []) YSummary)
    ∷ ("a count of 0" asks edit_of_for (on 4) 0 Y YSummary (add 0 0 1 0) gives an_edit (refused 1 0) Y YSummary)
    ∷ ("1 before 2, an edit" asks edit_of_for (on 0) 3 Y YSummary (remove 0) gives an_edit (refused 1 0) Y YSummary)
    ∷ ("3 before 14, an edit" asks edit_of_for (on 4) 2 (0 ∷ 1 ∷ 0 ∷ 1 ∷ 2 ∷ 0 ∷ []) one_summary (remove 1)
    gives an_edit (refused 3 1) (0 ∷ 1 ∷ 0 ∷ 1 ∷ 2 ∷ 0 ∷ []) one_summary)
    ∷ ("an absent owner before 14, an edit" asks edit_of_for (on_for 4 1) 1 Y one_and_room (add 1 2 3 1) gives an_edit (refused 1 0) Y one_and_room)
    ∷ ("12 before 14, an edit" asks edit_of_for (on_at_least 8 0 2) 4 XShared XSummary (remove 3) gives an_edit (refused 12 3) XShared XSummary)
    ∷ ("14 before 7, an edit" asks edit_of_for (on 4) 2 Y one_summary (remove 2) gives an_edit (refused 14 0) Y one_summary)
    -- the table as it would be
    ∷ ("7 before the new table's 3" asks edit_of_for (on 4) 2 Y YSummary (move 2 2 5) gives an_edit (refused 7 0) Y YSummary)
    ∷ ("a move onto the window before" asks edit_of_for (on 4) 2 Y YSummary (move 1 0 2) gives an_edit (refused 3 1) Y YSummary)
    ∷ ("a move onto the window after" asks edit_of_for (on 4) 2 Y YSummary (move 0 1 3) gives an_edit (refused 3 1) Y YSummary)
    ∷ ("a move that touches an own window" asks edit_of_for (on 4) 2 Y YSummary (move 1 1 2) gives an_edit (refused 3 1) Y YSummary)
    ∷ ("a window of no owner added" asks edit_of_for (on 4) 1 Y one_and_room (add 1 2 3 2) gives an_edit (refused 3 1) Y one_and_room)
    ∷ ("the owner's last window removed" asks edit_of_for (on 4) 2 apart one_summary (remove 0) gives an_edit (refused 1 0) apart one_summary)
    ∷ ("the only window removed" asks edit_of_for (on 4) 1 Y one_and_room (remove 0) gives an_edit (refused 1 0) Y one_and_room)
    ∷ ("a move that leaves a sliver" asks edit_of_for (on_at_least 4 0 2) 2 halves half_summary (move 1 2 3) gives an_edit (refused 12 1) halves half_summary)
    -- room for the windows, then for the summary
    ∷ ("3 before 8, an edit" asks edit_of_for (on 4) 2 Y YSummary (add 1 1 2 0) gives an_edit (refused 3 1) Y YSummary)
    ∷ ("12 before 8, an edit" asks edit_of_for (on_at_least 4 0 2) 1 (0 ∷ 2 ∷ 0 ∷ []) half_summary (add 1 3 4 1) gives an_edit (refused 12 1) (0 ∷ 2 ∷ 0 ∷ []) half_summary)
    ∷ ("an edit without room for the windows" asks edit_of_for (on 4) 1 (0 ∷ 1 ∷ 0 ∷ 9 ∷ 9 ∷ []) one_summary (add 1 2 3 0)
    gives an_edit (refused 8 6) (0 ∷ 1 ∷ 0 ∷ 9 ∷ 9 ∷ []) one_summary)
    ∷ ("an edit without room for the summary" asks edit_of_for (on 4) 1 (0 ∷ 1 ∷ 0 ∷ 9 ∷ 9 ∷ 9 ∷ []) (1 ∷ 3 ∷ 1 ∷ 3 ∷ 4 ∷ 9 ∷ []) (add 1 2 3 0)
    gives an_edit (refused 8 7) (0 ∷ 1 ∷ 0 ∷ 9 ∷ 9 ∷ 9 ∷ []) (1 ∷ 3 ∷ 1 ∷ 3 ∷ 4 ∷ 9 ∷ []))
    -- request 7: of X's windows a board that loses one tick leaves (1,2) and (6,7), the last tick of each
    ∷ ("a tick lost" asks supplied_of_for (losing 8 0 1) XShared (0 ∷ 1 ∷ 2 ∷ 5 ∷ 6 ∷ 8 ∷ 9 ∷ [])
    gives ticks (given false ∷ given true ∷ given false ∷ given false ∷ given true ∷ given false ∷ given true ∷ []))
    ∷ ("least supply after a loss" asks least_supplies_for (losing 8 0 1) XShared (0 ∷ 1 ∷ 2 ∷ 3 ∷ 4 ∷ 5 ∷ 6 ∷ 7 ∷ 8 ∷ [])
    gives amounts (map given (0 ∷ 0 ∷ 0 ∷ 0 ∷ 0 ∷ 1 ∷ 1 ∷ 1 ∷ 2 ∷ [])))
    ∷ ("critical windows after a loss" asks critical_windows_for (losing 8 0 1) XShared (9 ∷ 9 ∷ 9 ∷ 9 ∷ 9 ∷ []) gives windows (given 2) (4 ∷ 5 ∷ 7 ∷ 8 ∷ 9 ∷ []))
    ∷ ("delay after a loss" asks delay_of_for (losing 8 0 1) XShared gives a_delay (given (record { delay = 8; A = 2 })))
    ∷ ("outage after a loss" asks outage_of_for (losing 8 0 1) XShared gives amounts (given 4 ∷ []))
    ∷ ("W4's task after a loss" asks verdict_of_for (losing 8 0 1) XShared (1 ∷ 4 ∷ 4 ∷ []) gives a_verdict (given (miss 4 2 1 0)))
    ∷ ("its margin" asks margin_of_for (losing 8 0 1) XShared (1 ∷ 4 ∷ 4 ∷ []) 4 gives a_margin (given (negsuc 0)))
    ∷ ("a task that meets after a loss" asks verdict_of_for (losing 8 0 1) XShared (1 ∷ 8 ∷ 5 ∷ []) gives a_verdict (given (meets 8)))
    ∷ ("bounds after a loss" asks bounds_of_for (losing 8 0 1) XShared (1 ∷ 8 ∷ 8 ∷ 1 ∷ 8 ∷ 8 ∷ []) (0 ∷ 1 ∷ []) gives bounds (map (λ t. given (bound t)) (5 ∷ 8 ∷ [])))
    ∷ ("a run after a loss" asks run_of_for (losing 8 0 1) XShared (1 ∷ 8 ∷ 5 ∷ 1 ∷ 8 ∷ 8 ∷ []) 10 (2 ∷ 0 ∷ 1 ∷ 2 ∷ 1 ∷ 1 ∷ []) (9 ∷ 9 ∷ 9 ∷ [])
    gives a_run (given (record { outcome = met; backlog = 2 })) (5 ∷ 8 ∷ 9 ∷ []))
    ∷ ("a trace after a loss" asks replay_of_for (losing 8 0 1) XShared (1 ∷ 8 ∷ 5 ∷ []) (0 ∷ 0 ∷ 1 ∷ 100 ∷ 1 ∷ 0 ∷ 101 ∷ [])
    gives a_replay (given (Replays.differs (some (completion 1 0)) none)))
    ∷ ("the trace of that board" asks replay_of_for (losing 8 0 1) XShared (1 ∷ 8 ∷ 5 ∷ []) (0 ∷ 0 ∷ 1 ∷ 100 ∷ 1 ∷ 0 ∷ 102 ∷ []) gives a_replay (given Replays.same))
    ∷ ("a summary after a loss" asks summary_made_for (losing 8 0 1) XShared (9 ∷ 9 ∷ 9 ∷ 9 ∷ 9 ∷ 9 ∷ 9 ∷ 9 ∷ []) gives summary (given 7) (2 ∷ 8 ∷ 2 ∷ 4 ∷ 5 ∷ 7 ∷ 8 ∷ 9 ∷ []))
    ∷ ("least supply from it" asks least_froms_for (losing 8 0 1) XShared (2 ∷ 8 ∷ 2 ∷ 4 ∷ 5 ∷ 7 ∷ 8 ∷ []) (5 ∷ 15 ∷ []) gives amounts (given 1 ∷ given 3 ∷ []))
    ∷ ("X's own summary after a loss" asks least_froms_for (losing 8 0 1) XShared XSummary (5 ∷ []) gives amounts (refused 14 0 ∷ []))
    ∷ ("margins after a loss" asks margins_of_for (losing 8 0 1) XShared (2 ∷ 8 ∷ 2 ∷ 4 ∷ 5 ∷ 7 ∷ 8 ∷ []) (1 ∷ 4 ∷ 4 ∷ []) (4 ∷ 8 ∷ []) (pos 9 ∷ pos 9 ∷ [])
    gives margins (given 2) (negsuc 0 ∷ pos 0 ∷ []))
    -- each window loses its own first ticks, and one no longer than these gives nothing: owner 1's (2,5) leaves (3,5), and (7,8) nothing
    ∷ ("what owner 1 is left" asks own_of (losing 8 1 1) XShared (9 ∷ 9 ∷ 9 ∷ 9 ∷ 9 ∷ []) gives windows (given 2) (3 ∷ 5 ∷ 9 ∷ 9 ∷ 9 ∷ []))
    ∷ ("its ticks" asks supplied_of_for (losing 8 1 1) XShared (2 ∷ 3 ∷ 4 ∷ 7 ∷ []) gives ticks (given false ∷ given true ∷ given true ∷ given false ∷ []))
    ∷ ("one tick that is left" asks outage_of_for (losing 8 1 2) XShared gives amounts (given 7 ∷ []))
    ∷ ("what is left without room" asks own_of (losing 8 1 1) XShared (9 ∷ []) gives windows (refused 8 2) (9 ∷ []))
    -- rule 2 without a loss gives what rule 1 gives
    ∷ ("W1 by rule 2" asks least_supplies_for (losing 8 0 0) XShared (0 ∷ 1 ∷ 2 ∷ 3 ∷ 4 ∷ 5 ∷ 6 ∷ 7 ∷ 8 ∷ [])
    gives amounts (map given (0 ∷ 0 ∷ 0 ∷ 0 ∷ 1 ∷ 2 ∷ 2 ∷ 3 ∷ 4 ∷ [])))
    -- 13: no tick is left to the asked owner, whatever another's windows are; no such rule; too many lost ticks; a loss under rule 1
    ∷ ("no tick left" asks verdict_of_for (losing 8 0 2) XShared [] gives a_verdict (refused 13 0))
    ∷ ("ticks left to the other team" asks verdict_of_for (losing 8 1 2) XShared [] gives a_verdict (given (meets 8)))
    ∷ ("no tick left to the other team" asks outage_of_for (losing 8 0 2) lab_shared gives amounts (given 4 ∷ []))
    ∷ ("no rule 0" asks outage_of_for (on_rule 8 0 1 0 0) XShared gives amounts (refused 13 0 ∷ []))
    ∷ ("no rule 3" asks outage_of_for (on_rule 8 0 1 3 1) XShared gives amounts (refused 13 0 ∷ []))
    ∷ ("a loss under rule 1" asks outage_of_for (on_rule 8 0 1 1 1) XShared gives amounts (refused 13 0 ∷ []))
    ∷ ("the largest loss" asks supplied_of_for (losing 65536 0 65535) (0 ∷ 65536 ∷ 0 ∷ []) (65534 ∷ 65535 ∷ []) gives ticks (given false ∷ given true ∷ []))
    ∷ ("one more than the largest loss" asks supplied_of_for (losing 65536 0 65536) (0 ∷ 65536 ∷ 0 ∷ []) (9 ∷ []) gives ticks (refused 13 0 ∷ []))
    ∷ ("boards by their rule" asks boards_alone (on_rule 8 0 1 0 0 ∷ on_rule 8 0 1 1 0 ∷ on_rule 8 0 1 1 1 ∷ losing 8 0 0 ∷ losing 8 0 65535 ∷ losing 8 0 65536 ∷ on_rule 8 0 1 3 0 ∷ [])
    gives boards (refused 13 0 ∷ given (on 8) ∷ refused 13 0 ∷ given (losing 8 0 0) ∷ given (losing 8 0 65535) ∷ refused 13 0 ∷ refused 13 0 ∷ []))
    ∷ ("a board's 2 and 12 before its 13" asks boards_alone (on_rule 0 0 0 3 0 ∷ on_rule 8 0 0 3 0 ∷ []) gives boards (refused 2 0 ∷ refused 12 64 ∷ []))
    -- after 1, 2, 3, an absent owner and 12, before 4; after a trace's 9; and nothing is written
    ∷ ("1 before 13" asks verdict_of_for (on_rule 8 0 1 3 0) [] [] gives a_verdict (refused 1 0))
    ∷ ("2 before 13" asks verdict_of_for (on_rule 0 0 1 3 0) XShared [] gives a_verdict (refused 2 0))
    ∷ ("3 before 13" asks verdict_of_for (losing 8 0 2) (0 ∷ 2 ∷ 0 ∷ 2 ∷ 4 ∷ 0 ∷ []) [] gives a_verdict (refused 3 1))
    ∷ ("an absent owner before 13" asks verdict_of_for (on_rule 8 1 1 3 0) (0 ∷ 2 ∷ 0 ∷ []) [] gives a_verdict (refused 1 0))
    ∷ ("m's range before 13" asks verdict_of_for (on_rule 8 0 0 3 0) XShared [] gives a_verdict (refused 12 64))
    ∷ ("another team's sliver before 13" asks verdict_of_for (on_rule 8 0 2 2 2) XShared [] gives a_verdict (refused 12 3))
    ∷ ("13 before 4" asks verdict_of_for (losing 8 0 2) XShared (1 ∷ []) gives a_verdict (refused 13 0))
    ∷ ("13 before 7" asks least_supplies_for (losing 8 0 2) XShared (1000001 ∷ []) gives amounts (refused 13 0 ∷ []))
    ∷ ("13 before 8" asks critical_windows_for (losing 8 0 2) XShared (9 ∷ []) gives windows (refused 13 0) (9 ∷ []))
    ∷ ("13 before 10" asks run_of_for (losing 8 0 2) XShared [] 0 (1 ∷ []) (9 ∷ []) gives a_run (refused 13 0) (9 ∷ []))
    ∷ ("13 before 14" asks least_froms_for (losing 8 0 2) XShared [] (5 ∷ []) gives amounts (refused 13 0 ∷ []))
    ∷ ("9 before 13" asks replay_of_for (losing 8 0 2) XShared [] (2 ∷ []) gives a_replay (refused 9 0))
    ∷ ("an owner's windows of which nothing is left" asks own_of (losing 8 0 2) XShared (9 ∷ []) gives windows (refused 13 0) (9 ∷ []))
    -- edits: the old table's 13 before 14, the new one's after its 3 and 12; another team may be left nothing
    ∷ ("a move after a loss" asks edit_of_for (losing 8 0 1) 2 (0 ∷ 2 ∷ 0 ∷ 5 ∷ 6 ∷ 0 ∷ []) (1 ∷ 7 ∷ 1 ∷ 7 ∷ 8 ∷ 9 ∷ 9 ∷ []) (move 1 5 7)
    gives an_edit (given (record { windows = 2; numbers = 7 })) (0 ∷ 2 ∷ 0 ∷ 5 ∷ 7 ∷ 0 ∷ []) (2 ∷ 8 ∷ 2 ∷ 4 ∷ 5 ∷ 7 ∷ 8 ∷ []))
    ∷ ("a removal that leaves no tick" asks edit_of_for (losing 8 0 1) 2 (0 ∷ 2 ∷ 0 ∷ 5 ∷ 6 ∷ 0 ∷ []) (1 ∷ 7 ∷ 1 ∷ 7 ∷ 8 ∷ []) (remove 0)
    gives an_edit (refused 13 0) (0 ∷ 2 ∷ 0 ∷ 5 ∷ 6 ∷ 0 ∷ []) (1 ∷ 7 ∷ 1 ∷ 7 ∷ 8 ∷ []))
    ∷ ("the new table's 3 before 13" asks edit_of_for (losing 4 0 2) 1 (0 ∷ 3 ∷ 0 ∷ []) one_summary (move 0 3 5) gives an_edit (refused 3 0) (0 ∷ 3 ∷ 0 ∷ []) one_summary)
    ∷ ("the new table's 12 before 13" asks edit_of_for (on_rule 4 0 2 2 2) 1 (0 ∷ 3 ∷ 0 ∷ []) one_summary (move 0 0 1) gives an_edit (refused 12 0) (0 ∷ 3 ∷ 0 ∷ []) one_summary)
    ∷ ("the old table's 13 before 14" asks edit_of_for (losing 4 0 3) 1 (0 ∷ 3 ∷ 0 ∷ []) one_summary (move 0 0 4) gives an_edit (refused 13 0) (0 ∷ 3 ∷ 0 ∷ []) one_summary)
    ∷ ("the new table's 13 after 7" asks edit_of_for (losing 4 0 2) 1 (0 ∷ 3 ∷ 0 ∷ []) one_summary (move 1 0 1) gives an_edit (refused 7 0) (0 ∷ 3 ∷ 0 ∷ []) one_summary)
    ∷ ("another team that is left nothing" asks edit_of_for (losing 4 0 1) 2 halves one_summary (move 1 2 3)
    gives an_edit (given (record { windows = 2; numbers = 5 })) (0 ∷ 2 ∷ 0 ∷ 2 ∷ 3 ∷ 1 ∷ []) one_summary)
    -- plan files with m, rule and lost ticks first
    ∷ ("W6 with its settings first" asks line_of 3 (2 ∷ 1 ∷ 0 ∷ 8 ∷ 2 ∷ 0 ∷ 2 ∷ 5 ∷ 7 ∷ 2 ∷ 1 ∷ 4 ∷ 4 ∷ 2 ∷ 8 ∷ 6 ∷ [])
    gives text (bytes "MISS length 6 start 2 demand 3 supply 2\n"))
    ∷ ("W4 with a tick lost" asks line_of 3 (1 ∷ 2 ∷ 1 ∷ 8 ∷ 2 ∷ 0 ∷ 2 ∷ 5 ∷ 7 ∷ 1 ∷ 1 ∷ 4 ∷ 4 ∷ []) gives text (bytes "MISS length 4 start 2 demand 1 supply 0\n"))
    ∷ ("a plan that is left no tick" asks line_of 3 (1 ∷ 2 ∷ 2 ∷ 8 ∷ 2 ∷ 0 ∷ 2 ∷ 5 ∷ 7 ∷ 0 ∷ []) gives text (bytes "REFUSED 13 at 0\n"))
    ∷ ("a plan of no rule" asks line_of 3 (1 ∷ 3 ∷ 0 ∷ 8 ∷ 2 ∷ 0 ∷ 2 ∷ 5 ∷ 7 ∷ 0 ∷ []) gives text (bytes "REFUSED 13 at 0\n"))
    ∷ ("a plan's 12 before 13" asks line_of 3 (3 ∷ 2 ∷ 2 ∷ 8 ∷ 2 ∷ 0 ∷ 2 ∷ 5 ∷ 7 ∷ 0 ∷ []) gives text (bytes "REFUSED 12 at 0\n"))
    ∷ ("the lost ticks missing" asks line_of 3 (1 ∷ 2 ∷ []) gives text (bytes "REFUSED 9 at 2\n"))
    ∷ ("the rule in too many bytes" asks line_of 3 (1 ∷ 130 ∷ 0 ∷ 1 ∷ 8 ∷ []) gives text (bytes "REFUSED 9 at 1\n"))
    ∷ ("a byte left over after the settings and a plan" asks line_of 3 (1 ∷ 2 ∷ 0 ∷ 8 ∷ 1 ∷ 0 ∷ 2 ∷ 0 ∷ 7 ∷ []) gives text (bytes "REFUSED 9 at 8\n"))
    ∷ ("4 as soon as it is read, before 13" asks line_of 3 (1 ∷ 3 ∷ 0 ∷ 8 ∷ 1 ∷ 0 ∷ 2 ∷ 33 ∷ []) gives text (bytes "REFUSED 4 at 0\n"))
    ∷ ("a plan written with its settings first" asks written_plan (record { settings = 1 ∷ 2 ∷ 300 ∷ []; frame = 8; windows = 0 ∷ 2 ∷ []; tasks = [] }) (replicate 10 9)
    gives bytes_in (given 9) (1 ∷ 2 ∷ 172 ∷ 2 ∷ 8 ∷ 1 ∷ 0 ∷ 2 ∷ 0 ∷ 9 ∷ []))
    -- of the four errors, W5 and W9 show two: here supply counted from tick 0 passes the first, and starts at window ends miss the second's least start
    ∷ ("supply from tick 0" asks verdict_of 8 X (2 ∷ 8 ∷ 3 ∷ []) gives a_verdict (given (miss 3 2 2 0)))
    ∷ ("starts at window ends" asks verdict_of 8 X (2 ∷ 4 ∷ 4 ∷ []) gives a_verdict (given (miss 4 1 2 1)))
    -- a bound counts jobs by the period, not by the deadline
    ∷ ("bound by the period" asks bounds_of 1 (0 ∷ 1 ∷ []) (1 ∷ 4 ∷ 1 ∷ 2 ∷ 8 ∷ 8 ∷ []) (1 ∷ []) gives bounds (given (bound 3) ∷ []))
    -- ties go to the lower task of a group that meets, a missed run names instant and lowest job, and what is unfinished has count 0
    ∷ ("a tie" asks verdict_of 8 X (1 ∷ 8 ∷ 6 ∷ 1 ∷ 8 ∷ 6 ∷ []) gives a_verdict (given (meets 8)))
    ∷ ("a tie, run" asks run_of 8 X (1 ∷ 8 ∷ 6 ∷ 1 ∷ 8 ∷ 6 ∷ []) 10 (1 ∷ 0 ∷ 1 ∷ 1 ∷ 1 ∷ 1 ∷ []) (9 ∷ 9 ∷ [])
    gives a_run (given (record { outcome = met; backlog = 2 })) (1 ∷ 5 ∷ []))
    ∷ ("a run that misses" asks run_of 8 X (1 ∷ 4 ∷ 4 ∷ 2 ∷ 8 ∷ 6 ∷ []) 10 (2 ∷ 0 ∷ 1 ∷ 2 ∷ 1 ∷ 2 ∷ []) (9 ∷ 9 ∷ [])
    gives a_run (given (record { outcome = missed 8 1; backlog = 2 })) (4 ∷ 0 ∷ []))
    ∷ ("a run that ends early" asks run_of 8 X (1 ∷ 4 ∷ 4 ∷ 2 ∷ 8 ∷ 7 ∷ []) 3 (2 ∷ 0 ∷ 1 ∷ 2 ∷ 1 ∷ 2 ∷ []) (9 ∷ 9 ∷ [])
    gives a_run (given (record { outcome = met; backlog = 2 })) (0 ∷ 0 ∷ []))
    -- at the limits: each limit, and one more
    ∷ ("touching windows" asks verdict_of 8 (0 ∷ 2 ∷ 2 ∷ 4 ∷ []) [] gives a_verdict (refused 3 1))
    ∷ ("frames" asks frames (0 ∷ 1 ∷ 65536 ∷ 65537 ∷ []) gives boards (refused 2 0 ∷ given (on 1) ∷ given (on 65536) ∷ refused 2 0 ∷ []))
    ∷ ("window to the frame's end" asks window_alone 8 7 8 gives a_window (given (window 7 8)))
    ∷ ("window past the frame's end" asks window_alone 8 7 9 gives a_window (refused 3 0))
    ∷ ("empty window" asks window_alone 8 2 2 gives a_window (refused 3 0))
    ∷ ("largest task" asks task_alone 1000000 1000000 1000000 gives a_task (given (task 1000000 1000000 1000000)))
    ∷ ("C over its limit" asks task_alone 1000001 8 8 gives a_task (refused 5 0))
    ∷ ("T over its limit" asks task_alone 1 1000001 1 gives a_task (refused 5 0))
    ∷ ("C of 0" asks task_alone 0 4 4 gives a_task (refused 5 0))
    ∷ ("D over T" asks task_alone 1 4 5 gives a_task (refused 5 0))
    ∷ ("asked lengths" asks asked_lengths (0 ∷ 1000000 ∷ 1000001 ∷ []) gives amounts (given 0 ∷ given 1000000 ∷ refused 7 0 ∷ []))
    ∷ ("ticks of a run" asks run_ticks (0 ∷ 1100000 ∷ 1100001 ∷ []) gives amounts (given 0 ∷ given 1100000 ∷ refused 10 0 ∷ []))
    ∷ ("longest lists" asks lists_of 128 96 12288 gives faults (fine ∷ fine ∷ fine ∷ []))
    ∷ ("lists one too long" asks lists_of 130 99 12291 gives faults (fault 1 0 ∷ fault 4 0 ∷ fault 10 0 ∷ []))
    ∷ ("empty lists" asks lists_of 0 0 0 gives faults (fault 1 0 ∷ fine ∷ fine ∷ []))
    ∷ ("lists not in pieces" asks lists_of 3 4 5 gives faults (fault 1 0 ∷ fault 4 0 ∷ fault 10 0 ∷ []))
    ∷ ("cycle at its limit" asks cycle_of 8 (1 ∷ 1000000 ∷ 1000000 ∷ []) gives faults (fine ∷ []))
    ∷ ("cycle far over its limit" asks verdict_of 8 X (1 ∷ 999999 ∷ 999999 ∷ []) gives a_verdict (refused 6 0))
    ∷ ("cycle just below its limit" asks cycle_of 1 (1 ∷ 1001 ∷ 1 ∷ 1 ∷ 999 ∷ 1 ∷ []) gives faults (fine ∷ []))
    ∷ ("cycle just over its limit" asks cycle_of 101 (1 ∷ 9901 ∷ 1 ∷ []) gives faults (fault 6 0 ∷ []))
    ∷ ("demand at its limits" asks demands_of (1 ∷ 4 ∷ 3 ∷ []) (2 ∷ 3 ∷ 1000000 ∷ 1000001 ∷ [])
    gives amounts (given 0 ∷ given 1 ∷ given 250000 ∷ refused 7 0 ∷ []))
    -- the order of refusals, each row with a fault of the next number or numbers too
    ∷ ("1 before 2" asks verdict_of 0 [] [] gives a_verdict (refused 1 0))
    ∷ ("2 before 3" asks verdict_of 0 (2 ∷ 2 ∷ []) [] gives a_verdict (refused 2 0))
    ∷ ("3 before 4" asks verdict_of 8 (2 ∷ 2 ∷ []) (1 ∷ []) gives a_verdict (refused 3 0))
    ∷ ("4 before 5" asks verdict_of 8 X (0 ∷ 4 ∷ 4 ∷ 1 ∷ []) gives a_verdict (refused 4 0))
    ∷ ("5 before 6" asks verdict_of 8 X (1 ∷ 999999 ∷ 999999 ∷ 0 ∷ 1 ∷ 1 ∷ []) gives a_verdict (refused 5 1))
    ∷ ("5 before 7" asks margin_of 8 X (0 ∷ 4 ∷ 4 ∷ []) 1000001 gives a_margin (refused 5 0))
    ∷ ("5 before 10" asks run_of 8 X (0 ∷ 4 ∷ 4 ∷ []) 10 (1 ∷ []) [] gives a_run (refused 5 0) [])
    ∷ ("10 before 11" asks run_of 8 X (1 ∷ 4 ∷ 4 ∷ []) 1100001 (2 ∷ 5 ∷ 1 ∷ []) [] gives a_run (refused 10 0) [])
    -- and that a refusal writes nothing
    ∷ ("partition without room" asks critical_windows 8 X (9 ∷ 9 ∷ 9 ∷ []) gives windows (refused 8 4) (9 ∷ 9 ∷ 9 ∷ []))
    ∷ ("3 before 8" asks critical_windows 8 (0 ∷ 2 ∷ 2 ∷ 4 ∷ []) [] gives windows (refused 3 1) [])
    ∷ ("run without room" asks run_of 8 X (1 ∷ 4 ∷ 4 ∷ []) 10 (2 ∷ 0 ∷ 1 ∷ []) [] gives a_run (refused 8 1) [])
    ∷ ("11 before 8" asks run_of 8 X (1 ∷ 4 ∷ 4 ∷ []) 10 (2 ∷ 0 ∷ 2 ∷ []) [] gives a_run (refused 11 0) [])
    ∷ ("run refused by 10" asks run_of 8 X (1 ∷ 4 ∷ 4 ∷ []) 10 (2 ∷ 0 ∷ []) (9 ∷ []) gives a_run (refused 10 0) (9 ∷ []))
    ∷ ("plan refused by 1" asks written_plan (record { settings = []; frame = 8; windows = []; tasks = 1 ∷ [] }) (9 ∷ []) gives bytes_in (refused 1 0) (9 ∷ []))
    ∷ ("a plan written" asks written_plan (record { settings = []; frame = 300; windows = 0 ∷ 2 ∷ []; tasks = [] }) (9 ∷ 9 ∷ 9 ∷ 9 ∷ 9 ∷ 9 ∷ 9 ∷ [])
    gives bytes_in (given 6) (172 ∷ 2 ∷ 1 ∷ 0 ∷ 2 ∷ 0 ∷ 9 ∷ []))
    ∷ ("line without room" asks line_into 0 (8 ∷ 1 ∷ 0 ∷ 2 ∷ 0 ∷ []) (9 ∷ 9 ∷ []) gives bytes_in (refused 8 14) (9 ∷ 9 ∷ []))
    -- the other lines; bytes left over, a number cut short, one in too many bytes, one missing, the greatest number and one more, and the two early answers
    ∷ ("line of a plan that meets" asks line_of 0 (8 ∷ 2 ∷ 0 ∷ 2 ∷ 5 ∷ 7 ∷ 0 ∷ []) gives text (bytes "MEETS cycle 8\n"))
    ∷ ("line of a refusal" asks line_of 0 (8 ∷ 2 ∷ 0 ∷ 2 ∷ 2 ∷ 4 ∷ 0 ∷ []) gives text (bytes "REFUSED 3 at 1\n"))
    ∷ ("a byte left over" asks line_of 0 (8 ∷ 1 ∷ 0 ∷ 2 ∷ 0 ∷ 7 ∷ []) gives text (bytes "REFUSED 9 at 5\n"))
    ∷ ("a number cut short" asks line_of 0 (8 ∷ 1 ∷ 0 ∷ 130 ∷ []) gives text (bytes "REFUSED 9 at 3\n"))
    ∷ ("a number in too many bytes" asks line_of 0 (8 ∷ 1 ∷ 0 ∷ 130 ∷ 0 ∷ []) gives text (bytes "REFUSED 9 at 3\n"))
    ∷ ("a number missing" asks line_of 0 (8 ∷ 1 ∷ []) gives text (bytes "REFUSED 9 at 2\n"))
    ∷ ("the greatest number" asks line_of 0 (255 ∷ 255 ∷ 255 ∷ 255 ∷ 15 ∷ 1 ∷ 0 ∷ 2 ∷ 0 ∷ []) gives text (bytes "REFUSED 2 at 0\n"))
    ∷ ("a number too large" asks line_of 0 (128 ∷ 128 ∷ 128 ∷ 128 ∷ 16 ∷ 1 ∷ 0 ∷ 2 ∷ 0 ∷ []) gives text (bytes "REFUSED 9 at 0\n"))
    ∷ ("1 as soon as it is read" asks line_of 0 (0 ∷ 65 ∷ []) gives text (bytes "REFUSED 1 at 0\n"))
    ∷ ("4 as soon as it is read" asks line_of 0 (0 ∷ 1 ∷ 0 ∷ 2 ∷ 33 ∷ []) gives text (bytes "REFUSED 4 at 0\n"))
    ∷ []

-- every row's question gets its expected reply
abbrev pub Hold : List Example → Type 0
Hold [] = Unit {0}
Hold (e ∷ rows) = (reply e.question ≡ e.expected) × Hold rows

-- one tuple in another, so that a refused row is named by its own message; `rt fmt` would lay a broken line out one bracket a line
pub examples : Hold table
unfolding everything reply table
examples =
    (refl, (refl, (refl, (refl, (refl, (refl, (refl, (refl, (refl, (refl, (refl, (refl, (refl, (refl, (refl, (refl, (refl, (refl, (refl, (refl, (refl, (refl, (refl, (refl, (refl, (refl, (refl, (refl, (refl, (refl, (refl, (refl, (refl, (refl, (refl, (refl, (refl, (refl, (refl, (refl, (refl, (refl, (refl, (refl, (refl, (refl, (refl, (refl, (refl, (refl, (refl, (refl, (refl, (refl, (refl, (refl, (refl, (refl, (refl, (refl, (refl, (refl, (refl, (refl, (refl, (refl, (refl, (refl, (refl, (refl, (refl, (refl, (refl, (refl, (refl, (refl, (refl, (refl, (refl, (refl, (refl, (refl, (refl, (refl, (refl, (refl, (refl, (refl, (refl, (refl, (refl, (refl, (refl, (refl, (refl, (refl, (refl, (refl, (refl, (refl, (refl, (refl, (refl, (refl, (refl, (refl, (refl, (refl, (refl, (refl, (refl, (refl, (refl, (refl, (refl, (refl, (refl, (refl, (refl, (refl, (refl, (refl, (refl, (refl, (refl, (refl, (refl, (refl, (refl, (refl, (refl, (refl, (refl, (refl, (refl, (refl, (refl, (refl, (refl, (refl, (refl, (refl, (refl, (refl, (refl, (refl, (refl, (refl, (refl, (refl, (refl, (refl, (refl, (refl, (refl, (refl, (refl, (refl, (refl, (refl, (refl, (refl, (refl, (refl, (refl, (refl, (refl, (refl, (refl, (refl, (refl, (refl, (refl, (refl, (refl, (refl, (refl, (refl, (refl, (refl, (refl, (refl, (refl, (refl, (refl, (refl, (refl, (refl, (refl, (refl, (refl, (refl, (refl, (refl, (refl, (refl, (refl, (refl, (refl, (refl, (refl, (refl, (refl, (refl, (refl, (refl, (refl, (refl, (refl, (refl, (refl, (refl, (refl, (refl, (refl, (refl, (refl, (refl, (refl, (refl, (refl, (refl, (refl, (refl, (refl, (refl, (refl, (refl, (refl, (refl, (refl, (refl, (refl, (refl, (refl, (refl, (refl, (refl, (refl, (refl, (refl, (refl, (refl, (refl, (refl, (refl, (refl, (refl, (refl, (refl, (refl, (refl, (refl, (refl, (refl, (refl, (refl, (refl, (refl, (refl, (refl, (refl, (refl, (refl, (refl, (refl, (refl, (refl, (refl, (refl, (refl, (refl, (refl, (refl, (refl, (refl, (refl, (refl, (refl, (refl, (refl, (refl, (refl, (refl, (refl, (refl, (refl, (refl, (refl, (refl, (refl, (refl, (refl, (refl, (refl, (refl, (refl, (refl, (refl, (refl, (refl, (refl, (refl, (refl, (refl, (refl, (refl, (refl, (refl, (refl, (refl, (refl, (refl, (refl, (refl, (refl, tt))))))))))))))))))))))))))))))))))))))))))))))))))))))))))))))))))))))))))))))))))))))))))))))))))))))))))))))))))))))))))))))))))))))))))))))))))))))))))))))))))))))))))))))))))))))))))))))))))))))))))))))))))))))))))))))))))))))))))))))))))))))))))))))))))))))))))))))))))))))))))))))))))))))))))))))))))))))))))))

-- ---- a row by its name

abbrev same : String → String → Bool
same ε ε = true
same ε (d ◂ t) = false
same (c ◂ s) ε = false
same (c ◂ s) (d ◂ t) = eqb (code c) (code d) && same s t

abbrev either : Bool → Type 0 → Type 0 → Type 0
either true A B = A
either false A B = B

-- what the first row of that name says
abbrev pub RowHolds : List Example → String → Type 0
RowHolds [] n = Unit {0}
RowHolds (e ∷ rows) n = either (same e.name n) (reply e.question ≡ e.expected) (RowHolds rows n)

pub row : (rows : List Example) → Hold rows → (n : String) → RowHolds rows n
row [] h n = tt
row (e ∷ rows) h n = go (same e.name n) h.0 (row rows h.1 n)
  where
    go : {A B : Type 0} (b : Bool) → A → B → either b A B
    go true a b = a
    go false a b = b
