-- Document 01, "Refusal numbers": what each entry checks, in which order, and what it answers and writes, on any numbers at all.
use Rattle.std.specs.Prelude.{ℕ, ◌/◌, Bool, true, false, not, ◌&&◌, ◌||◌, List, [], ◌∷◌, leb, ltb, eqb, ℤ, length}
use Rattle.std.proofs.Math.Option.{Option, none, some}
use Rattle.scope.specs.Numbers.{bad_count, written}
use Rattle.scope.specs.Limits.{most_frame, most_shortest, most_lost, most_windows, most_tasks, most_cycle, most_length, most_ticks, most_jobs}
use Rattle.scope.specs.Ticks.{per_frame, least_supply}
use Rattle.scope.specs.Windows.{Board, Window, windows_of, supplied_by, bad_window}
use Rattle.scope.specs.Partition.{critical, delay, outage}
use Rattle.scope.specs.Tasks.{Task, tasks_of, bad_task, demand, margin}
use Rattle.scope.specs.Cycle.{cycle}
use Rattle.scope.specs.Verdict.{Verdict, verdict}
use Rattle.scope.specs.Bound.{Bound, response}
use Rattle.scope.specs.Jobs.{Job, jobs_of, bad_job}
use Rattle.scope.specs.Machine.{edf}
use Rattle.scope.specs.Run.{Ran, ran, counts}

-- ---- refusals

pub data Fault : Type 0 where
  fine : Fault
  fault : (number place : ℕ) → Fault

pub data Answer (A : Type 0) : Type 0 where
  given : A → Answer A
  refused : (number place : ℕ) → Answer A

abbrev pub fault_if : Bool → ℕ → ℕ → Fault
fault_if true number place = fault number place
fault_if false number place = fine

-- the place is the index found, if one is
abbrev pub fault_at : ℕ → Option ℕ → Fault
fault_at number none = fine
fault_at number (some i) = fault number i

-- checks are made in the order in which they are written
infixr 3 ◌or_else◌
abbrev pub ◌or_else◌ : Fault → Fault → Fault
fine or_else later = later
fault number place or_else later = fault number place

-- a fault is answered in place of the value
abbrev pub unless : {A : Type 0} → Fault → A → Answer A
unless fine a = given a
unless (fault number place) a = refused number place

-- a refusal writes nothing
abbrev pub unless_kept : {A : Type 0} → Fault → List A → List A → List A
unless_kept fine new old = new
unless_kept (fault number place) new old = old

-- ---- checks

-- 1: window list not in pieces of k numbers, empty, or over 64 windows
abbrev pub list_fault : ℕ → List ℕ → Fault
list_fault k ws = fault_if (bad_count k most_windows ws || eqb (length ws) 0) 1 0

-- of pairs: odd, empty, or over 64 windows
unfoldable pub window_list_fault : List ℕ → Fault
window_list_fault ws = list_fault 2 ws

-- 2: P outside 1 to 65,536
unfoldable pub frame_fault : Board → Fault
frame_fault b = fault_if (eqb b.frame 0 || ltb most_frame b.frame) 2 0

-- 3: a window breaks its rule
unfoldable pub window_fault : Board → List Window → Fault
window_fault b ws = fault_at 3 (bad_window b ws)

-- 4: task list not in threes, or over 32 tasks
unfoldable pub task_list_fault : List ℕ → Fault
task_list_fault ts = fault_if (bad_count 3 most_tasks ts) 4 0

-- 5: a task breaks its rule
unfoldable pub task_fault : List Task → Fault
task_fault ts = fault_at 5 (bad_task ts)

-- 6: H over 1,000,000
unfoldable pub cycle_fault : Board → List Task → Fault
cycle_fault b ts = fault_if (ltb most_cycle (cycle b.frame ts)) 6 0

-- 7: asked length over 1,000,000
unfoldable pub length_fault : ℕ → Fault
length_fault t = fault_if (ltb most_length t) 7 0

-- 7: asked task absent
unfoldable pub absent_fault : List Task → ℕ → Fault
absent_fault ts i = fault_if (leb (length ts) i) 7 0

-- 8: lent output shorter than needed
unfoldable pub room_fault : ℕ → ℕ → Fault
room_fault needed room = fault_if (ltb room needed) 8 needed

-- 10: job list not in threes, over 4,096 jobs, or n over 1,100,000
unfoldable pub job_list_fault : ℕ → List ℕ → Fault
job_list_fault n js = fault_if (bad_count 3 most_jobs js || ltb most_ticks n) 10 0

-- 11: a job breaks the legal list rule
unfoldable pub job_fault : List Task → ℕ → List Job → Fault
job_fault ts n js = fault_at 11 (bad_job ts n js)

-- document 02, 12: the shortest allowed window outside 1 to 65,536, at a place that no window has
unfoldable pub shortest_fault : Board → Fault
shortest_fault b = fault_if (eqb b.shortest 0 || ltb most_shortest b.shortest) 12 64

-- 13: the rule is neither 1 nor 2, more than 65,535 ticks are lost, or rule 1 comes with lost ticks
unfoldable pub rule_fault : Board → Fault
rule_fault b =
    fault_if (not (eqb b.rule 1 || eqb b.rule 2) || ltb most_lost b.lost || (eqb b.rule 1 && ltb 0 b.lost)) 13 0

-- the checks of a table, 1 2 3, and of a group, 4 5, as lists of numbers
unfoldable pub table_fault : Board → List ℕ → Fault
table_fault b ws = window_list_fault ws or_else frame_fault b or_else window_fault b (windows_of ws)

unfoldable pub group_fault : List ℕ → Fault
group_fault ts = task_list_fault ts or_else task_fault (tasks_of ts)

-- ---- one value alone, as a constructor takes it

-- which owners there are, and whether a tick is left to the one asked for, is judged with the windows
unfoldable pub board_answer : Board → Answer Board
board_answer b = unless (frame_fault b or_else shortest_fault b or_else rule_fault b) b

unfoldable pub window_answer : Board → Window → Answer Window
window_answer b w = unless (window_fault b (w ∷ [])) w

unfoldable pub task_answer : Task → Answer Task
task_answer x = unless (task_fault (x ∷ [])) x

unfoldable pub length_answer : ℕ → Answer ℕ
length_answer t = unless (length_fault t) t

-- the ticks of a run
unfoldable pub run_ticks_answer : ℕ → Answer ℕ
run_ticks_answer n = unless (job_list_fault n []) n

-- ---- entries. Windows ws, tasks ts and jobs js are lists of numbers

unfoldable pub supplied_answer : Board → List ℕ → ℕ → Answer Bool
supplied_answer b ws k = unless (table_fault b ws) (supplied_by b ws k)

unfoldable pub least_supply_answer : Board → List ℕ → ℕ → Answer ℕ
least_supply_answer b ws t = unless (table_fault b ws or_else length_fault t) (least_supply (supplied_by b ws) b.frame t)

-- the critical partition: its windows as numbers, two each
abbrev pub critical_of : Board → List ℕ → List ℕ
critical_of b ws = critical (supplied_by b ws) b.frame

unfoldable pub critical_fault : Board → List ℕ → ℕ → Fault
critical_fault b ws room = table_fault b ws or_else room_fault (length (critical_of b ws)) room

-- how many windows
unfoldable pub critical_answer : Board → List ℕ → ℕ → Answer ℕ
critical_answer b ws room = unless (critical_fault b ws room) (length (critical_of b ws) / 2)

unfoldable pub critical_out : Board → List ℕ → List ℕ → List ℕ
critical_out b ws out = unless_kept (critical_fault b ws (length out)) (written (critical_of b ws) out) out

-- the delay, with A beside it
pub record Delay : Type 0 where
  pub delay : ℕ
  pub A : ℕ

unfoldable pub delay_answer : Board → List ℕ → Answer Delay
delay_answer b ws = unless (table_fault b ws) (record { delay = delay (supplied_by b ws) b.frame; A = per_frame (supplied_by b ws) b.frame })

unfoldable pub outage_answer : Board → List ℕ → Answer ℕ
outage_answer b ws = unless (table_fault b ws) (outage (supplied_by b ws) b.frame)

unfoldable pub demand_answer : List ℕ → ℕ → Answer ℕ
demand_answer ts t = unless (group_fault ts or_else length_fault t) (demand (tasks_of ts) t)

unfoldable pub margin_answer : Board → List ℕ → List ℕ → ℕ → Answer ℤ
margin_answer b ws ts t =
    unless (table_fault b ws or_else group_fault ts or_else length_fault t) (margin (supplied_by b ws) b.frame (tasks_of ts) t)

unfoldable pub verdict_answer : Board → List ℕ → List ℕ → Answer Verdict
verdict_answer b ws ts =
    unless (table_fault b ws or_else group_fault ts or_else cycle_fault b (tasks_of ts))
    (verdict (supplied_by b ws) b.frame (tasks_of ts) (cycle b.frame (tasks_of ts)))

unfoldable pub bound_answer : Board → List ℕ → List ℕ → ℕ → Answer Bound
bound_answer b ws ts i =
    unless (table_fault b ws or_else group_fault ts or_else absent_fault (tasks_of ts) i) (response (supplied_by b ws) b.frame (tasks_of ts) i)

unfoldable pub run_fault : Board → List ℕ → List ℕ → ℕ → List ℕ → ℕ → Fault
run_fault b ws ts n js room =
    table_fault b ws or_else group_fault ts or_else job_list_fault n js or_else job_fault (tasks_of ts) n (jobs_of js) or_else room_fault (length (jobs_of js)) room

-- a run under earliest deadline first
unfoldable pub run_answer : Board → List ℕ → List ℕ → ℕ → List ℕ → ℕ → Answer Ran
run_answer b ws ts n js room =
    unless (run_fault b ws ts n js room) (ran (supplied_by b ws) (edf (tasks_of ts) (jobs_of js)) (tasks_of ts) (jobs_of js) n)

unfoldable pub run_out : Board → List ℕ → List ℕ → ℕ → List ℕ → List ℕ → List ℕ
run_out b ws ts n js out =
    unless_kept (run_fault b ws ts n js (length out))
    (written (counts (supplied_by b ws) (edf (tasks_of ts) (jobs_of js)) (tasks_of ts) (jobs_of js) n) out) out
