-- What an entry that does not refuse has checked
use Rattle.std.specs.Prelude.{◌≡◌, refl, Bool, true, false, List, [], ◌∷◌, ℕ, zero, suc, ◌*◌, ◌%◌, ◌≤◌, ◌<◌, ltb, eqb, length, get_or}
use Rattle.std.proofs.Math.Option.{Option, none, some}
use Rattle.std.proofs.Common.{arith, ltb-false, leb-false, lt-ltb, le-ltb, ne_eqb}
use Rattle.std.proofs.lemmas.Bool.{eqb-false}
use Rattle.scope.specs.Numbers.{bad_count}
use Rattle.scope.specs.Limits.{most_frame, most_windows, most_tasks, most_cycle, most_length, most_ticks, most_jobs}
use Rattle.scope.specs.Windows.{Board, framed, windows_of, supplied_by, bad_window}
use Rattle.scope.specs.Tasks.{tasks_of, bad_task}
use Rattle.scope.specs.Cycle.{cycle}
use Rattle.scope.specs.Verdict.{Verdict, verdict}
use Rattle.scope.specs.Bound.{Bound, response}
use Rattle.scope.specs.Jobs.{jobs_of, bad_job}
use Rattle.scope.specs.Machine.{edf}
use Rattle.scope.specs.Run.{Ran, ran}
use Rattle.scope.specs.Answers.{Fault, Fault.fine, Fault.fault, Answer.given, Answer.refused, fault_if, fault_at, ◌or_else◌, unless, window_list_fault, frame_fault}
use Rattle.scope.specs.Answers.{window_fault, task_list_fault, task_fault, cycle_fault, length_fault, absent_fault, table_fault, group_fault, verdict_answer, bound_answer}
use Rattle.scope.specs.Answers.{job_list_fault, job_fault, room_fault, run_fault, run_answer}
use Rattle.scope.specs.Summary.{lengths_fault}
use Rattle.theory.specs.Numbers.{or_neither}
use Rattle.theory.specs.Lists.{count_fine, fine_count}
use Rattle.theory.specs.Tasks.{TaskRules, Within, task_rules}

-- ---- faults

pub fault_not_fine : {n p : ℕ} → fault n p ≡ fine → ⊥
fault_not_fine e = let z : ◌≡◌ {A = ℕ} 0 1 = cc in omega arith

pub fault_if_fine : (b : Bool) (n p : ℕ) → fault_if b n p ≡ fine → b ≡ false
fault_if_fine true n p e = absurd (fault_not_fine e)
fault_if_fine false n p e = refl

pub fault_at_fine : (n : ℕ) (o : Option ℕ) → fault_at n o ≡ fine → o ≡ none
fault_at_fine n none e = refl
fault_at_fine n (some i) e = absurd (fault_not_fine e)

pub or_else_fine : (f g : Fault) → (f or_else g) ≡ fine → (f ≡ fine) × (g ≡ fine)
or_else_fine fine g e = (refl, e)
or_else_fine (fault n p) g e = absurd (fault_not_fine e)

-- a value is given only where there is no fault
pub unless_given : {A : Type 0} (f : Fault) (a v : A) → unless f a ≡ given v → (f ≡ fine) × (a ≡ v)
unless_given fine a v e = (refl, cc)
unless_given (fault n p) a v e = let z : ◌≡◌ {A = ℕ} 0 1 = cc in absurd (omega arith)

-- and a refusal is a fault's own
pub unless_refused_lem : {A : Type 0} (f : Fault) (a : A) (n p : ℕ) → unless f a ≡ refused n p → f ≡ fault n p
unless_refused_lem fine a n p e = let z : ◌≡◌ {A = ℕ} 0 1 = cc in absurd (omega arith)
unless_refused_lem (fault m q) a n p e = let same : m ≡ n = cc in let there : q ≡ p = cc in rw (same, there)

-- ---- room for so many numbers

pub room_fine : (needed room : ℕ) → room_fault needed room ≡ fine → needed ≤ room
unfolding room_fault
room_fine needed room f = ltb-false room needed (fault_if_fine _ 8 needed f)

pub fine_room : (needed room : ℕ) → needed ≤ room → room_fault needed room ≡ fine
unfolding room_fault
fine_room needed room h = rw (le-ltb room needed h)

pub room_fault_lem : (needed room : ℕ) → room < needed → room_fault needed room ≡ fault 8 needed
unfolding room_fault
room_fault_lem needed room h = rw (lt-ltb room needed h)

-- ---- tables, groups and lengths that pass their checks

-- a table as it stands: of no window a tick is lost
pub record LegalTable (b : Board) (ws : List ℕ) : Type 0 where
  pub whole : b.lost ≡ 0
  pub frame : 1 ≤ b.frame
  pub frame_most : b.frame ≤ most_frame
  pub even : length ws % 2 ≡ 0
  pub some : 0 < length ws
  pub few : length ws ≤ 2 * most_windows
  pub windows : bad_window b (windows_of ws) ≡ none

pub window_list_legal : (ws : List ℕ) → window_list_fault ws ≡ fine → (length ws % 2 ≡ 0) × (0 < length ws) × (length ws ≤ 2 * most_windows)
unfolding window_list_fault
window_list_legal ws e =
    let l = or_neither (bad_count 2 most_windows ws) (eqb (length ws) 0) (fault_if_fine _ 1 0 e) in
    let c = count_fine 2 most_windows ws l.0 in
    let filled = eqb-false (length ws) 0 l.1 in
    (c.0, omega (arith, filled), omega (arith, c.0, c.1))

pub window_list_fine : (ws : List ℕ) → length ws % 2 ≡ 0 → 0 < length ws → length ws ≤ 2 * most_windows → window_list_fault ws ≡ fine
unfolding window_list_fault
window_list_fine ws e p h = rw (fine_count 2 most_windows ws e (omega arith), ne_eqb (length ws) 0 (λ z. omega arith))

pub frame_legal : (b : Board) → frame_fault b ≡ fine → (0 < b.frame) × (b.frame ≤ most_frame)
unfolding frame_fault
frame_legal b e =
    let f = or_neither (eqb b.frame 0) (ltb most_frame b.frame) (fault_if_fine _ 2 0 e) in
    let framed = eqb-false b.frame 0 f.0 in
    (omega (arith, framed), ltb-false most_frame b.frame f.1)

-- a table's three checks
table_checks : (b : Board) (ws : List ℕ) → table_fault b ws ≡ fine → (window_list_fault ws ≡ fine) × (frame_fault b ≡ fine) × (window_fault b (windows_of ws) ≡ fine)
unfolding table_fault
table_checks b ws e =
    let p = or_else_fine (window_list_fault ws) (frame_fault b or_else window_fault b (windows_of ws)) e in
    let q = or_else_fine (frame_fault b) (window_fault b (windows_of ws)) p.1 in
    (p.0, q.0, q.1)

pub table_framed : (b : Board) (ws : List ℕ) → table_fault b ws ≡ fine → frame_fault b ≡ fine
table_framed b ws e = (table_checks b ws e).1

pub table_list : (b : Board) (ws : List ℕ) → table_fault b ws ≡ fine → (length ws % 2 ≡ 0) × (0 < length ws) × (length ws ≤ 2 * most_windows)
table_list b ws e = window_list_legal ws (table_checks b ws e).0

-- whatever is lost, the frame has a tick
pub table_frame : (b : Board) (ws : List ℕ) → table_fault b ws ≡ fine → 1 ≤ b.frame
table_frame b ws e = (frame_legal b (table_framed b ws e)).0

pub table_legal : (b : Board) (ws : List ℕ) → table_fault b ws ≡ fine → b.lost ≡ 0 → LegalTable b ws
unfolding window_fault
table_legal b ws e whole =
    let c = table_checks b ws e in
    let l = window_list_legal ws c.0 in
    let f = frame_legal b c.1 in
    record {
      whole = whole;
      frame = f.0;
      frame_most = f.1;
      even = l.0;
      some = l.1;
      few = l.2;
      windows = fault_at_fine 3 (bad_window b (windows_of ws)) c.2;
    }

-- pairs in a frame alone, of which nothing is lost
pub pairs_legal : (P : ℕ) (ws : List ℕ) → table_fault (framed P) ws ≡ fine → LegalTable (framed P) ws
pairs_legal P ws e = table_legal (framed P) ws e refl

pub record LegalGroup (ts : List ℕ) : Type 0 where
  pub threes : length ts % 3 ≡ 0
  pub few : length ts ≤ 3 * most_tasks
  pub tasks : bad_task (tasks_of ts) ≡ none
  pub rules : TaskRules (tasks_of ts)
  pub within : Within (tasks_of ts)

pub task_list_legal : (ts : List ℕ) → task_list_fault ts ≡ fine → (length ts % 3 ≡ 0) × (length ts ≤ 3 * most_tasks)
unfolding task_list_fault
task_list_legal ts e =
    let c = count_fine 3 most_tasks ts (fault_if_fine _ 4 0 e) in
    (c.0, omega (arith, c.0, c.1))

pub task_list_fine : (ts : List ℕ) → length ts % 3 ≡ 0 → length ts ≤ 3 * most_tasks → task_list_fault ts ≡ fine
unfolding task_list_fault
task_list_fine ts e h = rw (fine_count 3 most_tasks ts e (omega arith))

pub group_legal : (ts : List ℕ) → group_fault ts ≡ fine → LegalGroup ts
unfolding group_fault task_fault
group_legal ts e =
    let p = or_else_fine (task_list_fault ts) (task_fault (tasks_of ts)) e in
    let l = task_list_legal ts p.0 in
    let tasks = fault_at_fine 5 (bad_task (tasks_of ts)) p.1 in
    let r = task_rules (tasks_of ts) tasks in
    record {
      threes = l.0;
      few = l.1;
      tasks = tasks;
      rules = r.0;
      within = r.1;
    }

pub checked_legal : (b : Board) (ws ts : List ℕ) → (table_fault b ws or_else group_fault ts) ≡ fine → (0 < b.frame) × (b.frame ≤ most_frame) × LegalGroup ts
checked_legal b ws ts e =
    let p = or_else_fine (table_fault b ws) (group_fault ts) e in
    let f = frame_legal b (table_framed b ws p.0) in
    (f.0, f.1, group_legal ts p.1)

pub length_legal : (t : ℕ) → length_fault t ≡ fine → t ≤ most_length
unfolding length_fault
length_legal t e = ltb-false most_length t (fault_if_fine (ltb most_length t) 7 0 e)

-- each of many lengths
pub lengths_each : (lengths : List ℕ) → lengths_fault lengths ≡ fine → (j : ℕ) → j < length lengths → length_fault (get_or lengths j 0) ≡ fine
unfolding lengths_fault
lengths_each [] e j h = absurd (omega arith)
lengths_each (t ∷ lengths) e zero h = (or_else_fine (length_fault t) (lengths_fault lengths) e).0
lengths_each (t ∷ lengths) e (suc j) h = lengths_each lengths (or_else_fine (length_fault t) (lengths_fault lengths) e).1 j (omega arith)

pub job_list_legal : (n : ℕ) (js : List ℕ) → job_list_fault n js ≡ fine → (length js % 3 ≡ 0) × (length js ≤ 3 * most_jobs) × (n ≤ most_ticks)
unfolding job_list_fault
job_list_legal n js e =
    let l = or_neither (bad_count 3 most_jobs js) (ltb most_ticks n) (fault_if_fine _ 10 0 e) in
    let c = count_fine 3 most_jobs js l.0 in
    (c.0, omega (arith, c.0, c.1), ltb-false most_ticks n l.1)

-- ---- entries that answer

pub record Judged (b : Board) (ws ts : List ℕ) (v : Verdict) : Type 0 where
  pub table : table_fault b ws ≡ fine
  pub group : LegalGroup ts
  pub cycle_most : cycle b.frame (tasks_of ts) ≤ most_cycle
  pub is : verdict (supplied_by b ws) b.frame (tasks_of ts) (cycle b.frame (tasks_of ts)) ≡ v

pub judged : (b : Board) (ws ts : List ℕ) (v : Verdict) → verdict_answer b ws ts ≡ given v → Judged b ws ts v
unfolding verdict_answer cycle_fault
judged b ws ts v e =
    let u = unless_given (table_fault b ws or_else group_fault ts or_else cycle_fault b (tasks_of ts)) _ v e in
    let p = or_else_fine (table_fault b ws) (group_fault ts or_else cycle_fault b (tasks_of ts)) u.0 in
    let q = or_else_fine (group_fault ts) (cycle_fault b (tasks_of ts)) p.1 in
    record {
      table = p.0;
      group = group_legal ts q.0;
      cycle_most = ltb-false most_cycle (cycle b.frame (tasks_of ts)) (fault_if_fine _ 6 0 q.1);
      is = u.1;
    }

pub record Bounded (b : Board) (ws ts : List ℕ) (i : ℕ) (r : Bound) : Type 0 where
  pub table : table_fault b ws ≡ fine
  pub group : LegalGroup ts
  pub present : i < length (tasks_of ts)
  pub is : response (supplied_by b ws) b.frame (tasks_of ts) i ≡ r

pub bounded : (b : Board) (ws ts : List ℕ) (i : ℕ) (r : Bound) → bound_answer b ws ts i ≡ given r → Bounded b ws ts i r
unfolding bound_answer absent_fault
bounded b ws ts i r e =
    let u = unless_given (table_fault b ws or_else group_fault ts or_else absent_fault (tasks_of ts) i) _ r e in
    let p = or_else_fine (table_fault b ws) (group_fault ts or_else absent_fault (tasks_of ts) i) u.0 in
    let q = or_else_fine (group_fault ts) (absent_fault (tasks_of ts) i) p.1 in
    record {
      table = p.0;
      group = group_legal ts q.0;
      present = leb-false (length (tasks_of ts)) i (fault_if_fine _ 7 0 q.1);
      is = u.1;
    }

pub record RunGiven (b : Board) (ws ts : List ℕ) (n : ℕ) (js : List ℕ) (room : ℕ) (r : Ran) : Type 0 where
  pub table : table_fault b ws ≡ fine
  pub group : LegalGroup ts
  pub threes : length js % 3 ≡ 0
  pub few : length js ≤ 3 * most_jobs
  pub ticks : n ≤ most_ticks
  pub jobs : bad_job (tasks_of ts) n (jobs_of js) ≡ none
  pub roomy : length (jobs_of js) ≤ room
  pub is : ran (supplied_by b ws) (edf (tasks_of ts) (jobs_of js)) (tasks_of ts) (jobs_of js) n ≡ r

pub run_given : (b : Board) (ws ts : List ℕ) (n : ℕ) (js : List ℕ) (room : ℕ) (r : Ran) → run_answer b ws ts n js room ≡ given r → RunGiven b ws ts n js room r
unfolding run_answer run_fault job_fault
run_given b ws ts n js room r e =
    let u = unless_given (run_fault b ws ts n js room) _ r e in
    let job : Fault = job_fault (tasks_of ts) n (jobs_of js) in
    let output : Fault = room_fault (length (jobs_of js)) room in
    let p₁ = or_else_fine (table_fault b ws) (group_fault ts or_else job_list_fault n js or_else job or_else output) u.0 in
    let p₂ = or_else_fine (group_fault ts) (job_list_fault n js or_else job or_else output) p₁.1 in
    let p₃ = or_else_fine (job_list_fault n js) (job or_else output) p₂.1 in
    let p₄ = or_else_fine job output p₃.1 in
    let l = job_list_legal n js p₃.0 in
    record {
      table = p₁.0;
      group = group_legal ts p₂.0;
      threes = l.0;
      few = l.1;
      ticks = l.2;
      jobs = fault_at_fine 11 (bad_job (tasks_of ts) n (jobs_of js)) p₄.0;
      roomy = room_fine (length (jobs_of js)) room p₄.1;
      is = u.1;
    }
