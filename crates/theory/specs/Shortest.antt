-- Document 02, request 5, of what the entries answer: 12 exactly when, that m = 1 refuses nothing, and that what is not refused at m is answered the same at
-- every smaller m; of plan files too. What is asked of a list is refused by 12, and by 13 (Thirteen), exactly where the list is: once over the number
use Rattle.std.proofs.Math.Path.{◌≡◌, refl, ap}
use Rattle.std.proofs.Common.{sym, ◌∙◌}
use Rattle.std.specs.Prelude.{Bool, not, cond, ◌||◌, ◌↔◌, ℕ, ◌+◌, ◌*◌, ◌≤◌, ◌<◌, leb, length}
use Rattle.std.proofs.Math.Bool.{true, false}
use Rattle.std.proofs.Math.Option.{Option, none, some}
use mathlib.Core.List.{List, [], ◌∷◌}
use native.Mathlib.Omega.{arith}
use Rattle.std.proofs.Math.Dec.{ltb, eqb}
use Rattle.scope.specs.Numbers.{bad_count, greatest}
use Rattle.scope.specs.Limits.{teams, most_frame, most_windows, most_tasks, most_cycle, most_length, most_ticks, most_jobs, most_number}
use Rattle.scope.specs.Windows.{Board, windows_of, bad_window}
use Rattle.scope.specs.Tasks.{Task, tasks_of, bad_task}
use Rattle.scope.specs.Cycle.{cycle}
use Rattle.scope.specs.Jobs.{Job, jobs_of, bad_job}
use Rattle.scope.specs.Answers.{Fault, Fault.fine, Fault.fault, Answer, Answer.given, Answer.refused, fault_if, fault_at, ◌or_else◌, unless}
use Rattle.scope.specs.Answers.{window_list_fault, frame_fault, window_fault, table_fault, task_list_fault, task_fault, group_fault, cycle_fault, length_fault, absent_fault}
use Rattle.scope.specs.Answers.{room_fault, job_list_fault, job_fault, critical_of, critical_fault, run_fault}
use Rattle.scope.specs.Answers.{supplied_answer, least_supply_answer, critical_answer, delay_answer, outage_answer, margin_answer, verdict_answer, bound_answer, run_answer}
use Rattle.scope.specs.Plan.{Read, Read.read, Read.bad, read_number, read_numbers, or_nine, past, and_then, Plan, window_count_fault, task_count_fault, rest_fault, counted_from, lists_from, plan_from, plan_of, number_bytes_within, number_bytes}
use Rattle.scope.specs.Plan.{numbers_bytes, plan_bytes}
use Rattle.scope.specs.Trace.{Stamped, Record, timed, trace_of, ticks_of, releases, bad_record}
use Rattle.scope.specs.Replay.{extent_fault, record_fault, replay_fault, records_answer}
use Rattle.scope.specs.Shared.{owned_of, own, own_left, owned_list_fault, owned_fault, bad_owned, whole_fault, absent_owner_fault, sliver_fault, lost_fault, shared_fault}
use Rattle.scope.specs.Shared.{own_fault, own_answer, own_out, as_owned, unless_refused, asked_for, verdict_for, records_for, replay_for, plan_board, plan_answer}
use Rattle.scope.specs.Summary.{summary_of, make_fault, make_answer, begins, summary_fault, least_from_answer, lengths_fault, margins_fault, margins_answer}
use Rattle.theory.specs.Lists.{none_listed}
use Rattle.theory.specs.Answers.{fault_not_fine, unless_refused_lem}
use Rattle.theory.specs.Shared.{asked_refused}
use Rattle.theory.specs.Losses.{lost_thirteen}
use Rattle.theory.specs.Slivers.{Sliver, sliver_exactly, sliver_twelve, one_tick, smaller_fine}
use Rattle.theory.specs.Alone.{Entry, Alike, windows_same, own_owner, lost_same, whole_same, absent_same, records_entry, verdict_entry, or_nine_lem}
use Rattle.theory.specs.Seven.{UpTo, up_to_greatest}
use Rattle.theory.specs.Forms.{with_settings, refused_behind, judged_behind}
use Rattle.theory.specs.PlanBytes.{Writable, round_trip, read_settings}

-- ---- document 01's checks give the numbers 1 to 11

abbrev pub Base : Fault → Type 0
Base f = (n p : ℕ) → f ≡ fault n p → n ≤ 11

base_if : (t : Bool) (m q : ℕ) → m ≤ 11 → Base (fault_if t m q)
base_if true m q h n p e = let z : m ≡ n = cc in omega arith
base_if false m q h n p e = absurd (fault_not_fine (sym e))

base_at : (m : ℕ) (o : Option ℕ) → m ≤ 11 → Base (fault_at m o)
base_at m none h n p e = absurd (fault_not_fine (sym e))
base_at m (some i) h n p e = let z : m ≡ n = cc in omega arith

pub base_else : (f g : Fault) → Base f → Base g → Base (f or_else g)
base_else fine g a c = c
base_else (fault m q) g a c = a

module _ (b : Board) (ws : List ℕ) where
  list_base : Base (window_list_fault ws)
  unfolding window_list_fault
  list_base = base_if (bad_count 2 most_windows ws || eqb (length ws) 0) 1 0 (omega arith)

  frame_base : Base (frame_fault b)
  unfolding frame_fault
  frame_base = base_if (eqb b.frame 0 || ltb most_frame b.frame) 2 0 (omega arith)

  window_base : Base (window_fault b (windows_of ws))
  unfolding window_fault
  window_base = base_at 3 (bad_window b (windows_of ws)) (omega arith)

  pub table_base : Base (table_fault b ws)
  unfolding table_fault
  table_base =
      base_else (window_list_fault ws) (frame_fault b or_else window_fault b (windows_of ws)) list_base
      (base_else (frame_fault b) (window_fault b (windows_of ws)) frame_base window_base)

-- the table's, then the others'
table_else : (b : Board) (ws : List ℕ) (g : Fault) → Base g → Base (table_fault b ws or_else g)
table_else b ws g h = base_else (table_fault b ws) g (table_base b ws) h

pub group_base : (ts : List ℕ) → Base (group_fault ts)
unfolding group_fault task_list_fault task_fault
group_base ts =
    base_else (task_list_fault ts) (task_fault (tasks_of ts)) (base_if (bad_count 3 most_tasks ts) 4 0 (omega arith)) (base_at 5 (bad_task (tasks_of ts)) (omega arith))

group_else : (ts : List ℕ) (g : Fault) → Base g → Base (group_fault ts or_else g)
group_else ts g h = base_else (group_fault ts) g (group_base ts) h

pub room_base : (needed room : ℕ) → Base (room_fault needed room)
unfolding room_fault
room_base needed room = base_if (ltb room needed) 8 needed (omega arith)

pub length_base : (t : ℕ) → Base (length_fault t)
unfolding length_fault
length_base t = base_if (ltb most_length t) 7 0 (omega arith)

cycle_base : (b : Board) (ts : List Task) → Base (cycle_fault b ts)
unfolding cycle_fault
cycle_base b ts = base_if (ltb most_cycle (cycle b.frame ts)) 6 0 (omega arith)

absent_base : (ts : List Task) (i : ℕ) → Base (absent_fault ts i)
unfolding absent_fault
absent_base ts i = base_if (leb (length ts) i) 7 0 (omega arith)

jobs_base : (n : ℕ) (js : List ℕ) → Base (job_list_fault n js)
unfolding job_list_fault
jobs_base n js = base_if (bad_count 3 most_jobs js || ltb most_ticks n) 10 0 (omega arith)

job_base : (ts : List Task) (n : ℕ) (js : List Job) → Base (job_fault ts n js)
unfolding job_fault
job_base ts n js = base_at 11 (bad_job ts n js) (omega arith)

extent_base : (rs : List Record) → Base (extent_fault rs)
unfolding extent_fault
extent_base rs = base_if (ltb most_ticks (ticks_of rs) || ltb most_jobs (length (releases rs))) 10 0 (omega arith)

record_base : (ts : List Task) (rs : List Record) → Base (record_fault ts rs)
unfolding record_fault
record_base ts rs = base_at 11 (bad_record ts rs) (omega arith)

-- a fault whose number is not m
abbrev pub Never : ℕ → Fault → Type 0
Never m f = (p : ℕ) → f ≡ fault m p → ⊥

pub never_else : (m : ℕ) (f g : Fault) → Never m f → Never m g → Never m (f or_else g)
never_else m fine g a c = c
never_else m (fault n q) g a c = a

pub base_never : (m : ℕ) (f : Fault) → 11 < m → Base f → Never m f
base_never m f h base p e = omega (arith, base m p e)

-- a summary that does not belong to the table is refused by 14
summary_never : (b : Board) (ws summary : List ℕ) (m : ℕ) → m ≤ 13 → Never m (summary_fault b ws summary)
unfolding summary_fault
summary_never b ws summary m h p = go (begins (summary_of b ws) summary)
  where
    go : (t : Bool) → fault_if (not t) 14 0 ≡ fault m p → ⊥
    go true e = fault_not_fine (sym e)
    go false e = let z : 14 ≡ m = cc in omega arith

pub lengths_base : (lengths : List ℕ) → Base (lengths_fault lengths)
unfolding lengths_fault
lengths_base [] = λ n p e. absurd (fault_not_fine (sym e))
lengths_base (t ∷ lengths) = base_else (length_fault t) (lengths_fault lengths) (length_base t) (lengths_base lengths)

-- an entry that does not refuse by 12 or 13 itself
abbrev pub Known : {A : Type 0} → (List ℕ → Answer A) → Type 0
Known entry = (m : ℕ) → 12 ≤ m → m ≤ 13 → (l : List ℕ) (p : ℕ) → entry l ≡ refused m p → ⊥

-- such are those that refuse by document 01's numbers only
below : {A : Type 0} (entry : List ℕ → Answer A) → ((l : List ℕ) (n p : ℕ) → entry l ≡ refused n p → n ≤ 11) → Known entry
below entry h m low high l p e = omega (arith, h l m p e)

module _ (b : Board) where
  pub supplied_known : (k : ℕ) → Known (λ l. supplied_answer b l k)
  unfolding supplied_answer
  supplied_known k = below _ (λ l n p e. table_base b l n p (unless_refused_lem (table_fault b l) _ n p e))

  pub least_supply_known : (t : ℕ) → Known (λ l. least_supply_answer b l t)
  unfolding least_supply_answer
  least_supply_known t = below _ (λ l n p e. table_else b l (length_fault t) (length_base t) n p (unless_refused_lem (table_fault b l or_else length_fault t) _ n p e))

  pub critical_known : (room : ℕ) → Known (λ l. critical_answer b l room)
  unfolding critical_answer critical_fault
  critical_known room =
      below _ (λ l n p e.
      table_else b l (room_fault (length (critical_of b l)) room) (room_base (length (critical_of b l)) room) n p (unless_refused_lem (critical_fault b l room) _ n p e))

  pub delay_known : Known (delay_answer b)
  unfolding delay_answer
  delay_known = below _ (λ l n p e. table_base b l n p (unless_refused_lem (table_fault b l) _ n p e))

  pub outage_known : Known (outage_answer b)
  unfolding outage_answer
  outage_known = below _ (λ l n p e. table_base b l n p (unless_refused_lem (table_fault b l) _ n p e))

  pub margin_known : (ts : List ℕ) (t : ℕ) → Known (λ l. margin_answer b l ts t)
  unfolding margin_answer
  margin_known ts t =
      below _ (λ l n p e.
      table_else b l (group_fault ts or_else length_fault t) (group_else ts (length_fault t) (length_base t)) n p
      (unless_refused_lem (table_fault b l or_else group_fault ts or_else length_fault t) _ n p e))

  pub verdict_known : (ts : List ℕ) → Known (λ l. verdict_answer b l ts)
  unfolding verdict_answer
  verdict_known ts =
      below _ (λ l n p e.
      let cycled = cycle_fault b (tasks_of ts) in
      table_else b l (group_fault ts or_else cycled) (group_else ts cycled (cycle_base b (tasks_of ts))) n p
      (unless_refused_lem (table_fault b l or_else group_fault ts or_else cycled) _ n p e))

  pub bound_known : (ts : List ℕ) (i : ℕ) → Known (λ l. bound_answer b l ts i)
  unfolding bound_answer
  bound_known ts i =
      below _ (λ l n p e.
      let absent = absent_fault (tasks_of ts) i in
      table_else b l (group_fault ts or_else absent) (group_else ts absent (absent_base (tasks_of ts) i)) n p
      (unless_refused_lem (table_fault b l or_else group_fault ts or_else absent) _ n p e))

  pub run_known : (ts : List ℕ) (ticks : ℕ) (js : List ℕ) (room : ℕ) → Known (λ l. run_answer b l ts ticks js room)
  unfolding run_answer run_fault
  run_known ts ticks js room =
      below _ (λ l n p e.
      let each = job_fault (tasks_of ts) ticks (jobs_of js) in
      let output = room_fault (length (jobs_of js)) room in
      let jobs = job_list_fault ticks js or_else each or_else output in
      table_else b l (group_fault ts or_else jobs)
      (group_else ts jobs (base_else (job_list_fault ticks js) (each or_else output) (jobs_base ticks js)
      (base_else each output (job_base (tasks_of ts) ticks (jobs_of js)) (room_base (length (jobs_of js)) room)))) n p
      (unless_refused_lem (run_fault b l ts ticks js room) _ n p e))

  pub make_known : (room : ℕ) → Known (λ l. make_answer b l room)
  unfolding make_answer make_fault
  make_known room =
      below _ (λ l n p e.
      table_else b l (room_fault (length (summary_of b l)) room) (room_base (length (summary_of b l)) room) n p (unless_refused_lem (make_fault b l room) _ n p e))

  pub least_from_known : (summary : List ℕ) (t : ℕ) → Known (λ l. least_from_answer b l summary t)
  unfolding least_from_answer
  least_from_known summary t m low high l p e =
      never_else m (table_fault b l) (summary_fault b l summary or_else length_fault t) (base_never m (table_fault b l) (omega arith) (table_base b l))
      (never_else m (summary_fault b l summary) (length_fault t) (summary_never b l summary m high) (base_never m (length_fault t) (omega arith) (length_base t))) p
      (unless_refused_lem (table_fault b l or_else summary_fault b l summary or_else length_fault t) _ m p e)

  pub margins_known : (summary ts lengths : List ℕ) (room : ℕ) → Known (λ l. margins_answer b l summary ts lengths room)
  unfolding margins_answer margins_fault
  margins_known summary ts lengths room m low high l p e =
      let output = room_fault (length lengths) room in
      let asked = lengths_fault lengths or_else output in
      never_else m (table_fault b l) (group_fault ts or_else summary_fault b l summary or_else asked) (base_never m (table_fault b l) (omega arith) (table_base b l))
      (never_else m (group_fault ts) (summary_fault b l summary or_else asked) (base_never m (group_fault ts) (omega arith) (group_base ts))
      (never_else m (summary_fault b l summary) asked (summary_never b l summary m high)
      (base_never m asked (omega arith) (base_else (lengths_fault lengths) output (lengths_base lengths) (room_base (length lengths) room))))) p
      (unless_refused_lem (margins_fault b l summary ts lengths room) _ m p e)

  pub records_known : (ts : List ℕ) (rs : List Record) → Known (λ l. records_answer b l ts rs)
  unfolding records_answer replay_fault
  records_known ts rs =
      below _ (λ l n p e.
      let each = record_fault (tasks_of ts) rs in
      table_else b l (group_fault ts or_else extent_fault rs or_else each)
      (group_else ts (extent_fault rs or_else each) (base_else (extent_fault rs) each (extent_base rs) (record_base (tasks_of ts) rs))) n p
      (unless_refused_lem (replay_fault b l ts rs) _ n p e))

-- ---- 12 and 13 are refusals of a list of windows: whatever is asked of one is refused by them exactly where the list is. Once over the number m, with S what
-- the list is refused so by

-- a file's own refusals, before its plan is judged, are document 01's
pub plan_base : (k : ℕ) (bytes : List ℕ) (n p : ℕ) → plan_of k bytes ≡ refused n p → n ≤ 11
unfolding plan_of plan_from lists_from counted_from rest_fault
plan_base k bytes n p =
    read_base (read_numbers bytes k 0) _ (λ settings next. read_base (read_number bytes next) _ (λ P after.
    then_base (counted_from 2 window_count_fault bytes after) _ (counted 2 window_count_fault after (λ c. base_if (ltb c 1 || ltb most_windows c) 1 0 (omega arith))) (λ ws.
    then_base (counted_from 3 task_count_fault bytes ws.next) _ (counted 3 task_count_fault ws.next (λ c. base_if (ltb c 0 || ltb most_tasks c) 4 0 (omega arith))) (λ ts e.
    base_if (ltb ts.next (length bytes)) 9 ts.next (omega arith) n p (unless_refused_lem (rest_fault bytes ts.next) _ n p e)))))
  where
    given_not_refused : {A : Type 0} {a : A} → given a ≡ refused n p → ⊥
    given_not_refused e = let z : ◌≡◌ {A = ℕ} 0 1 = cc in omega arith

    read_base : {A B : Type 0} (r : Read A) (f : A → ℕ → Answer B) → ((a : A) (next : ℕ) → f a next ≡ refused n p → n ≤ 11) → or_nine r f ≡ refused n p → n ≤ 11
    read_base (read a next) f h e = h a next e
    read_base (bad o) f h e = let z : 9 ≡ n = cc in omega arith

    past_base : {A : Type 0} (f : Fault) (a : Answer A) → Base f → (a ≡ refused n p → n ≤ 11) → past f a ≡ refused n p → n ≤ 11
    past_base fine a b h e = h e
    past_base (fault m q) a b h e = let x : m ≡ n = cc in let y : q ≡ p = cc in b n p (rw (x, y))

    then_base : {A B : Type 0} (a : Answer A) (f : A → Answer B) → (a ≡ refused n p → n ≤ 11) → ((v : A) → f v ≡ refused n p → n ≤ 11) → and_then a f ≡ refused n p → n ≤ 11
    then_base (given v) f g h e = h v e
    then_base (refused m q) f g h e = let x : m ≡ n = cc in let y : q ≡ p = cc in g (rw (x, y))

    counted : (each : ℕ) (check : ℕ → Fault) (at : ℕ) → ((c : ℕ) → Base (check c)) → counted_from each check bytes at ≡ refused n p → n ≤ 11
    counted each check at h =
        read_base (read_number bytes at) _ (λ c next. past_base (check c) _ (h c) (read_base (read_numbers bytes (each * c) next) _ (λ l end e. absurd (given_not_refused e))))

-- bytes that read to records, and what holds beside them
pub record OfTrace (bytes : List ℕ) (S : Type 0) : Type 0 where
  pub records : List Stamped
  pub end : ℕ
  pub reads : trace_of bytes ≡ read records end
  pub listed : S

-- bytes that read to a plan, and what holds of it
pub record OfPlan (k : ℕ) (bytes : List ℕ) (S : Plan → Type 0) : Type 0 where
  pub plan : Plan
  pub reads : plan_of k bytes ≡ given plan
  pub listed : S plan

module _ (m : ℕ) (least : 12 ≤ m) (most : m ≤ 13) where
  module _ (owners : ℕ) (b : Board) (ws : List ℕ) (p : ℕ) {S : Type 0} (exactly : (shared_fault owners b ws ≡ fault m p) ↔ S) where
    pub asked_listed : {A : Type 0} (entry : List ℕ → Answer A) → Known entry → (asked_for owners b ws refused entry ≡ refused m p) ↔ S
    unfolding asked_for
    asked_listed entry is = (go (shared_fault owners b ws) refl, λ t. asked_refused owners b ws refused entry (exactly.1 t))
      where
        go : (f : Fault) → shared_fault owners b ws ≡ f → unless_refused f refused (entry (own b ws)) ≡ refused m p → S
        go fine s e = absurd (is m least most (own b ws) p e)
        go (fault n q) s e = let x : n ≡ m = cc in let y : q ≡ p = cc in exactly.0 (rw (← x, ← y) s)

    pub own_listed : (room : ℕ) → (own_answer owners b ws room ≡ refused m p) ↔ S
    unfolding own_answer own_fault room_fault
    own_listed room = (go (shared_fault owners b ws) refl, λ t. rw (exactly.1 t))
      where
        short : (t : Bool) → unless (fault_if t 8 (length (own_left b ws))) (length (own_left b ws)) ≡ refused m p → ⊥
        short true e = let z : 8 ≡ m = cc in omega arith
        short false e = let z : ◌≡◌ {A = ℕ} 0 1 = cc in omega arith

        go : (f : Fault) → shared_fault owners b ws ≡ f → unless (f or_else fault_if (ltb room (length (own_left b ws))) 8 (length (own_left b ws))) (length (own_left b ws)) ≡ refused m p → S
        go fine s e = absurd (short (ltb room (length (own_left b ws))) e)
        go (fault n q) s e = let x : n ≡ m = cc in let y : q ≡ p = cc in exactly.0 (rw (← x, ← y) s)

  -- a trace, whose bytes are refused by 9 before any table
  pub trace_listed : (b : Board) (ws : List ℕ) (p : ℕ) {S : Type 0} → ((shared_fault teams b ws ≡ fault m p) ↔ S) →
      (ts bytes : List ℕ) → (replay_for b ws ts bytes ≡ refused m p) ↔ OfTrace bytes S
  unfolding replay_for records_for
  trace_listed b ws p {S} exactly ts bytes = (go (trace_of bytes) refl, λ t. rw t.reads ((asked t.records).1 t.listed))
    where
      asked : (rs : List Stamped) → (asked_for teams b ws refused (λ l. records_answer b l ts (timed rs)) ≡ refused m p) ↔ S
      asked rs = asked_listed teams b ws p exactly _ (records_known b ts (timed rs))

      go : (r : Read (List Stamped)) → trace_of bytes ≡ r → or_nine r (λ rs end. asked_for teams b ws refused (λ l. records_answer b l ts (timed rs))) ≡ refused m p → OfTrace bytes S
      go (read rs end) e f = record { records = rs; end = end; reads = e; listed = (asked rs).0 f }
      go (bad o) e f = let z : 9 ≡ m = cc in absurd (omega arith)

  -- a plan file, whose own refusals come before its plan is judged
  pub plan_listed : (p : ℕ) (S : Board → List ℕ → Type 0) → ((b : Board) (ws : List ℕ) → (shared_fault teams b ws ≡ fault m p) ↔ S b ws) →
      (k : ℕ) (bytes : List ℕ) → (plan_answer k bytes ≡ refused m p) ↔ OfPlan k bytes (λ q. S (plan_board q) (as_owned 0 q.windows))
  unfolding plan_answer verdict_for
  plan_listed p S exactly k bytes = (go (plan_of k bytes) refl, λ t. rw t.reads ((asked t.plan).1 t.listed))
    where
      asked : (q : Plan) → (verdict_for (plan_board q) (as_owned 0 q.windows) q.tasks ≡ refused m p) ↔ S (plan_board q) (as_owned 0 q.windows)
      asked q = asked_listed teams (plan_board q) (as_owned 0 q.windows) p (exactly (plan_board q) (as_owned 0 q.windows)) _ (verdict_known (plan_board q) q.tasks)

      go : (a : Answer Plan) → plan_of k bytes ≡ a → and_then a (λ q. verdict_for (plan_board q) (as_owned 0 q.windows) q.tasks) ≡ refused m p →
          OfPlan k bytes (λ q. S (plan_board q) (as_owned 0 q.windows))
      go (given q) r e = record { plan = q; reads = r; listed = (asked q).0 e }
      go (refused n o) r e = let x : n ≡ m = cc in absurd (omega (arith, plan_base k bytes n o r))

-- ---- 12, exactly when: the list has no fault 1, 2 or 3, the owner has a window, and m is out of its range or some window shorter than m

pub whole_base : (owners : ℕ) (b : Board) (ws : List ℕ) → Base (whole_fault owners b ws or_else absent_owner_fault b ws)
unfolding whole_fault owned_list_fault owned_fault absent_owner_fault
whole_base owners b ws =
    base_else (whole_fault owners b ws) (absent_owner_fault b ws)
    (base_else (owned_list_fault ws) (frame_fault b or_else owned_fault owners b (owned_of ws)) (base_if (bad_count 3 most_windows ws || eqb (length ws) 0) 1 0 (omega arith))
    (base_else (frame_fault b) (owned_fault owners b (owned_of ws)) (frame_base b ws) (base_at 3 (bad_owned owners b (owned_of ws)) (omega arith))))
    (base_if (eqb (length (own b ws)) 0) 1 0 (omega arith))

-- 13 is the greatest number that a list of windows is refused by
pub shared_most : (owners : ℕ) (b : Board) (ws : List ℕ) (n p : ℕ) → shared_fault owners b ws ≡ fault n p → n ≤ 13
unfolding shared_fault
shared_most owners b ws n p = go (whole_fault owners b ws) (absent_owner_fault b ws) (whole_base owners b ws n p)
  where
    last : (f : Fault) → sliver_fault b ws ≡ f → (f or_else lost_fault b (own b ws)) ≡ fault n p → n ≤ 13
    last (fault m q) s e = omega (arith, sliver_twelve b ws n p (s ∙ e))
    last fine s e = let z = lost_thirteen b (own b ws) n p e in let x : 13 ≡ n = cc in omega arith

    go : (f g : Fault) → ((f or_else g) ≡ fault n p → n ≤ 11) → (f or_else g or_else sliver_fault b ws or_else lost_fault b (own b ws)) ≡ fault n p → n ≤ 13
    go (fault m q) g base e = omega (arith, base e)
    go fine (fault m q) base e = omega (arith, base e)
    go fine fine base e = last (sliver_fault b ws) refl e

module _ (owners : ℕ) (b : Board) (ws : List ℕ) where
  pub record Twelve (p : ℕ) : Type 0 where
    pub whole : whole_fault owners b ws ≡ fine
    pub present : absent_owner_fault b ws ≡ fine
    pub at : Sliver b ws p

  -- a list is refused by 12 exactly then
  pub shared_twelve : (p : ℕ) → (shared_fault owners b ws ≡ fault 12 p) ↔ Twelve p
  unfolding shared_fault
  shared_twelve p = (go (whole_fault owners b ws) (absent_owner_fault b ws) refl refl (whole_base owners b ws), so)
    where
      at : (f : Fault) → sliver_fault b ws ≡ f → (f or_else lost_fault b (own b ws)) ≡ fault 12 p → Sliver b ws p
      at (fault n q) s e = (sliver_exactly b ws p).0 (s ∙ e)
      at fine s e = let z = lost_thirteen b (own b ws) 12 p e in let x : ◌≡◌ {A = ℕ} 13 12 = cc in absurd (omega arith)

      go : (f g : Fault) → whole_fault owners b ws ≡ f → absent_owner_fault b ws ≡ g → Base (whole_fault owners b ws or_else absent_owner_fault b ws) →
          (f or_else g or_else sliver_fault b ws or_else lost_fault b (own b ws)) ≡ fault 12 p → Twelve p
      go (fault n q) g e a base s = absurd (omega (arith, base 12 p (rw e s)))
      go fine (fault n q) e a base s = absurd (omega (arith, base 12 p (rw (e, a) s)))
      go fine fine e a base s = record { whole = e; present = a; at = at (sliver_fault b ws) refl s }

      so : Twelve p → shared_fault owners b ws ≡ fault 12 p
      so t = rw (t.whole, t.present, (sliver_exactly b ws p).1 t.at)

  -- and so does every entry refuse that does not give 12 itself
  pub exactly_twelve : {A : Type 0} (entry : List ℕ → Answer A) → Known entry → (p : ℕ) → (asked_for owners b ws refused entry ≡ refused 12 p) ↔ Twelve p
  exactly_twelve entry is p = asked_listed 12 (omega arith) (omega arith) owners b ws p (shared_twelve p) entry is

  -- ---- m = 1 refuses nothing: only what request 4 refuses is refused, and 13

  module _ (one : b.shortest ≡ 1) where
    pub one_fault : shared_fault owners b ws ≡ (whole_fault owners b ws or_else absent_owner_fault b ws or_else lost_fault b (own b ws))
    unfolding shared_fault
    one_fault = go (whole_fault owners b ws) (absent_owner_fault b ws) refl
      where
        go : (f g : Fault) → whole_fault owners b ws ≡ f →
            (f or_else g or_else sliver_fault b ws or_else lost_fault b (own b ws)) ≡ (f or_else g or_else lost_fault b (own b ws))
        go (fault n p) g e = refl
        go fine (fault n p) e = refl
        go fine fine e = rw (one_tick owners b ws one e)

    -- answers are as before
    pub one_answer : {R : Type 0} (refusal : ℕ → ℕ → R) (entry : List ℕ → R) →
        asked_for owners b ws refusal entry ≡ unless_refused (whole_fault owners b ws or_else absent_owner_fault b ws or_else lost_fault b (own b ws)) refusal (entry (own b ws))
    unfolding asked_for
    one_answer refusal entry = ap (λ (f : Fault). unless_refused f refusal (entry (own b ws))) one_fault

    -- and 12 never comes
    pub never_twelve : {A : Type 0} (entry : List ℕ → Answer A) → Known entry → (p : ℕ) → asked_for owners b ws refused entry ≡ refused 12 p → ⊥
    unfolding shared_fault
    never_twelve entry is p e =
        let t = (exactly_twelve entry is p).0 e in
        fault_not_fine (sym ((sliver_exactly b ws p).1 t.at) ∙ one_tick owners b ws one t.whole)

-- ---- what is not refused by 12 at m is answered the same at every smaller m from 1 on

module _ (owners : ℕ) (b c : Board) (ws : List ℕ) (alike : Alike b c) (owner : b.owner ≡ c.owner)
    (least : 1 ≤ c.shortest) (less : c.shortest ≤ b.shortest) where
  smaller_fault : ((p : ℕ) → shared_fault owners b ws ≡ fault 12 p → ⊥) → shared_fault owners b ws ≡ shared_fault owners c ws
  unfolding shared_fault
  smaller_fault spared =
      let mine = own_owner b c ws owner in
      rw (← whole_same owners b c ws alike.frame, ← absent_same b c ws ws mine, ← mine, ← lost_same b c (own b ws) alike.rule alike.lost)
      (go (whole_fault owners b ws) (absent_owner_fault b ws) (sliver_fault b ws) refl refl refl)
    where
      go : (f g h : Fault) → whole_fault owners b ws ≡ f → absent_owner_fault b ws ≡ g → sliver_fault b ws ≡ h →
          (f or_else g or_else h or_else lost_fault b (own b ws)) ≡ (f or_else g or_else sliver_fault c ws or_else lost_fault b (own b ws))
      go (fault n p) g h e a s = refl
      go fine (fault n p) h e a s = refl
      go fine fine (fault n p) e a s =
          let z = sliver_twelve b ws n p s in absurd (spared p (rw (e, a, s) (rw z)))
      go fine fine fine e a s = rw (smaller_fine b c ws least less s)

  pub smaller_same : {R : Type 0} {refusal : ℕ → ℕ → R} {entry : Board → List ℕ → R} → Entry refusal entry →
      ((p : ℕ) → shared_fault owners b ws ≡ fault 12 p → ⊥) →
      asked_for owners b ws refusal (entry b) ≡ asked_for owners c ws refusal (entry c)
  unfolding asked_for
  smaller_same {R} {refusal} {entry} is spared =
      let mine = own_owner b c ws owner in
      rw (smaller_fault spared) (ap (unless_refused (shared_fault owners c ws) refusal) (ap (entry b) mine ∙ windows_same is b c (own c ws) alike.frame alike.lost))

  -- of a refusal in the answer
  pub smaller_answer : {A : Type 0} {entry : Board → List ℕ → Answer A} → Entry refused entry →
      ((p : ℕ) → asked_for owners b ws refused (entry b) ≡ refused 12 p → ⊥) →
      asked_for owners b ws refused (entry b) ≡ asked_for owners c ws refused (entry c)
  smaller_answer {A} {entry} is spared = smaller_same is (λ p s. spared p (asked_refused owners b ws refused (entry b) s))

-- ---- what is left of an owner's windows by itself, whose memory may be too short

pub own_twelve : (owners : ℕ) (b : Board) (ws : List ℕ) (room p : ℕ) → (own_answer owners b ws room ≡ refused 12 p) ↔ Twelve owners b ws p
own_twelve owners b ws room p = own_listed 12 (omega arith) (omega arith) owners b ws p (shared_twelve owners b ws p) room

pub own_smaller : (owners : ℕ) (b c : Board) (ws : List ℕ) → Alike b c → b.owner ≡ c.owner → 1 ≤ c.shortest → c.shortest ≤ b.shortest →
    ((p : ℕ) → shared_fault owners b ws ≡ fault 12 p → ⊥) →
    (room : ℕ) (out : List ℕ) → (own_answer owners b ws room ≡ own_answer owners c ws room) × (own_out owners b ws out ≡ own_out owners c ws out)
unfolding own_answer own_out own_fault
own_smaller owners b c ws alike owner least less spared room out =
    let mine = own_owner b c ws owner in
    let same = smaller_fault owners b c ws alike owner least less spared in
    let left : own_left b ws ≡ own_left c ws = rw (mine, alike.lost) in
    (rw (same, left), rw (same, left))

-- ---- traces, whose bytes are refused by 9 before any table

pub replay_smaller : (b c : Board) (ws ts bytes : List ℕ) → Alike b c → b.owner ≡ c.owner → 1 ≤ c.shortest → c.shortest ≤ b.shortest →
    ((p : ℕ) → shared_fault teams b ws ≡ fault 12 p → ⊥) → replay_for b ws ts bytes ≡ replay_for c ws ts bytes
unfolding replay_for records_for
replay_smaller b c ws ts bytes alike owner least less spared =
    or_nine_lem (trace_of bytes) _ _ (λ rs next. smaller_same teams b c ws alike owner least less (records_entry ts (timed rs)) spared)

pub replay_twelve : (b : Board) (ws ts bytes : List ℕ) (p : ℕ) → (replay_for b ws ts bytes ≡ refused 12 p) ↔ OfTrace bytes (Twelve teams b ws p)
replay_twelve b ws ts bytes p = trace_listed 12 (omega arith) (omega arith) b ws p (shared_twelve teams b ws p) ts bytes

-- ---- plan files

pub plan_twelve : (k : ℕ) (bytes : List ℕ) (p : ℕ) → (plan_answer k bytes ≡ refused 12 p) ↔ OfPlan k bytes (λ q. Twelve teams (plan_board q) (as_owned 0 q.windows) p)
plan_twelve k bytes p = plan_listed 12 (omega arith) (omega arith) p (λ b ws. Twelve teams b ws p) (λ b ws. shared_twelve teams b ws p) k bytes

module _ (p : Plan) (w : Writable p) where
  pub writable_with : (l : List ℕ) → UpTo most_number l → Writable (with_settings l p)
  writable_with l u = record { settings = u; frame = w.frame; windows = w.windows; tasks = w.tasks; window_list = w.window_list; task_list = w.task_list }

  -- what is not refused by 12 with m first is answered the same with every smaller m from 1 on, whatever settings follow
  pub smaller_plan : (rest : List ℕ) (m n : ℕ) → UpTo most_number (m ∷ rest) → UpTo most_number (n ∷ rest) → 1 ≤ n → n ≤ m →
      ((q : ℕ) → plan_answer (length (m ∷ rest)) (plan_bytes (with_settings (m ∷ rest) p)) ≡ refused 12 q → ⊥) →
      plan_answer (length (m ∷ rest)) (plan_bytes (with_settings (m ∷ rest) p)) ≡ plan_answer (length (n ∷ rest)) (plan_bytes (with_settings (n ∷ rest) p))
  unfolding plan_answer verdict_for
  smaller_plan rest m n u v least less spared =
      let big = round_trip (with_settings (m ∷ rest) p) (writable_with (m ∷ rest) u) in
      let small = round_trip (with_settings (n ∷ rest) p) (writable_with (n ∷ rest) v) in
      rw (big, small)
      (smaller_answer teams (plan_board (with_settings (m ∷ rest) p)) (plan_board (with_settings (n ∷ rest) p)) (as_owned 0 p.windows) (record { frame = refl; rule = refl; lost = refl }) refl least less
      (verdict_entry p.tasks) (λ q e. spared q (rw big e)))

-- an old file is answered as the same bytes with m = 1 before them, and what is no plan of the old form is refused as there, 9 one byte later
module _ (bytes : List ℕ) where
  one_first : UpTo most_number (1 ∷ [])
  unfolding greatest
  one_first = up_to_greatest most_number (1 ∷ []) (omega arith)

  pub old_form : (p : Plan) → plan_of 0 bytes ≡ given p → plan_answer 1 (1 ∷ bytes) ≡ plan_answer 0 bytes
  unfolding plan_answer numbers_bytes number_bytes number_bytes_within
  old_form p e =
      judged_behind (1 ∷ []) bytes one_first p e ∙ rw (e, none_listed p.settings (read_settings 0 bytes p e))

  pub old_refused : (n o : ℕ) → plan_of 0 bytes ≡ refused n o → plan_answer 1 (1 ∷ bytes) ≡ refused n (cond (eqb n 9) (1 + o) o)
  unfolding numbers_bytes number_bytes number_bytes_within
  old_refused n o e = refused_behind (1 ∷ []) bytes one_first n o e
