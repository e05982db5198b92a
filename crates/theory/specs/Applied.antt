-- The theorems at marked examples: their premises are the rows of the table of examples, so none of them is empty
use Rattle.std.specs.Prelude.{◌≡◌, refl, true, false, ◌⊎◌, List, [], ◌∷◌, ◌++◌, map, ℕ, zero, suc, ◌+◌, ◌-◌, ◌*◌, ◌≤◌, ◌<◌, ltb, ℤ, pos, length, get_or, take, replicate}
use Rattle.std.proofs.Common.{sym, ap, ◌∙◌, inl, arith, length-append}
use Rattle.std.proofs.Math.Option.{some}
use Rattle.std.proofs.Math.IntN.{ℤ.negsuc}
use Rattle.scope.specs.Numbers.{least, pieces_from, pieces, bad_count, greatest, lexically, written}
use Rattle.scope.specs.Ticks.{supply, per_frame, least_supply}
use Rattle.scope.specs.Windows.{windows_of, supplied_by}
use Rattle.scope.specs.Tasks.{tasks_of, task_at, demand, margin}
use Rattle.scope.specs.Verdict.{Verdict.meets, Verdict.miss}
use Rattle.scope.specs.Bound.{Bound.bound, asked}
use Rattle.scope.specs.Jobs.{Job, job, jobs_of, task_of, deadline}
use Rattle.scope.specs.Machine.{edf, work_left}
use Rattle.scope.specs.Limits.{teams, most_settings, most_windows, most_tasks, most_number}
use Rattle.scope.specs.Plan.{Read.read, Plan, plan_of, number_bytes_within, number_bytes, numbers_bytes, plan_bytes, write_answer, write_out}
use Rattle.scope.specs.Line.{line_answer, line_out}
use Rattle.scope.specs.Run.{Outcome.met, outcome, count_of, counts}
use Rattle.scope.specs.Answers.{Fault.fine, Fault.fault, Answer.given, Answer.refused, window_list_fault, task_list_fault, verdict_answer, bound_answer, run_answer, run_out, critical_answer}
use Rattle.scope.specs.Answers.{rule_fault, group_fault, critical_of, critical_out, least_supply_answer, outage_answer}
use Rattle.scope.specs.Trace.{Stamped, trace_of, Record, timed, ticks_of, releases, completion, completions, trace_bytes, stamped_from}
use Rattle.scope.specs.Replay.{ended_from, recorded, Replayed.same, Replayed.differs, Replayed.missed, replay_answer}
use Rattle.scope.specs.Shared.{owned_of, own, own_left, as_owned, shared_fault, own_answer, own_out, least_supply_for, margin_for, verdict_for, run_out_for, replay_for, plan_board, plan_answer}
use Rattle.scope.specs.Summary.{summary_of, make_answer, make_out, begins, summary_fault, ticks_before, least_from, margin_from, margins_answer, margins_out, make_for, make_out_for}
use Rattle.scope.specs.Summary.{least_from_for, margins_for, margins_out_for, Edit, Edit.move, Edit.add, Edit.remove, table_in, edited_list, edit_answer, edit_windows, edit_summary}
use Rattle.scope.specs.Demands.{Silent, LeastMiss, Way, Served}
use Rattle.scope.specs.Examples.{Reply.amounts, Reply.windows, Reply.bytes_in, Reply.a_verdict, Reply.bounds, Reply.a_run, X, lab, XShared, on, on_for, on_at_least, on_rule, losing, reply, table, examples, row}
use Rattle.scope.specs.Examples.{XSummary}
use Rattle.scope.specs.Examples.{Reply.a_replay}
use Rattle.scope.specs.Computing.{everything}
use Rattle.theory.specs.Numbers.{by_lexically}
use Rattle.theory.specs.Answers.{fault_not_fine, run_given}
use Rattle.theory.specs.Exact.{exact_meets, exact_miss}
use Rattle.theory.specs.Dues.{due_after, miss_at_deadline}
use Rattle.theory.specs.Bound.{exact_bound}
use Rattle.theory.specs.Rows.{end_of, ends_answer}
use Rattle.theory.specs.Outage.{outage_run, outage_no_longer, outage_supply, outage_greatest_length, outage_zero, outage_critical, outage_asked}
use Rattle.theory.specs.Machine.{machine_under}
use Rattle.theory.specs.Edf.{edf_meets, edf_every}
use Rattle.theory.specs.Starved.{starved}
use Rattle.theory.specs.Refused.{critical_kept, run_kept, make_kept, margins_kept, edit_kept, write_kept, line_kept}
use Rattle.theory.specs.Writing.{number_one, number_more}
use Rattle.theory.specs.Seven.{UpTo, up_to_greatest}
use Rattle.theory.specs.Plan.{most_plan_bytes, first_answer, longest_plan}
use Rattle.theory.specs.Traces.{shift_answer}
use Rattle.theory.specs.Replays.{replay_given, same_completions, FirstPair, machine_ended, replayed_differs, meets_no_miss}
use Rattle.theory.specs.Recorded.{recorded_same, recorded_met, recorded_missed}
use Rattle.theory.specs.Shared.{one_owner_a_tick, no_such_owner, Gives}
use Rattle.theory.specs.Losses.{Cause.no_such_rule, Cause.too_many_lost, Cause.lost_under_one, Cause.none_left}
use Rattle.theory.specs.Alone.{Alike, itself, verdict_entry, run_out_entry, make_out_entry, margins_out_entry, teams_fault, alone, WholeRefusal, whole_refusal, Told, told_apart, own_alone, one_owner, replay_alone, replay_one_owner}
use Rattle.theory.specs.Shortest.{verdict_known, least_from_known, Twelve, exactly_twelve, one_answer, never_twelve, smaller_same, replay_smaller, OfTrace, replay_twelve, OfPlan, plan_twelve}
use Rattle.theory.specs.Shortest.{own_twelve, own_smaller, smaller_plan, old_form, old_refused}
use Rattle.theory.specs.Buffers.{begins_written}
use Rattle.theory.specs.Summaries.{fine_begins, least_from_exact, margin_from_exact, summary_agrees, summary_answers, not_belonging, fourteen}
use Rattle.theory.specs.Summaries.{margins_agree, margins_each, one_refused, margins_not_belonging, margins_fourteen, summary_most, made_belongs}
use Rattle.theory.specs.Forms.{with_settings, refused_behind}
use Rattle.theory.specs.Edits.{edit_parts, Left, edit_leaves, edit_as_made, new_refused, count_answered, add_then_remove, remove_then_add, move_back, other_owner, edit_own}
use Rattle.theory.specs.Edits.{EditRefusal, edit_refusal, refusal_edit, Fourteen, exactly_fourteen, Absent, exactly_seven, fourteen_own, EditTold, edit_told_apart}
use Rattle.theory.specs.PlanBytes.{Writable, plan_length, round_trip, left_over, only_bytes}
use Rattle.theory.specs.Lost.{supplied_exactly, asked_left, rule_one, left_table, own_rule_one, ends_left, replay_left, replay_rule_one}
use Rattle.theory.specs.Lost.{NoLoss, no_loss_fault, no_loss, replay_no_loss, own_no_loss, edit_no_loss}
use Rattle.theory.specs.Thirteen.{Thirteen, shared_thirteen, exactly_thirteen, own_thirteen, no_tick_left, no_tick_asked, replay_thirteen, plan_thirteen, EditThirteen, edit_thirteen}
use Rattle.theory.specs.MoreLost.{more_meets, more_lost_tick, more_lost_supply, more_lost_frame, more_lost_least, more_lost_amount, more_lost_fine, more_lost_meets, less_lost_meets, more_lost_thirteen, less_lost_not_thirteen}
use Rattle.theory.specs.RulePlans.{oldest_form, oldest_refused, m_first_form, m_first_refused, no_loss_plan}

abbrev pub w6 : List ℕ
w6 = 1 ∷ 4 ∷ 4 ∷ 2 ∷ 8 ∷ 6 ∷ []

abbrev pub w7 : List ℕ
w7 = 1 ∷ 4 ∷ 4 ∷ 2 ∷ 8 ∷ 7 ∷ []

abbrev w11 : List ℕ
w11 = 1 ∷ 4 ∷ 4 ∷ 1 ∷ 8 ∷ 8 ∷ []

abbrev pub w13 : List ℕ
w13 = 2 ∷ 0 ∷ 1 ∷ 2 ∷ 1 ∷ 2 ∷ []

-- ---- rows of the table

pub w6_misses : verdict_answer (on 8) X w6 ≡ given (miss 6 2 3 2)
unfolding reply table
w6_misses = let e : a_verdict (verdict_answer (on 8) X w6) ≡ a_verdict (given (miss 6 2 3 2)) = row table examples "W6" in cc

pub w7_meets : verdict_answer (on 8) X w7 ≡ given (meets 8)
unfolding reply table
w7_meets = let e : a_verdict (verdict_answer (on 8) X w7) ≡ a_verdict (given (meets 8)) = row table examples "W7" in cc

w11_bounds : bound_answer (on 8) X w11 1 ≡ given (bound 7)
unfolding reply table
w11_bounds =
    let e : bounds (bound_answer (on 8) X w11 0 ∷ bound_answer (on 8) X w11 1 ∷ []) ≡ bounds (given (bound 4) ∷ given (bound 7) ∷ []) =
    row table examples "W11" in
    cc

pub w13_runs : run_answer (on 8) X w7 10 w13 3 ≡ given (record { outcome = met; backlog = 2 })
unfolding reply table
w13_runs =
    let e : a_run (run_answer (on 8) X w7 10 w13 3) (run_out (on 8) X w7 10 w13 (9 ∷ 9 ∷ 9 ∷ []))
    ≡ a_run (given (record { outcome = met; backlog = 2 })) (4 ∷ 7 ∷ 9 ∷ []) =
    row table examples "W13" in
    cc

-- ---- demand 2

w7_exact : (t : ℕ) → demand (tasks_of w7) t ≤ least_supply (supplied_by (on 8) X) 8 t
w7_exact = ((exact_meets (on 8) X w7 (meets 8) w7_meets 8).0 refl).1

w6_exact : LeastMiss (supplied_by (on 8) X) 8 (tasks_of w6) 6 2 3 2
w6_exact = (exact_miss (on 8) X w6 (miss 6 2 3 2) w6_misses 6 2 3 2).0 refl

-- W6's length is a deadline: that of the second task's first job
w6_deadline : (i : ℕ) × (i < length (tasks_of w6)) × (6 ≡ due_after (task_at (tasks_of w6) i) 5)
w6_deadline = miss_at_deadline (on 8) X w6 6 2 3 2 w6_misses

w11_exact : (u : ℕ) → 1 ≤ u → u < 7 → asked (tasks_of w11) 1 u ≤ least_supply (supplied_by (on 8) X) 8 u → ⊥
w11_exact = ((exact_bound (on 8) X w11 1 (bound 7) w11_bounds 7).0 refl).3

-- ---- the starts where a window ends: 4 ticks of X hold 1 from tick 2 on, and 2 from tick 7 on

x_four : least_supply_answer (on 8) X 4 ≡ given 1
unfolding reply table
x_four =
    let lengths : List ℕ = 0 ∷ 1 ∷ 2 ∷ 3 ∷ 4 ∷ 5 ∷ 6 ∷ 7 ∷ 8 ∷ [] in
    let e : amounts (map (least_supply_answer (on 8) X) lengths) ≡ amounts (map given (0 ∷ 0 ∷ 0 ∷ 0 ∷ 1 ∷ 2 ∷ 2 ∷ 3 ∷ 4 ∷ [])) = row table examples "W1" in
    cc

x_ends : 1 ≡ least (λ i. supply (supplied_by (on 8) X) (end_of X i) 4) 2
x_ends = ends_answer (on 8) X 4 1 refl x_four

-- ---- the outage that runs over midnight: the lab's table is silent for 6 ticks from tick 5 on, X for 3

pub lab_outage : outage_answer (on 8) lab ≡ given 6
unfolding reply table
lab_outage = let e : amounts (outage_answer (on 8) lab ∷ []) ≡ amounts (given 6 ∷ []) = row table examples "outage over midnight" in cc

pub x_outage : outage_answer (on 8) X ≡ given 3
unfolding reply table
x_outage = let e : amounts (outage_answer (on 8) X ∷ []) ≡ amounts (given 3 ∷ []) = row table examples "outage of X" in cc

full_outage : outage_answer (on 8) (0 ∷ 8 ∷ []) ≡ given 0
unfolding reply table
full_outage = let e : amounts (outage_answer (on 8) (0 ∷ 8 ∷ []) ∷ []) ≡ amounts (given 0 ∷ []) = row table examples "no outage" in cc

lab_on : supplied_by (on 8) lab 3 ≡ true
unfolding everything
lab_on = refl

x_on : supplied_by (on 8) X 0 ≡ true
unfolding everything
x_on = refl

-- 6 silent ticks in a row; 7, from tick 8,005 on say, are nowhere
lab_run : (s : ℕ) × (s < 8) × Silent (supplied_by (on 8) lab) s 6
lab_run = outage_run (on 8) lab 6 lab_outage

lab_no_seven : Silent (supplied_by (on 8) lab) 8005 7 → ⊥
lab_no_seven h = omega (arith, outage_no_longer (on 8) lab 6 lab_outage 3 lab_on 8005 7 h)

lab_least : (least_supply_answer (on 8) lab 6 ≡ given 0) × (p : ℕ) × (least_supply_answer (on 8) lab 7 ≡ given p) × (0 < p)
lab_least = outage_supply (on 8) lab 6 lab_outage 3 lab_on

full_supplied : (k : ℕ) → supplied_by (on 8) (0 ∷ 8 ∷ []) k ≡ true
full_supplied = (outage_zero (on 8) (0 ∷ 8 ∷ []) 0 full_outage).0 refl

lab_greatest : (t : ℕ) → least_supply (supplied_by (on 8) lab) 8 t ≡ 0 → t ≤ 6
lab_greatest = outage_greatest_length (on 8) lab 6 lab_outage 3 lab_on

-- W2's first critical window starts at 3
x_critical : (rest : List ℕ) × (critical_of (on 8) X ≡ 3 ∷ rest)
x_critical = outage_critical (on 8) X 3 x_outage 0 x_on

-- asked as one tick of work each frame, due in 6
lab_asked : (s : ℕ) × (verdict_answer (on 8) lab (1 ∷ 8 ∷ 6 ∷ []) ≡ given (miss 6 s 1 0)) × Silent (supplied_by (on 8) lab) s 6
    × ((r : ℕ) → r < s → Silent (supplied_by (on 8) lab) r 6 → ⊥)
lab_asked = outage_asked (on 8) lab 6 lab_outage 3 lab_on (omega arith)

-- ---- demand 3

-- W7 meets, so W13's run, of which the table gives the counts 4 and 7, is met with counts of at most 4 and 7
w13_in_time : (outcome (supplied_by (on 8) X) (edf (tasks_of w7) (jobs_of w13)) (tasks_of w7) (jobs_of w13) 10 ≡ met)
    × (get_or (counts (supplied_by (on 8) X) (edf (tasks_of w7) (jobs_of w13)) (tasks_of w7) (jobs_of w13) 10) 1 0 ≤ 7)
unfolding pieces_from pieces
w13_in_time =
    let legal = (run_given (on 8) X w7 10 w13 3 (record { outcome = met; backlog = 2 }) w13_runs).jobs in
    let m = edf_meets (on 8) X w7 8 w7_meets 10 (jobs_of w13) legal in
    (m.0, (m.1 1 (omega arith) (omega arith)).1)

-- two tasks alike, released together: the machine gives the first tick to the lower, and counts 1 and 5
abbrev tied : List ℕ
tied = 1 ∷ 8 ∷ 6 ∷ 1 ∷ 8 ∷ 6 ∷ []

abbrev tied_jobs : List ℕ
tied_jobs = 1 ∷ 0 ∷ 1 ∷ 1 ∷ 1 ∷ 1 ∷ []

tied_meets : verdict_answer (on 8) X tied ≡ given (meets 8)
unfolding reply table
tied_meets = let e : a_verdict (verdict_answer (on 8) X tied) ≡ a_verdict (given (meets 8)) = row table examples "a tie" in cc

tied_runs : run_answer (on 8) X tied 10 tied_jobs 2 ≡ given (record { outcome = met; backlog = 2 })
unfolding reply table
tied_runs =
    let e : a_run (run_answer (on 8) X tied 10 tied_jobs 2) (run_out (on 8) X tied 10 tied_jobs (9 ∷ 9 ∷ []))
    ≡ a_run (given (record { outcome = met; backlog = 2 })) (1 ∷ 5 ∷ []) =
    row table examples "a tie, run" in
    cc

-- a run under earliest deadline first whose ties go to the higher task is another run: its first job has count 5. By the theorem that is at most 6
other_ties : ℕ → List ℕ
other_ties =
    let ts = tasks_of tied in
    let js = jobs_of tied_jobs in
    work_left (supplied_by (on 8) X) (λ a b. lexically (deadline ts js a) (deadline ts js b) (ltb (task_of js b) (task_of js a))) js

other_ties_differ : count_of other_ties (jobs_of tied_jobs) 10 0 ≡ 5
unfolding everything other_ties
other_ties_differ = refl

other_ties_in_time : count_of other_ties (jobs_of tied_jobs) 10 0 ≤ 6
unfolding pieces_from pieces other_ties
other_ties_in_time =
    let legal = (run_given (on 8) X tied 10 tied_jobs 2 (record { outcome = met; backlog = 2 }) tied_runs).jobs in
    let run = machine_under (supplied_by (on 8) X) _ (jobs_of tied_jobs) (deadline (tasks_of tied) (jobs_of tied_jobs)) (by_lexically _ _) in
    (edf_every (on 8) X tied 8 tied_meets 10 (jobs_of tied_jobs) legal _ run 0 (omega arith) (omega arith)).2

-- W6 misses: from start 2, no way serves both jobs of task 0 and task 1 that are due by instant 8
w6_starved : (w : Way) → Served (supplied_by (on 8) X) (tasks_of w6) w 2 6 → ⊥
w6_starved = starved (on 8) X w6 6 2 3 2 w6_misses

-- a way that serves full jobs: W4's, released at 2 and 6 and due by 10, get the supplied ticks 5 and 6
w4_way : Way
w4_way k = some (record { task = 0; turn = k - 5 })

w4_served : Served (supplied_by (on 8) X) (tasks_of (1 ∷ 4 ∷ 4 ∷ [])) w4_way 2 8
unfolding everything w4_way
w4_served zero zero l d = omega arith
w4_served zero (suc zero) l d = omega arith
w4_served zero (suc (suc m)) l d = absurd (omega arith)
w4_served (suc i) m l d = absurd (omega arith)

-- ---- a refusal writes nothing

-- three numbers are too few for X's critical windows, and stay as they were
x_kept : critical_out (on 8) X (9 ∷ 9 ∷ 9 ∷ []) ≡ 9 ∷ 9 ∷ 9 ∷ []
unfolding reply table
x_kept =
    let e : windows (critical_answer (on 8) X 3) (critical_out (on 8) X (9 ∷ 9 ∷ 9 ∷ []))
    ≡ windows (refused 8 4) (9 ∷ 9 ∷ 9 ∷ []) = row table examples "partition without room" in
    let short : critical_answer (on 8) X 3 ≡ refused 8 4 = cc in
    critical_kept 8 4 (on 8) X (9 ∷ 9 ∷ 9 ∷ []) short

-- a job list that is not in threes, a plan without windows, and a line with no room
run_kept_at : run_out (on 8) X (1 ∷ 4 ∷ 4 ∷ []) 10 (2 ∷ 0 ∷ []) (9 ∷ []) ≡ 9 ∷ []
unfolding reply table
run_kept_at =
    let e : a_run (run_answer (on 8) X (1 ∷ 4 ∷ 4 ∷ []) 10 (2 ∷ 0 ∷ []) 1) (run_out (on 8) X (1 ∷ 4 ∷ 4 ∷ []) 10 (2 ∷ 0 ∷ []) (9 ∷ []))
    ≡ a_run (refused 10 0) (9 ∷ []) = row table examples "run refused by 10" in
    let bad : run_answer (on 8) X (1 ∷ 4 ∷ 4 ∷ []) 10 (2 ∷ 0 ∷ []) 1 ≡ refused 10 0 = cc in
    run_kept 10 0 (on 8) X (1 ∷ 4 ∷ 4 ∷ []) 10 (2 ∷ 0 ∷ []) (9 ∷ []) bad

abbrev no_windows : Plan
no_windows = record { settings = []; frame = 8; windows = []; tasks = 1 ∷ [] }

write_kept_at : write_out no_windows (9 ∷ []) ≡ 9 ∷ []
unfolding reply table
write_kept_at =
    let e : bytes_in (write_answer no_windows 1) (write_out no_windows (9 ∷ [])) ≡ bytes_in (refused 1 0) (9 ∷ []) = row table examples "plan refused by 1" in
    let bad : write_answer no_windows 1 ≡ refused 1 0 = cc in
    write_kept 1 0 no_windows (9 ∷ []) bad

line_kept_at : line_out (plan_answer 0 (8 ∷ 1 ∷ 0 ∷ 2 ∷ 0 ∷ [])) (9 ∷ 9 ∷ []) ≡ 9 ∷ 9 ∷ []
unfolding reply table
line_kept_at =
    let a = plan_answer 0 (8 ∷ 1 ∷ 0 ∷ 2 ∷ 0 ∷ []) in
    let e : bytes_in (line_answer a 2) (line_out a (9 ∷ 9 ∷ [])) ≡ bytes_in (refused 8 14) (9 ∷ 9 ∷ []) = row table examples "line without room" in
    let short : line_answer a 2 ≡ refused 8 14 = cc in
    line_kept 8 14 a (9 ∷ 9 ∷ []) short

-- ---- the plan file

abbrev pub w6_plan : Plan
w6_plan = record { settings = []; frame = 8; windows = X; tasks = w6 }

abbrev pub w6_file : List ℕ
w6_file = 8 ∷ 2 ∷ 0 ∷ 2 ∷ 5 ∷ 7 ∷ 2 ∷ 1 ∷ 4 ∷ 4 ∷ 2 ∷ 8 ∷ 6 ∷ []

w6_bytes : plan_bytes w6_plan ≡ w6_file
unfolding plan_bytes number_bytes number_bytes_within numbers_bytes
w6_bytes = refl

w6_writable : Writable w6_plan
unfolding bad_count window_list_fault task_list_fault greatest
w6_writable =
    record {
      settings = up_to_greatest most_number [] (omega arith);
      frame = omega arith;
      windows = up_to_greatest most_number X (omega arith);
      tasks = up_to_greatest most_number w6 (omega arith);
      window_list = refl;
      task_list = refl;
    }

pub w6_reads : plan_of 0 w6_file ≡ given w6_plan
w6_reads = rw w6_bytes at (round_trip w6_plan w6_writable)

w6_only : (bytes : List ℕ) → UpTo 255 bytes → plan_of 0 bytes ≡ given w6_plan → bytes ≡ w6_file
w6_only bytes u e = only_bytes 0 bytes w6_plan e u ∙ w6_bytes

-- bytes left over after its 13
w6_left_over : (b : ℕ) (rest : List ℕ) → plan_of 0 (w6_file ++ (b ∷ rest)) ≡ refused 9 13
w6_left_over b rest = rw w6_bytes at (left_over w6_plan w6_writable b rest)

-- of which a read of 1,143 bytes tells as much as a read of all, whichever form the file has
w6_first_bytes : (b : ℕ) (rest : List ℕ) → plan_answer 0 (take (suc (most_plan_bytes most_settings)) (w6_file ++ (b ∷ rest))) ≡ refused 9 13
unfolding plan_answer
w6_first_bytes b rest = first_answer (w6_file ++ (b ∷ rest)) (suc (most_plan_bytes most_settings)) 0 (omega arith) ∙ rw (w6_left_over b rest)

any_first_bytes : (bytes : List ℕ) → plan_answer most_settings (take (suc (most_plan_bytes most_settings)) bytes) ≡ plan_answer most_settings bytes
any_first_bytes bytes = first_answer bytes (suc (most_plan_bytes most_settings)) most_settings (omega arith)

-- a plan as long as a plan can be: every number but the two counts takes five bytes
longest : Plan
longest = record { settings = replicate most_settings most_number; frame = most_number; windows = replicate (2 * most_windows) most_number; tasks = replicate (3 * most_tasks) most_number }

five_for_most : length (number_bytes most_number) ≡ 5
five_for_most =
    rw (
      number_more most_number (omega arith),
      number_more 33554431 (omega arith),
      number_more 262143 (omega arith),
      number_more 2047 (omega arith),
      number_one 15 (omega arith),
    )

five_each : (n : ℕ) → length (numbers_bytes (replicate n most_number)) ≡ 5 * n
unfolding numbers_bytes
five_each zero = refl
five_each (suc n) = omega (arith, length-append (number_bytes most_number) (numbers_bytes (replicate n most_number)), five_for_most, five_each n)

longest_bytes : length (plan_bytes longest) ≡ most_plan_bytes most_settings
unfolding longest
longest_bytes = omega (
  arith,
  plan_length longest,
  five_for_most,
  five_each most_settings,
  five_each (2 * most_windows),
  five_each (3 * most_tasks),
  ap length (number_one most_windows (omega arith)),
  ap length (number_one most_tasks (omega arith)),
)

longest_writable : Writable longest
unfolding longest bad_count window_list_fault task_list_fault greatest
longest_writable =
    record {
      settings = up_to_greatest most_number (replicate most_settings most_number) (omega arith);
      frame = omega arith;
      windows = up_to_greatest most_number (replicate (2 * most_windows) most_number) (omega arith);
      tasks = up_to_greatest most_number (replicate (3 * most_tasks) most_number) (omega arith);
      window_list = refl;
      task_list = refl;
    }

longest_most : length (plan_bytes longest) ≤ most_plan_bytes most_settings
unfolding longest
longest_most = longest_plan most_settings (plan_bytes longest) longest (round_trip longest longest_writable)

-- ---- a board's trace

abbrev stamped : ℕ → ℕ → ℕ → ℕ → Stamped
stamped kind task work stamp = record { kind = kind; task = task; work = work; stamp = stamp }

-- W7's tasks, both released in full at tick 0, where the counter shows 100
abbrev pub trace : List ℕ
trace = 0 ∷ 0 ∷ 1 ∷ 100 ∷ 0 ∷ 1 ∷ 2 ∷ 100 ∷ 1 ∷ 0 ∷ 101 ∷ 1 ∷ 1 ∷ 106 ∷ []

abbrev pub trace_stamps : List Stamped
trace_stamps = stamped 0 0 1 100 ∷ stamped 0 1 2 100 ∷ stamped 1 0 0 101 ∷ stamped 1 1 0 106 ∷ []

pub trace_reads : trace_of trace ≡ read trace_stamps 14
unfolding everything
trace_reads = refl

pub trace_same : replay_answer (on 8) X w7 trace ≡ given same
unfolding reply table
trace_same = let e : a_replay (replay_answer (on 8) X w7 trace) ≡ a_replay (given same) = row table examples "a trace" in cc

-- where it shows 2 ^ 32 − 2, and goes past its top
abbrev pub wrapped : List ℕ
wrapped =
    0 ∷ 0 ∷ 1 ∷ 254 ∷ 255 ∷ 255 ∷ 255 ∷ 15 ∷ 0 ∷ 1 ∷ 2 ∷ 254 ∷ 255 ∷ 255 ∷ 255 ∷ 15
    ∷ 1 ∷ 0 ∷ 255 ∷ 255 ∷ 255 ∷ 255 ∷ 15 ∷ 1 ∷ 1 ∷ 4 ∷ []

abbrev pub wrapped_stamps : List Stamped
wrapped_stamps = stamped 0 0 1 4294967294 ∷ stamped 0 1 2 4294967294 ∷ stamped 1 0 0 4294967295 ∷ stamped 1 1 0 4 ∷ []

pub wrapped_reads : trace_of wrapped ≡ read wrapped_stamps 26
unfolding everything
wrapped_reads = refl

-- it is the first trace with each stamp later by 2 ^ 32 − 102, so it answers as that does
wrapped_same : replay_answer (on 8) X w7 wrapped ≡ given same
wrapped_same = shift_answer trace trace_stamps 14 trace_reads 4294967194 wrapped 26 wrapped_reads (on 8) X w7 ∙ trace_same

-- its completions, of task 0 at instant 1 and of task 1 at 6, are the machine's
trace_completions : completions (timed trace_stamps) ≡ completion 1 0 ∷ completion 6 1 ∷ []
unfolding everything
trace_completions = refl

trace_machine :
    let r = replay_given (on 8) X w7 trace same trace_same in
    let rs = timed r.stamped in
    let js = releases rs in
    completions rs ≡ ended_from (supplied_by (on 8) X) (edf (tasks_of w7) js) js 0 (ticks_of rs - 1)
trace_machine = (same_completions (on 8) X w7 trace (replay_given (on 8) X w7 trace same trace_same)).0

-- a completion one tick late is the first pair that differs
abbrev late : List ℕ
late = 0 ∷ 0 ∷ 1 ∷ 100 ∷ 0 ∷ 1 ∷ 2 ∷ 100 ∷ 1 ∷ 0 ∷ 101 ∷ 1 ∷ 1 ∷ 107 ∷ []

late_differs : replay_answer (on 8) X w7 late ≡ given (differs (some (completion 7 1)) (some (completion 6 1)))
unfolding reply table
late_differs =
    let e : a_replay (replay_answer (on 8) X w7 late) ≡ a_replay (given (differs (some (completion 7 1)) (some (completion 6 1)))) =
    row table examples "a late completion" in
    cc

late_pair :
    let rs = timed (replay_given (on 8) X w7 late _ late_differs).stamped in
    let before = edf (tasks_of w7) (releases rs) in
    FirstPair (completions rs) (machine_ended (supplied_by (on 8) X) before (tasks_of w7) rs)
    (record { trace = some (completion 7 1); machine = some (completion 6 1) })
late_pair =
    let r = replay_given (on 8) X w7 late _ late_differs in
    let rs = timed r.stamped in
    (replayed_differs (supplied_by (on 8) X) (edf (tasks_of w7) (releases rs)) (tasks_of w7) rs _ _ r.is).0

-- W7 meets, so no trace of its tasks shows a miss of the machine
w7_no_miss : (bytes : List ℕ) (k j : ℕ) → replay_answer (on 8) X w7 bytes ≡ given (missed k j) → ⊥
w7_no_miss bytes k j = meets_no_miss (on 8) X w7 bytes 8 k j w7_meets

-- these two traces are what the machine records of a run of 10 ticks
abbrev pub full_jobs_lem : List Job
full_jobs_lem = job 0 0 1 ∷ job 0 1 2 ∷ []

abbrev full : List Record
full = recorded (supplied_by (on 8) X) (edf (tasks_of w7) full_jobs_lem) (tasks_of w7) full_jobs_lem 10

full_bytes : trace_bytes (stamped_from 100 full) ≡ trace
unfolding everything
full_bytes = refl

full_stamps : stamped_from 4294967294 full ≡ wrapped_stamps
unfolding everything
full_stamps = refl

full_same : replay_answer (on 8) X w7 (trace_bytes (stamped_from 4294967294 full)) ≡ given same
unfolding everything
full_same = recorded_met (on 8) X w7 refl refl full_jobs_lem 10 refl (omega arith) (omega arith) refl (omega arith) 4294967294 refl

-- with D of task 1 at 5 its job is late at instant 5; a release at 8 is recorded after that
abbrev pub late_tasks : List ℕ
late_tasks = 1 ∷ 4 ∷ 4 ∷ 2 ∷ 8 ∷ 5 ∷ []

abbrev pub late_jobs : List Job
late_jobs = job 0 0 1 ∷ job 0 1 2 ∷ job 8 0 1 ∷ []

abbrev late_records : List Record
late_records = recorded (supplied_by (on 8) X) (edf (tasks_of late_tasks) late_jobs) (tasks_of late_tasks) late_jobs 10

late_bytes : trace_bytes (stamped_from 100 late_records) ≡ 0 ∷ 0 ∷ 1 ∷ 100 ∷ 0 ∷ 1 ∷ 2 ∷ 100 ∷ 1 ∷ 0 ∷ 101 ∷ 0 ∷ 0 ∷ 1 ∷ 108 ∷ []
unfolding everything
late_bytes = refl

late_missed : replay_answer (on 8) X late_tasks (trace_bytes (stamped_from 100 late_records)) ≡ given (missed 5 1)
unfolding everything
late_missed = recorded_missed (on 8) X late_tasks refl refl late_jobs 10 refl (omega arith) (omega arith) refl (omega arith) 100 5 1 refl

-- without that release the last record is at instant 1, before the miss, and nothing is missed by then
early_same : replay_answer (on 8) X late_tasks
    (trace_bytes (stamped_from 100 (recorded (supplied_by (on 8) X) (edf (tasks_of late_tasks) full_jobs_lem) (tasks_of late_tasks) full_jobs_lem 10))) ≡ given same
unfolding everything
early_same = recorded_same (on 8) X late_tasks refl refl full_jobs_lem 10 refl (omega arith) (omega arith) refl (omega arith) 100 refl

-- ---- a table that teams share

-- W6's group is answered on X with owner 1's windows beside it as on X read as one owner's, which is as on X alone
x_alone : verdict_for (on 8) XShared w6 ≡ verdict_for (on 8) (as_owned 0 X) w6
unfolding everything teams_fault
x_alone = alone (verdict_entry w6) teams (on 8) (on 8) XShared (as_owned 0 X) refl refl (itself (on 8)) refl

x_one_owner : verdict_for (on 8) (as_owned 0 X) w6 ≡ verdict_answer (on 8) X w6
unfolding verdict_for
x_one_owner = one_owner teams (on 8) (omega arith) X refl refl refl (verdict_entry w6)

w6_shared : verdict_for (on 8) XShared w6 ≡ given (miss 6 2 3 2)
w6_shared = x_alone ∙ x_one_owner ∙ w6_misses

-- as owner 1's they get the same
x_second : verdict_for (on_for 8 1) (as_owned 1 X) w6 ≡ verdict_answer (on_for 8 1) X w6
unfolding verdict_for
x_second = one_owner teams (on_for 8 1) (omega arith) X refl refl refl (verdict_entry w6)

-- W13's counts, and W7's trace
w13_alone : run_out_for (on 8) XShared w7 10 w13 (9 ∷ 9 ∷ 9 ∷ []) ≡ run_out_for (on 8) (as_owned 0 X) w7 10 w13 (9 ∷ 9 ∷ 9 ∷ [])
unfolding everything teams_fault
w13_alone = alone (run_out_entry w7 10 w13 (9 ∷ 9 ∷ 9 ∷ [])) teams (on 8) (on 8) XShared (as_owned 0 X) refl refl (itself (on 8)) refl

trace_alone : replay_for (on 8) XShared w7 trace ≡ given same
unfolding everything teams_fault
trace_alone =
    replay_alone (on 8) (on 8) XShared (as_owned 0 X) w7 trace refl refl (itself (on 8)) refl ∙ replay_one_owner (on 8) (omega arith) refl refl refl X w7 trace ∙ trace_same

-- tick 2 is owner 1's, so it is not owner 0's
tick_of_one : supplied_by (on 8) (own (on 8) XShared) 2 ≡ true → ⊥
unfolding everything
tick_of_one e = let z : ◌≡◌ {A = ℕ} 0 1 = one_owner_a_tick teams (on 8) (on_for 8 1) XShared refl refl 2 e refl in omega arith

-- there is no owner 2
third_refused : shared_fault teams (on_for 8 2) XShared ≡ fault 1 0
unfolding everything
third_refused = no_such_owner teams (on_for 8 2) XShared refl (omega arith)

-- a list in which the other team's window is empty is told apart, by 3 at that window
other_empty : Told teams (on 8) (0 ∷ 2 ∷ 0 ∷ []) (verdict_for (on 8) (0 ∷ 2 ∷ 0 ∷ []) []) refused
    ⊎ Told teams (on 8) (0 ∷ 2 ∷ 0 ∷ 4 ∷ 4 ∷ 1 ∷ []) (verdict_for (on 8) (0 ∷ 2 ∷ 0 ∷ 4 ∷ 4 ∷ 1 ∷ []) []) refused
unfolding everything
other_empty =
    told_apart (verdict_entry []) teams (on 8) (on 8) (0 ∷ 2 ∷ 0 ∷ []) (0 ∷ 2 ∷ 0 ∷ 4 ∷ 4 ∷ 1 ∷ []) (itself (on 8)) refl
    (λ e. let z : ◌≡◌ {A = ℕ} 0 1 = cc in omega arith)

at_its_window : WholeRefusal 2 3 1
unfolding everything teams_fault
at_its_window = whole_refusal teams (on 8) (0 ∷ 2 ∷ 0 ∷ 4 ∷ 4 ∷ 1 ∷ []) 3 1 refl

-- owner 0's windows by themselves are X's, too
x_own_alone : own_answer teams (on 8) XShared 4 ≡ own_answer teams (on 8) (as_owned 0 X) 4
unfolding everything teams_fault
x_own_alone = (own_alone teams (on 8) (on 8) XShared (as_owned 0 X) refl refl (itself (on 8)) refl 4 []).0

-- ---- the shortest window

-- on a board of two ticks and more the table of two teams is refused at owner 1's window of one tick, whoever asks
x_twelve : Twelve teams (on_at_least 8 0 2) XShared 3
unfolding everything
x_twelve = (exactly_twelve teams (on_at_least 8 0 2) XShared _ (verdict_known (on_at_least 8 0 2) w6) 3).0 refl

-- and with m out of its range at 64
x_range : verdict_for (on_at_least 8 1 0) XShared w6 ≡ refused 12 64
unfolding everything
x_range =
    (exactly_twelve teams (on_at_least 8 1 0) XShared _ (verdict_known (on_at_least 8 1 0) w6) 64).1
    (record { whole = refl; present = refl; at = inl (inl refl, refl) })

-- a list in which the other team has a sliver is told apart, by 12 at that window
other_sliver : Told teams (on_at_least 8 0 2) (0 ∷ 2 ∷ 0 ∷ []) (verdict_for (on_at_least 8 0 2) (0 ∷ 2 ∷ 0 ∷ []) []) refused
    ⊎ Told teams (on_at_least 8 0 2) (0 ∷ 2 ∷ 0 ∷ 4 ∷ 5 ∷ 1 ∷ []) (verdict_for (on_at_least 8 0 2) (0 ∷ 2 ∷ 0 ∷ 4 ∷ 5 ∷ 1 ∷ []) []) refused
unfolding everything
other_sliver =
    told_apart (verdict_entry []) teams (on_at_least 8 0 2) (on_at_least 8 0 2) (0 ∷ 2 ∷ 0 ∷ []) (0 ∷ 2 ∷ 0 ∷ 4 ∷ 5 ∷ 1 ∷ []) (itself (on_at_least 8 0 2)) refl
    (λ e. let z : ◌≡◌ {A = ℕ} 0 1 = cc in omega arith)

at_its_sliver : WholeRefusal 2 12 1
unfolding everything teams_fault
at_its_sliver = whole_refusal teams (on_at_least 8 0 2) (0 ∷ 2 ∷ 0 ∷ 4 ∷ 5 ∷ 1 ∷ []) 12 1 refl

at_least : (m : ℕ) → Alike (on_at_least 8 0 m) (on 8)
at_least m = record { frame = refl; rule = refl; lost = refl }

-- windows of two ticks and more are answered as on a board that allows every window, and there 12 never comes
x_smaller : verdict_for (on_at_least 8 0 2) (as_owned 0 X) w6 ≡ verdict_for (on 8) (as_owned 0 X) w6
unfolding everything
x_smaller =
    smaller_same teams (on_at_least 8 0 2) (on 8) (as_owned 0 X) (at_least 2) refl (omega arith) (omega arith) (verdict_entry w6) (λ p e. fault_not_fine (sym e))

-- W13's counts too, and the windows by themselves
w13_smaller : run_out_for (on_at_least 8 0 2) (as_owned 0 X) w7 10 w13 (9 ∷ 9 ∷ 9 ∷ []) ≡ run_out_for (on 8) (as_owned 0 X) w7 10 w13 (9 ∷ 9 ∷ 9 ∷ [])
unfolding everything
w13_smaller =
    smaller_same teams (on_at_least 8 0 2) (on 8) (as_owned 0 X) (at_least 2) refl (omega arith) (omega arith) (run_out_entry w7 10 w13 (9 ∷ 9 ∷ 9 ∷ []))
    (λ p e. fault_not_fine (sym e))

x_own_smaller : own_answer teams (on_at_least 8 0 2) (as_owned 0 X) 4 ≡ own_answer teams (on 8) (as_owned 0 X) 4
unfolding everything
x_own_smaller = (own_smaller teams (on_at_least 8 0 2) (on 8) (as_owned 0 X) (at_least 2) refl (omega arith) (omega arith) (λ p e. fault_not_fine (sym e)) 4 []).0

x_own_sliver : Twelve teams (on_at_least 8 0 2) XShared 3
unfolding everything
x_own_sliver = (own_twelve teams (on_at_least 8 0 2) XShared 4 3).0 refl

x_never : (p : ℕ) → verdict_for (on 8) XShared w6 ≡ refused 12 p → ⊥
unfolding verdict_for
x_never p e = never_twelve teams (on 8) XShared refl _ (verdict_known (on 8) w6) p e

x_at_one : verdict_for (on_for 8 1) XShared w6 ≡ verdict_answer (on_for 8 1) (own (on_for 8 1) XShared) w6
unfolding everything
x_at_one = one_answer teams (on_for 8 1) XShared refl refused (λ l. verdict_answer (on_for 8 1) l w6)

trace_smaller : replay_for (on_at_least 8 0 2) (as_owned 0 X) w7 trace ≡ replay_for (on 8) (as_owned 0 X) w7 trace
unfolding everything
trace_smaller = replay_smaller (on_at_least 8 0 2) (on 8) (as_owned 0 X) w7 trace (at_least 2) refl (omega arith) (omega arith) (λ p e. fault_not_fine (sym e))

trace_sliver : OfTrace trace (Twelve teams (on_at_least 8 0 3) (as_owned 0 X) 0)
unfolding everything
trace_sliver = (replay_twelve (on_at_least 8 0 3) (as_owned 0 X) w7 trace 0).0 refl

-- W6's file, with m = 1 before it, with m = 2 as with m = 1, and with m = 3
w6_old_form : plan_answer 1 (1 ∷ w6_file) ≡ plan_answer 0 w6_file
w6_old_form = old_form w6_file w6_plan w6_reads

-- a file with a byte left over: its offset is one later
w6_old_left_over : (b : ℕ) (rest : List ℕ) → plan_answer 1 (1 ∷ (w6_file ++ (b ∷ rest))) ≡ refused 9 14
w6_old_left_over b rest = old_refused (w6_file ++ (b ∷ rest)) 9 13 (w6_left_over b rest)

-- a file with 65 windows: 1 as soon as it is read, whatever stands before, two bytes of m = 200 here
early_behind : plan_answer 1 (200 ∷ 1 ∷ 0 ∷ 65 ∷ []) ≡ refused 1 0
unfolding everything
early_behind = refused_behind (200 ∷ []) (0 ∷ 65 ∷ []) (up_to_greatest most_number (200 ∷ []) (omega arith)) 1 0 refl

w6_smaller_plan : plan_answer 1 (plan_bytes (with_settings (2 ∷ []) w6_plan)) ≡ plan_answer 1 (plan_bytes (with_settings (1 ∷ []) w6_plan))
unfolding everything
w6_smaller_plan =
    smaller_plan w6_plan w6_writable [] 2 1 (up_to_greatest most_number (2 ∷ []) (omega arith)) (up_to_greatest most_number (1 ∷ []) (omega arith)) (omega arith) (omega arith)
    (λ q e. let z : ◌≡◌ {A = ℕ} 0 1 = cc in omega arith)

w6_plan_twelve : OfPlan 1 (3 ∷ w6_file) (λ p. Twelve teams (plan_board p) (as_owned 0 p.windows) 0)
unfolding everything
w6_plan_twelve = (plan_twelve 1 (3 ∷ w6_file) 0).0 refl

-- ---- a summary beside X: 4 ticks a frame, a delay of 12, and 2 critical windows, 3 to 5 and 6 to 8

-- 7 numbers, of at most 12
x_most : length (summary_of (on 8) X) ≤ 12
x_most = summary_most (on 8) X

-- memory that is longer belongs too
x_begins : (rest : List ℕ) → begins (summary_of (on 8) X) (XSummary ++ rest) ≡ true
unfolding everything
x_begins rest = refl

-- three million ticks and five more, which no entry answers, hold four in each of 375,000 frames and 2
x_long : least_supply (supplied_by (on 8) X) 8 3000005 ≡ 1500002
unfolding least_from ticks_before pieces pieces_from
x_long = sym (least_from_exact (on 8) X XSummary (omega arith) (x_begins []) 3000005)

-- W6's group misses its last deadline by one tick
w6_from : margin_from 8 XSummary (tasks_of w6) 6 ≡ margin (supplied_by (on 8) X) 8 (tasks_of w6) 6
w6_from = margin_from_exact (on 8) X XSummary (omega arith) (x_begins []) (tasks_of w6) 6

x_shared_summary : summary_fault (on 8) (own (on 8) XShared) XSummary ≡ fine
unfolding everything
x_shared_summary = refl

x_agrees : (t : ℕ) → least_from_for (on 8) XShared XSummary t ≡ least_supply_for (on 8) XShared t
x_agrees t = summary_agrees (on 8) XShared XSummary t x_shared_summary

x_from : least_from_for (on 8) XShared XSummary 999999 ≡ given 499999
unfolding everything
x_from = refl

x_answers : least_supply_for (on 8) XShared 999999 ≡ given 499999
x_answers = summary_answers (on 8) XShared XSummary 999999 499999 x_from

-- owner 1 has other windows: X's summary is refused, whatever length is asked for
x_not_hers : begins (summary_of (on_for 8 1) (own (on_for 8 1) XShared)) XSummary ≡ false
unfolding everything
x_not_hers = refl

hers_fine : shared_fault teams (on_for 8 1) XShared ≡ fine
unfolding everything
hers_fine = refl

x_refused : (t : ℕ) → least_from_for (on_for 8 1) XShared XSummary t ≡ refused 14 0
x_refused t = not_belonging (on_for 8 1) XShared XSummary t hers_fine x_not_hers

x_fourteen : begins (summary_of (on_for 8 1) (own (on_for 8 1) XShared)) XSummary ≡ false
x_fourteen = (fourteen (on_for 8 1) XShared XSummary 2000000 0 (x_refused 2000000)).0

-- W6's margins at 6 and at 999,999, in room for three
abbrev nines : List ℤ
nines = pos 9 ∷ pos 9 ∷ pos 9 ∷ []

w6_margins : margins_for (on 8) XShared XSummary w6 (6 ∷ 999999 ∷ []) 3 ≡ given 2
unfolding everything
w6_margins = refl

w6_margins_out : margins_out_for (on 8) XShared XSummary w6 (6 ∷ 999999 ∷ []) nines ≡ negsuc 0 ∷ pos 0 ∷ pos 9 ∷ []
unfolding everything
w6_margins_out = refl

w6_agree : margins_out_for (on 8) XShared XSummary w6 (6 ∷ 999999 ∷ []) nines
    ≡ written (map (margin (supplied_by (on 8) (own (on 8) XShared)) 8 (tasks_of w6)) (6 ∷ 999999 ∷ [])) nines
w6_agree = (margins_agree (on 8) XShared XSummary w6 (6 ∷ 999999 ∷ []) nines 2 w6_margins).1

-- at 999,999 exactly what is asked for is there, as the entry without a summary would answer
w6_each : margin_for (on 8) XShared w6 999999 ≡ given (pos 0)
w6_each =
    margins_each (on 8) XShared XSummary w6 (6 ∷ 999999 ∷ []) nines 2 w6_margins 1 (omega arith)
    ∙ ap (λ (l : List ℤ). given (get_or l 1 (pos 0))) w6_margins_out

-- a second length over 1,000,000 is refused as the entry without a summary refuses it
w6_too_long : margins_for (on 8) XShared XSummary w6 (6 ∷ 1000001 ∷ []) 3 ≡ refused 7 0
unfolding everything
w6_too_long = refl

w6_one_refused : (j : ℕ) × (j < 2) × (margin_for (on 8) XShared w6 (get_or (6 ∷ 1000001 ∷ []) j 0) ≡ refused 7 0)
w6_one_refused = one_refused (on 8) XShared XSummary w6 (6 ∷ 1000001 ∷ []) 3 7 0 x_shared_summary (omega arith) (omega arith) w6_too_long

w6_group : group_fault w6 ≡ fine
unfolding everything
w6_group = refl

w6_refused : margins_for (on_for 8 1) XShared XSummary w6 (2000000 ∷ []) 0 ≡ refused 14 0
w6_refused = margins_not_belonging (on_for 8 1) XShared XSummary w6 (2000000 ∷ []) 0 hers_fine w6_group x_not_hers

w6_fourteen : shared_fault teams (on_for 8 1) XShared ≡ fine
w6_fourteen = (margins_fourteen (on_for 8 1) XShared XSummary w6 (2000000 ∷ []) 0 0 w6_refused).1

-- owner 1's own summary, as it is made, belongs
abbrev her_memory : List ℕ
her_memory = make_out_for (on_for 8 1) XShared (replicate 9 9)

hers_made : make_for (on_for 8 1) XShared 9 ≡ given 7
unfolding everything
hers_made = refl

hers_belongs : summary_fault (on_for 8 1) (own (on_for 8 1) XShared) her_memory ≡ fine
hers_belongs = (made_belongs (on_for 8 1) XShared (replicate 9 9) 7 hers_made).0

hers_agrees : (t : ℕ) → least_from_for (on_for 8 1) XShared her_memory t ≡ least_supply_for (on_for 8 1) XShared t
hers_agrees t = summary_agrees (on_for 8 1) XShared her_memory t hers_belongs

-- written once more, it is what it was
hers_again : written (summary_of (on_for 8 1) (own (on_for 8 1) XShared)) her_memory ≡ her_memory
hers_again =
    let mine = own (on_for 8 1) XShared in
    begins_written (summary_of (on_for 8 1) mine) her_memory (fine_begins (on_for 8 1) mine her_memory hers_belongs)

-- X's summary is made of X alone, and margins from it depend on nothing of owner 1
x_made_alone : make_out_for (on 8) XShared (replicate 9 9) ≡ make_out_for (on 8) (as_owned 0 X) (replicate 9 9)
unfolding everything teams_fault
x_made_alone = alone (make_out_entry (replicate 9 9)) teams (on 8) (on 8) XShared (as_owned 0 X) refl refl (itself (on 8)) refl

w6_margins_alone : margins_out_for (on 8) XShared XSummary w6 (6 ∷ []) nines ≡ margins_out (on 8) X XSummary w6 (6 ∷ []) nines
unfolding everything teams_fault
w6_margins_alone =
    alone (margins_out_entry XSummary w6 (6 ∷ []) nines) teams (on 8) (on 8) XShared (as_owned 0 X) refl refl (itself (on 8)) refl
    ∙ one_owner teams (on 8) (omega arith) X refl refl refl (margins_out_entry XSummary w6 (6 ∷ []) nines)

-- 12 comes before 14
summary_twelve : Twelve teams (on_at_least 8 0 2) XShared 3
unfolding everything
summary_twelve = (exactly_twelve teams (on_at_least 8 0 2) XShared _ (least_from_known (on_at_least 8 0 2) [] 6) 3).0 refl

-- too little room for X's summary, another team's summary with room for margins, and an edit with it: all that is lent stays as it was
make_short : make_answer (on 8) X 6 ≡ refused 8 7
unfolding everything
make_short = refl

make_kept_at : make_out (on 8) X (replicate 6 9) ≡ replicate 6 9
make_kept_at = make_kept 8 7 (on 8) X (replicate 6 9) make_short

margins_other : margins_answer (on 8) lab XSummary w6 (6 ∷ []) 3 ≡ refused 14 0
unfolding everything
margins_other = refl

margins_kept_at : margins_out (on 8) lab XSummary w6 (6 ∷ []) nines ≡ nines
margins_kept_at = margins_kept 14 0 (on 8) lab XSummary w6 (6 ∷ []) nines margins_other

edit_other : edit_answer teams (on_for 8 1) 4 XShared XSummary (remove 0) ≡ refused 14 0
unfolding everything
edit_other = refl

edit_kept_at : (edit_windows teams (on_for 8 1) 4 XShared XSummary (remove 0) ≡ XShared) × (edit_summary teams (on_for 8 1) 4 XShared XSummary (remove 0) ≡ XSummary)
edit_kept_at = edit_kept 14 0 teams (on_for 8 1) 4 XShared XSummary (remove 0) edit_other

-- ---- edits of a table with its summary

-- the table of two teams, with room for one window more, and owner 0's summary, with room for one more too
abbrev edit_memory : List ℕ
edit_memory = XShared ++ (9 ∷ 9 ∷ 9 ∷ [])

abbrev edit_summary_lem : List ℕ
edit_summary_lem = 4 ∷ 12 ∷ 2 ∷ 3 ∷ 5 ∷ 6 ∷ 8 ∷ 9 ∷ 9 ∷ []

-- both memories after an edit of it
abbrev windows_after : Edit → List ℕ
windows_after edit = edit_windows teams (on 8) 4 edit_memory edit_summary_lem edit

abbrev summary_after : Edit → List ℕ
summary_after edit = edit_summary teams (on 8) 4 edit_memory edit_summary_lem edit

-- owner 0's first window loses a tick: the summary afterwards is that of a fresh making
x_moved : edit_answer teams (on 8) 4 edit_memory edit_summary_lem (move 0 0 1) ≡ given (record { windows = 4; numbers = 7 })
unfolding everything
x_moved = refl

x_left : Left teams (on 8) 4 edit_memory edit_summary_lem (move 0 0 1) (record { windows = 4; numbers = 7 })
    (windows_after (move 0 0 1)) (summary_after (move 0 0 1))
x_left = edit_leaves teams (on 8) 4 edit_memory edit_summary_lem (move 0 0 1) _ x_moved

x_move_room : length (edited_list 4 edit_memory (move 0 0 1)) ≤ 15
unfolding everything
x_move_room = (edit_parts teams (on 8) 4 edit_memory edit_summary_lem (move 0 0 1) refl).room

-- and made afresh, it is the same
x_made_again : make_out_for (on 8) (table_in 4 (windows_after (move 0 0 1))) edit_summary_lem ≡ summary_after (move 0 0 1)
x_made_again = (edit_as_made (on 8) 4 edit_memory edit_summary_lem (move 0 0 1) _ x_moved).1

-- moved back, the windows are as they were
x_moved_back : table_in 4 (edit_windows teams (on 8) 4 (windows_after (move 0 0 1)) (summary_after (move 0 0 1)) (move 0 0 2)) ≡ XShared
x_moved_back = (move_back teams (on 8) 4 edit_memory edit_summary_lem 0 0 1 _ x_moved).list

-- it can't grow into owner 1's, and then nothing is written
x_grown : (windows_after (move 0 0 3) ≡ edit_memory) × (summary_after (move 0 0 3) ≡ edit_summary_lem)
unfolding everything
x_grown = edit_kept 3 1 teams (on 8) 4 edit_memory edit_summary_lem (move 0 0 3) refl

x_grown_refusal : EditRefusal teams (on 8) 4 edit_memory edit_summary_lem (move 0 0 3) 3 1
unfolding everything
x_grown_refusal = edit_refusal teams (on 8) 4 edit_memory edit_summary_lem (move 0 0 3) 3 1 refl

x_grown_new : edit_answer teams (on 8) 4 edit_memory edit_summary_lem (move 0 0 3) ≡ refused 3 1
unfolding everything
x_grown_new =
    new_refused teams (on 8) 4 edit_memory edit_summary_lem (move 0 0 3) (record { counted = omega arith; before = refl; belongs = refl }) (omega arith) 3 1 refl

x_grown_back : edit_answer teams (on 8) 4 edit_memory edit_summary_lem (move 0 0 3) ≡ refused 3 1
x_grown_back = refusal_edit teams (on 8) 4 edit_memory edit_summary_lem (move 0 0 3) 3 1 x_grown_refusal

-- there is no fifth window to remove
x_absent : Absent teams (on 8) 4 edit_memory edit_summary_lem (remove 4)
unfolding everything
x_absent = ((exactly_seven teams (on 8) 4 edit_memory edit_summary_lem (remove 4) 0).0 refl).0

-- the window at index 1 is owner 1's: owner 0's summary memory is not touched
x_other_moved : summary_after (move 1 3 4) ≡ edit_summary_lem
unfolding everything
x_other_moved =
    (other_owner teams (on 8) 4 edit_memory edit_summary_lem (move 1 3 4) (record { windows = 4; numbers = 7 }) refl
    (λ z. let y : ◌≡◌ {A = ℕ} 1 0 = z in omega arith)).1

-- removed and added again
x_removed_added : table_in 4 (edit_windows teams (on 8) 3 (windows_after (remove 2)) (summary_after (remove 2)) (add 2 5 7 0)) ≡ XShared
unfolding everything
x_removed_added = (remove_then_add teams (on 8) 4 edit_memory edit_summary_lem 2 (record { windows = 3; numbers = 5 }) refl).list

-- X as owner 0's, and a window of owner 0 between its two, added and removed
abbrev pair_memory : List ℕ
pair_memory = as_owned 0 X ++ (9 ∷ 9 ∷ 9 ∷ [])

pair_added : edit_answer teams (on 8) 2 pair_memory edit_summary_lem (add 1 3 4 0) ≡ given (record { windows = 3; numbers = 9 })
unfolding everything
pair_added = refl

pair_count : ◌≡◌ {A = ℕ} 3 (2 + 1)
unfolding everything
pair_count = count_answered teams (on 8) 2 pair_memory edit_summary_lem (add 1 3 4 0) _ pair_added

pair_added_removed : edit_answer teams (on 8) 3 (edit_windows teams (on 8) 2 pair_memory edit_summary_lem (add 1 3 4 0))
    (edit_summary teams (on 8) 2 pair_memory edit_summary_lem (add 1 3 4 0)) (remove 1) ≡ given (record { windows = 2; numbers = 7 })
unfolding everything
pair_added_removed = (add_then_remove teams (on 8) 2 pair_memory edit_summary_lem 1 3 4 0 _ pair_added).answered

-- moving the first window leaves the same summary on X as on the table of two teams
pair_moved : summary_after (move 0 0 1) ≡ edit_summary teams (on 8) 2 pair_memory edit_summary_lem (move 0 0 1)
unfolding everything
pair_moved =
    (edit_own teams (on 8) (on 8) 4 2 edit_memory pair_memory edit_summary_lem (move 0 0 1) (move 0 0 1)
    (record { windows = 4; numbers = 7 }) (record { windows = 2; numbers = 7 }) refl refl (itself (on 8)) refl).1

-- on X it can grow by the tick that owner 1's begins with: the two are told apart, by 3 at owner 1's window
pair_grown : EditTold teams (on 8) 4 edit_memory edit_summary_lem (move 0 0 3) ⊎ EditTold teams (on 8) 2 pair_memory edit_summary_lem (move 0 0 3)
unfolding everything
pair_grown =
    edit_told_apart teams (on 8) (on 8) 4 2 edit_memory pair_memory edit_summary_lem (move 0 0 3) (move 0 0 3) (itself (on 8)) refl (omega arith) refl (omega arith) refl refl
    (λ same. let e = same.0 in let z : ◌≡◌ {A = ℕ} 0 1 = cc in omega arith)

-- a summary that does not belong: its A is wrong
abbrev stale_summary : List ℕ
stale_summary = 3 ∷ 12 ∷ 2 ∷ 3 ∷ 5 ∷ 6 ∷ 8 ∷ []

x_stale : Fourteen teams (on 8) 4 edit_memory stale_summary
unfolding everything
x_stale = ((exactly_fourteen teams (on 8) 4 edit_memory stale_summary (remove 0) 0).0 refl).0

-- nor is it X's, whatever the edit
pair_stale : edit_answer teams (on 8) 2 pair_memory stale_summary (move 9 0 1) ≡ refused 14 0
unfolding everything
pair_stale =
    (fourteen_own teams (on 8) (on 8) 4 2 edit_memory pair_memory stale_summary (remove 0) (move 9 0 1) (omega arith) refl (omega arith) refl (itself (on 8)) refl).0 refl

-- ---- boards that pay for a switch: of X's windows a board that loses one tick leaves (1,2) and (6,7)

abbrev pub w4 : List ℕ
w4 = 1 ∷ 4 ∷ 4 ∷ []

pub lost_misses : verdict_for (losing 8 0 1) XShared w4 ≡ given (miss 4 2 1 0)
unfolding reply table
lost_misses = let e : a_verdict (verdict_for (losing 8 0 1) XShared w4) ≡ a_verdict (given (miss 4 2 1 0)) = row table examples "W4's task after a loss" in cc

-- a task of one tick that is due in 5
abbrev pub in_five : List ℕ
in_five = 1 ∷ 8 ∷ 5 ∷ []

pub lost_meets : verdict_for (losing 8 0 1) XShared in_five ≡ given (meets 8)
unfolding reply table
lost_meets = let e : a_verdict (verdict_for (losing 8 0 1) XShared in_five) ≡ a_verdict (given (meets 8)) = row table examples "a task that meets after a loss" in cc

abbrev lost_trace : List ℕ
lost_trace = 0 ∷ 0 ∷ 1 ∷ 100 ∷ 1 ∷ 0 ∷ 102 ∷ []

lost_trace_same : replay_for (losing 8 0 1) XShared in_five lost_trace ≡ given same
unfolding reply table
lost_trace_same = let e : a_replay (replay_for (losing 8 0 1) XShared in_five lost_trace) ≡ a_replay (given same) = row table examples "the trace of that board" in cc

lost_fine_list : shared_fault teams (losing 8 0 1) XShared ≡ fine
unfolding everything
lost_fine_list = refl

-- tick 9 is the second of X's first window, a frame later; tick 8 is lost
lost_tick : Gives teams (losing 8 0 1) 0 (owned_of XShared) 1
unfolding everything
lost_tick = (supplied_exactly teams (losing 8 0 1) XShared 9).0 refl

lost_tick_back : supplied_by (losing 8 0 1) (own (losing 8 0 1) XShared) 9 ≡ true
lost_tick_back = (supplied_exactly teams (losing 8 0 1) XShared 9).1 lost_tick

lost_tick_not : supplied_by (losing 8 0 1) (own (losing 8 0 1) XShared) 8 ≡ false
unfolding everything
lost_tick_not = refl

-- W4's task misses on (1,2) and (6,7) alone, and as owner 1's under rule 1
left_misses : verdict_answer (on 8) (1 ∷ 2 ∷ 6 ∷ 7 ∷ []) w4 ≡ given (miss 4 2 1 0)
unfolding everything
left_misses = sym (asked_left (verdict_entry w4) teams (losing 8 0 1) XShared lost_fine_list) ∙ lost_misses

left_as_owner : verdict_for (on_for 8 1) (1 ∷ 2 ∷ 1 ∷ 6 ∷ 7 ∷ 1 ∷ []) w4 ≡ given (miss 4 2 1 0)
unfolding everything
left_as_owner = sym (rule_one (verdict_entry w4) teams (losing 8 0 1) XShared lost_fine_list 1 (omega arith)) ∙ lost_misses

left_fine_list : shared_fault teams (on_for 8 1) (1 ∷ 2 ∷ 1 ∷ 6 ∷ 7 ∷ 1 ∷ []) ≡ fine
unfolding everything
left_fine_list = left_table teams (losing 8 0 1) XShared 1 (omega arith) refl (omega arith)

-- the least supply of five ticks is found at the ends of these windows, ticks 2 and 7
lost_ends : 1 ≡ least (λ i. supply (supplied_by (losing 8 0 1) X) (end_of (1 ∷ 2 ∷ 6 ∷ 7 ∷ []) i) 5) 2
unfolding everything
lost_ends = ends_left (losing 8 0 1) XShared 5 1 refl

-- its summary is made of what is left
left_made : make_out_for (losing 8 0 1) XShared (replicate 9 9) ≡ make_out_for (on_for 8 1) (1 ∷ 2 ∷ 1 ∷ 6 ∷ 7 ∷ 1 ∷ []) (replicate 9 9)
unfolding everything
left_made = rule_one (make_out_entry (replicate 9 9)) teams (losing 8 0 1) XShared lost_fine_list 1 (omega arith)

-- and what is left of that is all of it
left_own : own_answer teams (losing 8 0 1) XShared 4 ≡ own_answer teams (on_for 8 1) (1 ∷ 2 ∷ 1 ∷ 6 ∷ 7 ∷ 1 ∷ []) 4
unfolding everything
left_own = (own_rule_one teams (losing 8 0 1) XShared lost_fine_list 1 (omega arith) 4 []).0

left_trace : replay_answer (on 8) (1 ∷ 2 ∷ 6 ∷ 7 ∷ []) in_five lost_trace ≡ given same
unfolding everything
left_trace = sym (replay_left (losing 8 0 1) XShared in_five lost_trace lost_fine_list) ∙ lost_trace_same

left_trace_as_owner : replay_for (on_for 8 1) (1 ∷ 2 ∷ 1 ∷ 6 ∷ 7 ∷ 1 ∷ []) in_five lost_trace ≡ given same
unfolding everything
left_trace_as_owner = sym (replay_rule_one (losing 8 0 1) XShared in_five lost_trace lost_fine_list 1 (omega arith)) ∙ lost_trace_same

-- ---- rule 2 without a loss: X is answered as under rule 1, and refused so

by_rule_two : (o : ℕ) → NoLoss (on_for 8 o) (losing 8 o 0)
by_rule_two o = record { frame = refl; owner = refl; shortest = refl; one = refl; two = refl; whole = refl; nothing = refl }

w6_by_rule_two : verdict_for (losing 8 0 0) XShared w6 ≡ given (miss 6 2 3 2)
unfolding verdict_for
w6_by_rule_two = sym (no_loss (on 8) (losing 8 0 0) (by_rule_two 0) (verdict_entry w6) teams XShared) ∙ w6_shared

third_by_rule_two : shared_fault teams (losing 8 2 0) XShared ≡ fault 1 0
third_by_rule_two = sym (no_loss_fault (on_for 8 2) (losing 8 2 0) (by_rule_two 2) teams XShared) ∙ third_refused

trace_by_rule_two : replay_for (losing 8 0 0) XShared w7 trace ≡ given same
trace_by_rule_two = sym (replay_no_loss (on 8) (losing 8 0 0) (by_rule_two 0) XShared w7 trace) ∙ trace_alone

own_by_rule_two : own_out teams (on 8) XShared (9 ∷ 9 ∷ 9 ∷ 9 ∷ 9 ∷ []) ≡ own_out teams (losing 8 0 0) XShared (9 ∷ 9 ∷ 9 ∷ 9 ∷ 9 ∷ [])
own_by_rule_two = (own_no_loss (on 8) (losing 8 0 0) (by_rule_two 0) teams XShared 5 (9 ∷ 9 ∷ 9 ∷ 9 ∷ 9 ∷ [])).1

moved_by_rule_two : edit_answer teams (losing 8 0 0) 4 edit_memory edit_summary_lem (move 0 0 1) ≡ given (record { windows = 4; numbers = 7 })
moved_by_rule_two = sym (edit_no_loss (on 8) (losing 8 0 0) (by_rule_two 0) teams 4 edit_memory edit_summary_lem (move 0 0 1)).0 ∙ x_moved

-- ---- more lost ticks: none, one and two of each of X's windows

rule_one_board : rule_fault (on 8) ≡ fine
unfolding everything
rule_one_board = refl

lost_no_new_tick : supplied_by (on 8) X 9 ≡ true
unfolding everything
lost_no_new_tick = more_lost_tick (on 8) (losing 8 0 1) refl (omega arith) (windows_of X) 9 refl

lost_no_more : supply (supplied_by (losing 8 0 1) X) 3 5 ≤ supply (supplied_by (on 8) X) 3 5
lost_no_more = more_lost_supply (on 8) (losing 8 0 1) refl (omega arith) (windows_of X) 3 5

lost_fewer : per_frame (supplied_by (losing 8 0 1) X) 8 ≤ per_frame (supplied_by (on 8) X) 8
lost_fewer = more_lost_frame (on 8) (losing 8 0 1) refl (omega arith) (windows_of X)

lost_least : (t : ℕ) → least_supply (supplied_by (losing 8 0 1) X) 8 t ≤ least_supply (supplied_by (on 8) X) 8 t
lost_least = more_lost_least (on 8) (losing 8 0 1) refl (omega arith) (windows_of X)

lost_amount : 1 ≤ 2
unfolding everything
lost_amount = more_lost_amount (on 8) (losing 8 0 1) refl (omega arith) refl XShared 5 1 2 refl refl

less_fine : shared_fault teams (on 8) XShared ≡ fine
less_fine = more_lost_fine (on 8) (losing 8 0 1) refl (omega arith) refl refl rule_one_board teams XShared lost_fine_list

-- the task that meets with one tick lost meets with none lost
less_meets : verdict_for (on 8) XShared in_five ≡ given (meets 8)
less_meets = more_lost_meets (on 8) (losing 8 0 1) refl (omega arith) refl refl rule_one_board XShared in_five 8 lost_meets

-- and by rule 2 with none lost
less_by_rule_two : verdict_for (losing 8 0 0) XShared in_five ≡ given (meets 8)
less_by_rule_two = less_lost_meets (losing 8 0 0) (losing 8 0 1) refl (omega arith) refl refl refl XShared in_five 8 lost_meets

-- and W7's group, which meets on X, on a table that supplies every tick
full_meets : verdict_answer (on 8) (0 ∷ 8 ∷ []) w7 ≡ given (meets 8)
unfolding everything
full_meets = more_meets (on 8) (on 8) (0 ∷ 8 ∷ []) X w7 refl refl (λ k e. full_supplied k) 8 w7_meets

-- ---- 13: with two ticks lost nothing is left of X, and so with three

x_thirteen : Thirteen teams (losing 8 0 2) XShared 0
unfolding everything
x_thirteen = (exactly_thirteen teams (losing 8 0 2) XShared _ (verdict_known (losing 8 0 2) []) 0).0 refl

x_thirteen_back : verdict_for (losing 8 0 2) XShared w6 ≡ refused 13 0
unfolding verdict_for
x_thirteen_back = (exactly_thirteen teams (losing 8 0 2) XShared _ (verdict_known (losing 8 0 2) w6) 0).1 x_thirteen

-- nor is rule 3 a rule, are 65,536 ticks lost, or any under rule 1
x_no_rule : verdict_for (on_rule 8 0 1 3 0) XShared w6 ≡ refused 13 0
unfolding everything
x_no_rule =
    (exactly_thirteen teams (on_rule 8 0 1 3 0) XShared _ (verdict_known (on_rule 8 0 1 3 0) w6) 0).1
    (record { whole = refl; present = refl; long = refl; cause = no_such_rule (λ z. omega arith) (λ z. omega arith); at = refl })

x_too_many_lost : verdict_for (losing 8 0 65536) XShared w6 ≡ refused 13 0
unfolding everything
x_too_many_lost =
    (exactly_thirteen teams (losing 8 0 65536) XShared _ (verdict_known (losing 8 0 65536) w6) 0).1
    (record { whole = refl; present = refl; long = refl; cause = too_many_lost (omega arith); at = refl })

x_lost_under_one : verdict_for (on_rule 8 0 1 1 1) XShared w6 ≡ refused 13 0
unfolding everything
x_lost_under_one =
    (exactly_thirteen teams (on_rule 8 0 1 1 1) XShared _ (verdict_known (on_rule 8 0 1 1 1) w6) 0).1
    (record { whole = refl; present = refl; long = refl; cause = lost_under_one refl (omega arith); at = refl })

x_three_lost : shared_fault teams (losing 8 0 3) XShared ≡ fault 13 0
x_three_lost =
    (shared_thirteen teams (losing 8 0 3) XShared 0).1 (more_lost_thirteen (losing 8 0 2) (losing 8 0 3) refl (omega arith) refl refl refl teams XShared 0 x_thirteen)

x_spared : (p : ℕ) → verdict_for (losing 8 0 0) XShared w4 ≡ refused 13 p → ⊥
unfolding verdict_for
x_spared p =
    less_lost_not_thirteen (losing 8 0 0) (losing 8 0 1) refl (omega arith) refl refl refl teams XShared p _ _ (verdict_known (losing 8 0 0) w4) (verdict_known (losing 8 0 1) w4)
    (λ e. let f = sym lost_misses ∙ e in let z : ◌≡◌ {A = ℕ} 0 1 = cc in omega arith)

x_own_thirteen : Thirteen teams (losing 8 0 2) XShared 0
unfolding everything
x_own_thirteen = (own_thirteen teams (losing 8 0 2) XShared 9 0).0 refl

x_no_tick : (k : ℕ) → supplied_by (losing 8 0 2) X k ≡ false
unfolding everything
x_no_tick = (no_tick_left (losing 8 0 2) X refl).0 refl

x_none_left : own_left (losing 8 0 2) XShared ≡ []
unfolding everything
x_none_left = (no_tick_asked teams (losing 8 0 2) XShared refl refl).1 x_no_tick

trace_thirteen : OfTrace trace (Thirteen teams (losing 8 0 2) XShared 0)
unfolding everything
trace_thirteen = (replay_thirteen (losing 8 0 2) XShared w7 trace 0).0 refl

-- W6's file, behind m = 1, rule 2 and two lost ticks
w6_plan_thirteen : OfPlan 3 (1 ∷ 2 ∷ 2 ∷ w6_file) (λ p. Thirteen teams (plan_board p) (as_owned 0 p.windows) 0)
unfolding everything
w6_plan_thirteen = (plan_thirteen 3 (1 ∷ 2 ∷ 2 ∷ w6_file) 0).0 refl

-- a removal that leaves a window of one tick on a board that loses one; and on a board that loses three a window of three
removal_thirteen : EditThirteen teams (losing 8 0 1) 2 (0 ∷ 2 ∷ 0 ∷ 5 ∷ 6 ∷ 0 ∷ []) (1 ∷ 7 ∷ 1 ∷ 7 ∷ 8 ∷ []) (remove 0) 0
unfolding everything
removal_thirteen = (edit_thirteen teams (losing 8 0 1) 2 (0 ∷ 2 ∷ 0 ∷ 5 ∷ 6 ∷ 0 ∷ []) (1 ∷ 7 ∷ 1 ∷ 7 ∷ 8 ∷ []) (remove 0) 0).0 refl

old_table_thirteen : edit_answer teams (losing 4 0 3) 1 (0 ∷ 3 ∷ 0 ∷ []) [] (move 0 0 4) ≡ refused 13 0
unfolding everything
old_table_thirteen =
    (edit_thirteen teams (losing 4 0 3) 1 (0 ∷ 3 ∷ 0 ∷ []) [] (move 0 0 4) 0).1
    (EditThirteen.old_thirteen (omega arith) (record { whole = refl; present = refl; long = refl; cause = none_left refl; at = refl }))

-- ---- W6's file in all forms: with its settings told, a byte left over, m told, and rule 2 without a loss

w6_oldest_form : plan_answer 3 (1 ∷ 1 ∷ 0 ∷ w6_file) ≡ plan_answer 0 w6_file
w6_oldest_form = oldest_form w6_file w6_plan w6_reads

w6_oldest_left_over : (b : ℕ) (rest : List ℕ) → plan_answer 3 (1 ∷ 1 ∷ 0 ∷ (w6_file ++ (b ∷ rest))) ≡ refused 9 16
w6_oldest_left_over b rest = oldest_refused (w6_file ++ (b ∷ rest)) 9 13 (w6_left_over b rest)

-- m = 200 takes two bytes, and X's windows are shorter
w6_m_first : plan_answer 3 (200 ∷ 1 ∷ 1 ∷ 0 ∷ w6_file) ≡ plan_answer 1 (200 ∷ 1 ∷ w6_file)
unfolding number_bytes number_bytes_within
w6_m_first = m_first_form 200 (omega arith) w6_file w6_plan w6_reads

w6_m_left_over : (b : ℕ) (rest : List ℕ) → plan_answer 3 (200 ∷ 1 ∷ 1 ∷ 0 ∷ (w6_file ++ (b ∷ rest))) ≡ refused 9 17
unfolding number_bytes number_bytes_within
w6_m_left_over b rest = (m_first_refused 200 (omega arith) (w6_file ++ (b ∷ rest)) 9 13 (w6_left_over b rest)).1

-- with a byte left over too
w6_two_plan : (rest : List ℕ) → plan_answer 3 (200 ∷ 1 ∷ 1 ∷ 0 ∷ (w6_file ++ rest)) ≡ plan_answer 3 (200 ∷ 1 ∷ 2 ∷ 0 ∷ (w6_file ++ rest))
unfolding number_bytes number_bytes_within
w6_two_plan rest = no_loss_plan 200 (omega arith) (w6_file ++ rest)
