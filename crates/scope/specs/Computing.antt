-- What computes: to unfold one of these is to unfold the definitions that its line names, and to unfold `everything` is to unfold them all
use Rattle.scope.specs.Numbers.{sum, least, greatest, all, first_by, listed, keep, pieces_from, pieces, bad_count, written}
use Rattle.scope.specs.Ticks.{supply, least_supply, least_start}
use Rattle.scope.specs.Windows.{gives, covers, supplied, window_legal, bad_window}
use Rattle.scope.specs.Partition.{rises, within, edge, maximal_runs, critical, lag, delay, outage_from, outage}
use Rattle.scope.specs.Tasks.{task_legal, bad_task, task_demand, demand, margin}
use Rattle.scope.specs.Cycle.{gcd_within, gcd, lcm, cycle}
use Rattle.scope.specs.Verdict.{violates, verdict}
use Rattle.scope.specs.Bound.{asked, suffices, response}
use Rattle.scope.specs.Jobs.{job_legal, bad_job}
use Rattle.scope.specs.Machine.{pending, tick, work_left}
use Rattle.scope.specs.Run.{late, outcome, backlog_in, backlog, count_of, ran, counts}
use Rattle.scope.specs.Answers.{window_list_fault, frame_fault, window_fault, table_fault, length_fault, room_fault, critical_fault, task_list_fault, task_fault}
use Rattle.scope.specs.Answers.{group_fault, cycle_fault, absent_fault, job_list_fault, job_fault, run_fault, shortest_fault, rule_fault, board_answer, window_answer, task_answer}
use Rattle.scope.specs.Answers.{supplied_answer, length_answer, run_ticks_answer, least_supply_answer, critical_answer, critical_out, delay_answer, outage_answer}
use Rattle.scope.specs.Answers.{demand_answer}
use Rattle.scope.specs.Answers.{margin_answer, verdict_answer, bound_answer, run_answer, run_out}
use Rattle.scope.specs.Plan.{groups, well_formed, read_number, read_numbers, rest_fault, counted_from, lists_from, plan_from, plan_of}
use Rattle.scope.specs.Plan.{number_bytes_within, number_bytes, numbers_bytes, plan_bytes, write_fault, write_answer, write_out}
use Rattle.scope.specs.Line.{decimal_within, decimal, line, line_answer, line_out}
use Rattle.scope.specs.Trace.{read_record, records_within, trace_of, elapsed, timed_from, last_instant, releases, completions, record_legal, bad_record}
use Rattle.scope.specs.Trace.{record_bytes, trace_bytes}
use Rattle.scope.specs.Replay.{ends, ended_in, ended_from, released_at, recorded_to, first_difference, replayed, extent_fault, record_fault, replay_fault}
use Rattle.scope.specs.Replay.{records_answer, replay_answer}
use Rattle.scope.specs.Shared.{windows_for, left_of, as_owned, follows, owned_legal, bad_owned, owned_list_fault, owned_fault, whole_fault, absent_owner_fault}
use Rattle.scope.specs.Shared.{sliver, first_sliver, sliver_fault, lost_fault, shared_fault}
use Rattle.scope.specs.Shared.{owned_answer, own_fault, own_answer, own_out, as_owned_answer, as_owned_out}
use Rattle.scope.specs.Shared.{asked_for, supplied_for, least_supply_for, critical_for, critical_out_for, delay_for, outage_for, margin_for, verdict_for, bound_for}
use Rattle.scope.specs.Shared.{run_for, run_out_for, records_for, replay_for, plan_answer}
use Rattle.scope.specs.Summary.{summary_of, make_fault, make_answer, make_out, begins, summary_fault, ticks_before, least_from, least_from_answer, margin_from}
use Rattle.scope.specs.Summary.{lengths_fault, margins_fault, margins_answer, margins_out, make_for, make_out_for, least_from_for, margins_for, margins_out_for}
use Rattle.scope.specs.Summary.{edited, index_fault, count_fault, edit_fault, edit_answer, edit_windows, edit_summary}
use Rattle.scope.specs.Demands.{due_within, full_jobs_in, full_jobs, given_to}

unfoldable pub numbers·compute : Unit {0}
unfolding sum least greatest all first_by listed keep pieces_from pieces bad_count written
numbers·compute = tt

unfoldable pub tables·compute : Unit {0}
unfolding supply least_supply least_start gives covers supplied window_legal bad_window
tables·compute = tt

unfoldable pub partitions·compute : Unit {0}
unfolding rises within edge maximal_runs critical lag delay outage_from outage
partitions·compute = tt

unfoldable pub tests·compute : Unit {0}
unfolding task_legal bad_task task_demand demand margin gcd_within gcd lcm cycle violates verdict asked suffices response
tests·compute = tt

unfoldable pub runs·compute : Unit {0}
unfolding job_legal bad_job pending tick work_left late outcome backlog_in backlog count_of ran counts
runs·compute = tt

unfoldable pub table_faults·compute : Unit {0}
unfolding window_list_fault frame_fault window_fault table_fault length_fault room_fault critical_fault
table_faults·compute = tt

unfoldable pub group_faults·compute : Unit {0}
unfolding task_list_fault task_fault group_fault cycle_fault absent_fault job_list_fault job_fault run_fault
group_faults·compute = tt

unfoldable pub constructors·compute : Unit {0}
unfolding shortest_fault rule_fault board_answer window_answer task_answer length_answer run_ticks_answer
constructors·compute = tt

unfoldable pub table_answers·compute : Unit {0}
unfolding supplied_answer least_supply_answer critical_answer critical_out delay_answer outage_answer
table_answers·compute = tt

unfoldable pub group_answers·compute : Unit {0}
unfolding demand_answer margin_answer verdict_answer bound_answer run_answer run_out
group_answers·compute = tt

unfoldable pub reading·compute : Unit {0}
unfolding groups well_formed read_number read_numbers rest_fault counted_from lists_from plan_from plan_of
reading·compute = tt

unfoldable pub writing·compute : Unit {0}
unfolding number_bytes_within number_bytes numbers_bytes plan_bytes write_fault write_answer write_out decimal_within decimal line line_answer line_out
writing·compute = tt

unfoldable pub traces·compute : Unit {0}
unfolding read_record records_within trace_of elapsed timed_from last_instant releases completions record_legal bad_record record_bytes trace_bytes
traces·compute = tt

unfoldable pub replays·compute : Unit {0}
unfolding ends ended_in ended_from released_at recorded_to first_difference replayed extent_fault record_fault replay_fault records_answer replay_answer
replays·compute = tt

unfoldable pub shared_faults·compute : Unit {0}
unfolding windows_for left_of as_owned follows owned_legal bad_owned owned_list_fault owned_fault whole_fault absent_owner_fault sliver first_sliver sliver_fault lost_fault shared_fault owned_answer own_fault own_answer own_out as_owned_answer as_owned_out asked_for
shared_faults·compute = tt

unfoldable pub shared_answers·compute : Unit {0}
unfolding supplied_for least_supply_for critical_for critical_out_for delay_for outage_for margin_for verdict_for bound_for run_for run_out_for records_for replay_for plan_answer
shared_answers·compute = tt

unfoldable pub summaries·compute : Unit {0}
unfolding summary_of make_fault make_answer make_out begins summary_fault ticks_before least_from least_from_answer margin_from lengths_fault margins_fault margins_answer margins_out make_for make_out_for least_from_for margins_for margins_out_for
summaries·compute = tt

unfoldable pub edits·compute : Unit {0}
unfolding edited index_fault count_fault edit_fault edit_answer edit_windows edit_summary
edits·compute = tt

unfoldable pub demands·compute : Unit {0}
unfolding due_within full_jobs_in full_jobs given_to
demands·compute = tt

unfoldable pub amounts·compute : Unit {0}
unfolding numbers·compute tables·compute partitions·compute tests·compute runs·compute
amounts·compute = tt

unfoldable pub answers·compute : Unit {0}
unfolding table_faults·compute group_faults·compute constructors·compute table_answers·compute group_answers·compute
answers·compute = tt

unfoldable pub everything : Unit {0}
unfolding amounts·compute answers·compute reading·compute writing·compute traces·compute replays·compute demands·compute shared_faults·compute shared_answers·compute summaries·compute edits·compute
everything = tt
