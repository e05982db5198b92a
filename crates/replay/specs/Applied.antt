-- Request 2's theorems at its examples, of what `replay` answers on them
use Rattle.std.specs.Prelude.{◌≡◌, ℕ, ◌-◌, List, ◌≢◌, refl}
use Rattle.std.proofs.Common.{◌∙◌, arith}
use Rattle.scope.specs.Windows.{supplied_by}
use Rattle.scope.specs.Tasks.{tasks_of}
use Rattle.scope.specs.Machine.{edf}
use Rattle.scope.specs.Run as Runs
use Rattle.scope.specs.Run.{outcome}
use Rattle.scope.specs.Trace.{timed, ticks_of, releases, completions, trace_bytes, stamped_from}
use Rattle.scope.specs.Replay.{ended_from, recorded, replay_answer}
use Rattle.scope.specs.Shared.{verdict_for, replay_for}
use Rattle.scope.specs.Computing.{everything}
use Rattle.scope.specs.Examples.{X, XShared}
use Rattle.theory.specs.Alone.{replay_own}
use Rattle.theory.specs.Applied.{w7, trace, trace_stamps, trace_reads, trace_same, wrapped, wrapped_reads, full_jobs_lem, late_tasks, late_jobs}
use Rattle.std.specs.declared.result.Result.{Result}
use Rattle.std.specs.declared.result.Result.TheVariants.{Ok}
use Rattle.tables.specs.declared.answer.Refusal.{Refusal}
use Rattle.tables.specs.declared.board.Board.{Board}
use Rattle.tables.specs.declared.answer.Verdict.{Verdict}
use Rattle.tables.specs.declared.answer.Verdict.TheVariants.{Meets}
use Rattle.tables.specs.Told.{board_of, told_verdict}
use Rattle.replay.specs.declared.replay.Replayed.{Replayed}
use Rattle.replay.specs.declared.replay.Replayed.TheVariants.{Same, Missed}
use Rattle.replay.specs.Told.{told_replayed}
use Rattle.replay.specs.Determined.{replayed_determined}
use Rattle.replay.specs.Demands.{same_says, meets_never_missed, shifted_same, own_same, own_met, own_missed}

abbrev board : Board
board = record { frame = 8; owner = 0; shortest = 1; rule = 1; lost = 0 }

-- owner 0's windows are X, whatever owner 1's are
x_shared : (ts bytes : List ℕ) → replay_for (board_of board) XShared ts bytes ≡ replay_answer (board_of board) X ts bytes
unfolding everything
x_shared ts bytes = replay_own (board_of board) XShared ts bytes refl

-- W7's trace is told as the same, and what that says
trace_told : (v : Result Replayed Refusal) → told_replayed v ≡ replay_for (board_of board) XShared w7 trace → v ≡ Ok Same
trace_told v e = replayed_determined v (Ok Same) (e ∙ x_shared w7 trace ∙ trace_same)

trace_says : (v : Result Replayed Refusal) → told_replayed v ≡ replay_for (board_of board) XShared w7 trace →
    let rs = timed trace_stamps in
    let js = releases rs in
    (completions rs ≡ ended_from (supplied_by (board_of board) X) (edf (tasks_of w7) js) js 0 (ticks_of rs - 1))
    × (outcome (supplied_by (board_of board) X) (edf (tasks_of w7) js) (tasks_of w7) js (ticks_of rs - 1) ≡ Runs.met)
unfolding everything
trace_says v e = same_says board XShared w7 trace v e (trace_told v e) trace_stamps 14 trace_reads

-- so is the one whose counter goes past its top
wrapped_told : (v w : Result Replayed Refusal) → told_replayed v ≡ replay_for (board_of board) XShared w7 trace →
    told_replayed w ≡ replay_for (board_of board) XShared w7 wrapped → w ≡ v
wrapped_told v w e = shifted_same board XShared w7 trace v e 4294967194 trace_stamps 14 trace_reads wrapped 26 wrapped_reads w

-- W7 meets, so none of its traces is told a miss
w7_never_missed : (bytes : List ℕ) (v : Result Replayed Refusal) → told_replayed v ≡ replay_for (board_of board) XShared w7 bytes →
    (u : Result Verdict Refusal) → told_verdict u ≡ verdict_for (board_of board) XShared w7 → (h k j : ℕ) → u ≡ Ok (Meets h) → v ≢ Ok (Missed k j)
w7_never_missed bytes v e = meets_never_missed board XShared w7 bytes v e

-- the machine's own runs: met, by a counter that goes past its top; with a miss after the last record; with one up to it
full_told : (v : Result Replayed Refusal) → told_replayed v ≡ replay_for (board_of board) XShared w7
    (trace_bytes (stamped_from 4294967294 (recorded (supplied_by (board_of board) X) (edf (tasks_of w7) full_jobs_lem) (tasks_of w7) full_jobs_lem 10))) → v ≡ Ok Same
unfolding everything
full_told v e = own_met board XShared w7 refl refl full_jobs_lem 10 refl (omega arith) (omega arith) refl (omega arith) 4294967294 v e refl

early_told : (v : Result Replayed Refusal) → told_replayed v ≡ replay_for (board_of board) XShared late_tasks
    (trace_bytes (stamped_from 100 (recorded (supplied_by (board_of board) X) (edf (tasks_of late_tasks) full_jobs_lem) (tasks_of late_tasks) full_jobs_lem 10))) →
    v ≡ Ok Same
unfolding everything
early_told v e = own_same board XShared late_tasks refl refl full_jobs_lem 10 refl (omega arith) (omega arith) refl (omega arith) 100 v e refl

late_told : (v : Result Replayed Refusal) → told_replayed v ≡ replay_for (board_of board) XShared late_tasks
    (trace_bytes (stamped_from 100 (recorded (supplied_by (board_of board) X) (edf (tasks_of late_tasks) late_jobs) (tasks_of late_tasks) late_jobs 10))) →
    v ≡ Ok (Missed 5 1)
unfolding everything
late_told v e = own_missed board XShared late_tasks refl refl late_jobs 10 refl (omega arith) (omega arith) refl (omega arith) 100 v e 5 1 refl
