-- Request 2's sentences, of what `replay` answers. The premise is what it promises
use Rattle.std.specs.Prelude.{◌≡◌, ℕ, ◌-◌, ◌<◌, ◌≤◌, List, length, ◌≢◌}
use Rattle.std.proofs.Math.Path.{sym, ap}
use Rattle.std.proofs.Common.{◌∙◌}
use Rattle.std.proofs.Math.Option.{none}
use Rattle.scope.specs.Limits.{teams, most_ticks, most_jobs}
use Rattle.scope.specs.Windows.{supplied_by}
use Rattle.scope.specs.Tasks.{tasks_of}
use Rattle.scope.specs.Jobs.{Job, release_of, bad_job}
use Rattle.scope.specs.Machine.{edf}
use Rattle.scope.specs.Run as Runs
use Rattle.scope.specs.Run.{outcome}
use Rattle.scope.specs.Verdict as Verdicts
use Rattle.scope.specs.Answers.{Fault.fine, Answer.given, table_fault, group_fault, verdict_answer}
use Rattle.scope.specs.Plan.{Read.read}
use Rattle.scope.specs.Trace.{Stamped, trace_of, timed, ticks_of, releases, completions, trace_bytes, stamped_from, shifted}
use Rattle.scope.specs.Replay as Replays
use Rattle.scope.specs.Replay.{ended_from, replay_answer}
use Rattle.scope.specs.Shared.{own as windowsOwn, shared_fault, verdict_for, records_for, replay_for}
use Rattle.theory.specs.Shared.{own_fine, asked_given}
use Rattle.theory.specs.Alone.{replay_own, replay_asked}
use Rattle.theory.specs.Traces.{shift_same}
use Rattle.theory.specs.Replays.{replay_given, same_completions, replayed_sides, meets_no_miss}
use Rattle.theory.specs.Recorded.{own, recorded_same, recorded_met, recorded_missed}
use Rattle.tables.specs.declared.board.Board.{Board}
use Rattle.tables.specs.declared.answer.Verdict.{Verdict}
use Rattle.tables.specs.declared.answer.Verdict.TheVariants.{Meets}
use Rattle.tables.specs.Told.{board_of, told_verdict}
use Rattle.std.specs.declared.option.Option.TheVariants.{None}
use Rattle.std.specs.declared.result.Result.{Result}
use Rattle.std.specs.declared.result.Result.TheVariants.{Ok}
use Rattle.tables.specs.declared.answer.Refusal.{Refusal}
use Rattle.replay.specs.declared.replay.Replayed as replayed
use Rattle.replay.specs.Told.{told_replayed}
use Rattle.replay.specs.Determined.{replayed_determined}

-- the asked owner's windows
abbrev pub mine : Board → List ℕ → List ℕ
mine b ws = windowsOwn (board_of b) ws

module _ (b : Board) (ws ts bytes : List ℕ) (v : Result replayed.Replayed Refusal) (promised : told_replayed v ≡ replay_for (board_of b) ws ts bytes) where
  -- the list is legal, and its owner's windows get the answer
  answers : (r : Replays.Replayed) → told_replayed v ≡ given r → (shared_fault teams (board_of b) ws ≡ fine) × (replay_answer (board_of b) (mine b ws) ts bytes ≡ given r)
  answers r e = replay_asked (board_of b) ws ts bytes r (sym promised ∙ e)

  -- "same": the trace's completions are the machine's up to the last instant, and no deadline was missed by then
  pub same_says : v ≡ Ok replayed.TheVariants.Same → (stamped : List Stamped) (end : ℕ) → trace_of bytes ≡ read stamped end →
      let rs = timed stamped in
      let js = releases rs in
      (completions rs ≡ ended_from (supplied_by (board_of b) (mine b ws)) (edf (tasks_of ts) js) js 0 (ticks_of rs - 1))
      × (outcome (supplied_by (board_of b) (mine b ws)) (edf (tasks_of ts) js) (tasks_of ts) js (ticks_of rs - 1) ≡ Runs.met)
  same_says e stamped end reads =
      let r = replay_given (board_of b) (mine b ws) ts bytes Replays.same (answers Replays.same (ap told_replayed e)).1 in
      let q : read r.stamped r.end ≡ read stamped end = sym r.reads ∙ reads in
      let z : r.stamped ≡ stamped = cc in
      rw (← z) (same_completions (board_of b) (mine b ws) ts bytes r)

  -- a difference has a side
  pub some_side : v ≡ Ok (replayed.TheVariants.Differs None None) → ⊥
  some_side e =
      let r = replay_given (board_of b) (mine b ws) ts bytes (Replays.differs none none) (answers (Replays.differs none none) (ap told_replayed e)).1 in
      replayed_sides (supplied_by (board_of b) (mine b ws)) _ (tasks_of ts) (timed r.stamped) r.is

  -- where the verdict is "meets", no trace answers with a miss
  pub meets_never_missed : (u : Result Verdict Refusal) → told_verdict u ≡ verdict_for (board_of b) ws ts → (h k j : ℕ) → u ≡ Ok (Meets h) →
      v ≢ Ok (replayed.TheVariants.Missed k j)
  unfolding verdict_for
  meets_never_missed u told h k j met e =
      meets_no_miss (board_of b) (mine b ws) ts bytes h k j
      (asked_given teams (board_of b) ws (λ l. verdict_answer (board_of b) l ts) (Verdicts.meets h) (sym told ∙ ap told_verdict met)).1
      (answers (Replays.missed k j) (ap told_replayed e)).1

  -- where the counter stood does not matter: stamps later by any constant get the same answer
  pub shifted_same : (c : ℕ) (stamped : List Stamped) (end : ℕ) → trace_of bytes ≡ read stamped end →
      (bytes' : List ℕ) (end' : ℕ) → trace_of bytes' ≡ read (shifted c stamped) end' →
      (w : Result replayed.Replayed Refusal) → told_replayed w ≡ replay_for (board_of b) ws ts bytes' → w ≡ v
  unfolding replay_for
  shifted_same c stamped end reads bytes' end' reads' w told =
      replayed_determined w v (told ∙ shift_same bytes stamped end reads c bytes' end' reads' (records_for (board_of b) ws ts) ∙ sym promised)

-- the machine's own run of a legal job list whose first release is at tick 0, recorded by a counter that shows c at its start
module _ (b : Board) (ws ts : List ℕ) (table : shared_fault teams (board_of b) ws ≡ fine) (group : group_fault ts ≡ fine)
    (js : List Job) (n : ℕ) (legal : bad_job (tasks_of ts) n js ≡ none) (few : length js ≤ most_jobs) (some : 0 < length js) (start : release_of js 0 ≡ 0) where
  pub mine_fine : table_fault (board_of b) (mine b ws) ≡ fine
  mine_fine = own_fine teams (board_of b) ws table

  module _ (ticks : ticks_of (own (board_of b) (mine b ws) ts mine_fine group js n legal few some start) ≤ most_ticks) (c : ℕ) (v : Result replayed.Replayed Refusal)
      (promised : told_replayed v ≡
      replay_for (board_of b) ws ts (trace_bytes (stamped_from c (own (board_of b) (mine b ws) ts mine_fine group js n legal few some start)))) where
    -- the machine up to the last record's instant
    abbrev pub ran_to : Runs.Outcome
    ran_to =
        outcome (supplied_by (board_of b) (mine b ws)) (edf (tasks_of ts) js) (tasks_of ts) js (ticks_of (own (board_of b) (mine b ws) ts mine_fine group js n legal few some start) - 1)

    -- is the same where nothing is missed up to its last record's instant
    pub own_same : ran_to ≡ Runs.met → v ≡ Ok replayed.TheVariants.Same
    own_same e =
        replayed_determined v (Ok replayed.TheVariants.Same)
        (promised ∙ replay_own (board_of b) ws ts _ table ∙ recorded_same (board_of b) (mine b ws) ts mine_fine group js n legal few some start ticks c e)

    -- so where the run is met
    pub own_met : outcome (supplied_by (board_of b) (mine b ws)) (edf (tasks_of ts) js) (tasks_of ts) js n ≡ Runs.met → v ≡ Ok replayed.TheVariants.Same
    own_met e =
        replayed_determined v (Ok replayed.TheVariants.Same)
        (promised ∙ replay_own (board_of b) ws ts _ table ∙ recorded_met (board_of b) (mine b ws) ts mine_fine group js n legal few some start ticks c e)

    -- and answers the miss up to its last record's instant
    pub own_missed : (k j : ℕ) → ran_to ≡ Runs.missed k j → v ≡ Ok (replayed.TheVariants.Missed k j)
    own_missed k j e =
        replayed_determined v (Ok (replayed.TheVariants.Missed k j))
        (promised ∙ replay_own (board_of b) ws ts _ table ∙ recorded_missed (board_of b) (mine b ws) ts mine_fine group js n legal few some start ticks c k j e)
