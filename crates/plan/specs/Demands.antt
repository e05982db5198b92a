-- The demands, of what the three readers of plan files answer: once, over how many settings the file has. The premises are what they promise, and
-- that the file is a plan
use Rattle.std.specs.Prelude.{ℕ, ◌≤◌, ◌<◌, ◌≡◌, refl, ◌↔◌, List, length, get_or}
use Rattle.std.proofs.Common.{◌∙◌, arith}
use Rattle.std.proofs.Math.Option.{none}
use Rattle.scope.specs.Limits.{teams}
use Rattle.scope.specs.Ticks.{least_supply}
use Rattle.scope.specs.Windows.{supplied_by}
use Rattle.scope.specs.Tasks.{tasks_of, task_at, demand}
use Rattle.scope.specs.Cycle.{cycle}
use Rattle.scope.specs.Verdict as Verdicts
use Rattle.scope.specs.Jobs.{Job, jobs_of, task_of, deadline, bad_job}
use Rattle.scope.specs.Run.{count_of}
use Rattle.scope.specs.Answers.{Answer.given, Fault.fine, ◌or_else◌, job_list_fault, job_fault, room_fault, verdict_answer}
use Rattle.scope.specs.Shared.{own, as_owned, verdict_for, run_for, run_out_for, plan_board, plan_answer}
use Rattle.theory.specs.Answers.{window_list_legal}
use Rattle.theory.specs.PlanBytes.{read_writable}
use Rattle.theory.specs.Alone.{verdict_entry, own_pairs, one_owner}
use Rattle.theory.specs.Shortest.{Twelve, OfPlan, plan_twelve}
use Rattle.theory.specs.Thirteen.{Thirteen, plan_thirteen}
use Rattle.scope.specs.Plan.{Plan, plan_of}
use Rattle.scope.specs.Demands.{LeastMiss, Under, Way, Served}
use Rattle.std.specs.declared.result.Result.{Result}
use Rattle.std.specs.declared.result.Result.TheVariants.{Ok, Err}
use Rattle.tables.specs.declared.board.Board.{Board}
use Rattle.tables.specs.declared.answer.Refusal.{Refusal}
use Rattle.tables.specs.declared.answer.Refusal.TheVariants.{Sliver, Loss}
use Rattle.tables.specs.declared.answer.Verdict.{Verdict}
use Rattle.tables.specs.declared.answer.Verdict.TheVariants.{Meets, Miss}
use Rattle.tables.specs.Told.{board_of, told_verdict}
use Rattle.tables.specs.Determined.{verdict_determined}
use Rattle.tables.specs.Refused.{told_refused}
use Rattle.machine.specs.declared.run.Ran.{Ran}
use Rattle.machine.specs.declared.run.Ran.TheVariants.{Met}
use Rattle.machine.specs.Told.{told_ran}
use Rattle.machine.specs.Demands.{verdict_meets, verdict_miss, meets_runs, meets_every, miss_starves}

-- the board of a plan, and its windows as the entries take them: its pairs are owner 0's
abbrev pub asked_board : Plan → Board
asked_board p = record {
  frame = p.frame;
  owner = 0;
  shortest = get_or p.settings 0 1;
  rule = get_or p.settings 1 1;
  lost = get_or p.settings 2 0;
}

abbrev pub asked_windows : Plan → List ℕ
asked_windows p = as_owned 0 p.windows

module _ (k : ℕ) (bytes : List ℕ) (p : Plan) (read : plan_of k bytes ≡ given p) (v : Result Verdict Refusal) (promised : told_verdict v ≡ plan_answer k bytes) where
  -- a plan that was read is answered as `verdict` answers owner 0 on its windows
  pub plan_asked : told_verdict v ≡ verdict_for (board_of (asked_board p)) (asked_windows p) p.tasks
  unfolding plan_answer
  plan_asked = promised ∙ rw read

  -- which are the plan's
  plan_own : own (board_of (asked_board p)) (asked_windows p) ≡ p.windows
  plan_own =
      own_pairs teams (board_of (asked_board p)) (omega arith) p.windows (omega (arith, window_list_legal p.windows (read_writable k bytes p read).window_list))

  -- with a shortest window of 1, rule 1 and nothing lost they are answered as document 01 has it
  pub plan_verdict : get_or p.settings 0 1 ≡ 1 → get_or p.settings 1 1 ≡ 1 → get_or p.settings 2 0 ≡ 0 → told_verdict v ≡ verdict_answer (board_of (asked_board p)) p.windows p.tasks
  unfolding verdict_for
  plan_verdict one rule lost = plan_asked ∙ one_owner teams (board_of (asked_board p)) (omega arith) p.windows one rule lost (verdict_entry p.tasks)

  -- (a)
  pub plan_meets : (w : Verdicts.Verdict) → told_verdict v ≡ given w → (h : ℕ) →
      (v ≡ Ok (Meets h)) ↔ ((h ≡ cycle p.frame (tasks_of p.tasks))
      × ((t : ℕ) → demand (tasks_of p.tasks) t ≤ least_supply (supplied_by (board_of (asked_board p)) p.windows) p.frame t))
  plan_meets w e = rw plan_own at (verdict_meets (asked_board p) (asked_windows p) p.tasks v plan_asked w e)

  -- (b)
  pub plan_miss : (w : Verdicts.Verdict) → told_verdict v ≡ given w → (t s d u : ℕ) →
      (v ≡ Ok (Miss t s d u)) ↔ LeastMiss (supplied_by (board_of (asked_board p)) p.windows) p.frame (tasks_of p.tasks) t s d u
  plan_miss w e = rw plan_own at (verdict_miss (asked_board p) (asked_windows p) p.tasks v plan_asked w e)

  -- (c)
  pub plan_runs : (h : ℕ) → v ≡ Ok (Meets h) →
      (n : ℕ) (js out left : List ℕ) (r : Result Ran Refusal) →
      told_ran r ≡ run_for (board_of (asked_board p)) (asked_windows p) p.tasks n js (length out) →
      left ≡ run_out_for (board_of (asked_board p)) (asked_windows p) p.tasks n js out →
      (job_list_fault n js or_else job_fault (tasks_of p.tasks) n (jobs_of js) or_else room_fault (length (jobs_of js)) (length out)) ≡ fine →
      ((backlog : ℕ) × (r ≡ Ok (Met backlog)))
      × ((j : ℕ) → j < length (jobs_of js) → deadline (tasks_of p.tasks) (jobs_of js) j ≤ n →
      (1 ≤ get_or left j 0) × (get_or left j 0 ≤ (task_at (tasks_of p.tasks) (task_of (jobs_of js) j)).D))
  plan_runs = meets_runs (asked_board p) (asked_windows p) p.tasks v plan_asked

  pub plan_every : (h : ℕ) → v ≡ Ok (Meets h) →
      (n : ℕ) (js : List Job) → bad_job (tasks_of p.tasks) n js ≡ none →
      (left : ℕ → List ℕ) → Under (supplied_by (board_of (asked_board p)) p.windows) js (deadline (tasks_of p.tasks) js) left →
      (j : ℕ) → j < length js → deadline (tasks_of p.tasks) js j ≤ n →
      (get_or (left (deadline (tasks_of p.tasks) js j)) j 0 ≡ 0)
      × (1 ≤ count_of left js n j) × (count_of left js n j ≤ (task_at (tasks_of p.tasks) (task_of js j)).D)
  plan_every h m = rw plan_own at (meets_every (asked_board p) (asked_windows p) p.tasks v plan_asked h m)

  -- (d)
  pub plan_starves : (t s d u : ℕ) → v ≡ Ok (Miss t s d u) →
      (w : Way) → Served (supplied_by (board_of (asked_board p)) p.windows) (tasks_of p.tasks) w s t → ⊥
  plan_starves t s d u m =
      rw plan_own at (miss_starves (asked_board p) (asked_windows p) p.tasks v plan_asked t s d u m)

-- requests 5 and 7: 12 and 13 exactly when the file reads to a plan whose windows and settings are refused so
module _ (k : ℕ) (bytes : List ℕ) (v : Result Verdict Refusal) (promised : told_verdict v ≡ plan_answer k bytes) where
  pub plan_sliver : (p : ℕ) → (v ≡ Err (Sliver p)) ↔ OfPlan k bytes (λ q. Twelve teams (plan_board q) (as_owned 0 q.windows) p)
  plan_sliver p = told_refused told_verdict Err (λ r. refl) verdict_determined (Sliver p) v promised (plan_twelve k bytes p)

  pub plan_loss : (v ≡ Err Loss) ↔ OfPlan k bytes (λ q. Thirteen teams (plan_board q) (as_owned 0 q.windows) 0)
  plan_loss = told_refused told_verdict Err (λ r. refl) verdict_determined Loss v promised (plan_thirteen k bytes 0)
