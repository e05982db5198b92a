-- A group of records is answered as its numbers are, so the demands hold for it too
use Rattle.std.specs.Prelude.{ℕ, ◌≤◌, ◌<◌, ◌≡◌, ◌↔◌, List, ℤ, length, get_or}
use Rattle.std.proofs.Common.{sym, ◌∙◌}
use Rattle.std.proofs.Math.Option.{none}
use Rattle.std.specs.declared.option.Option.{Option}
use Rattle.std.specs.declared.result.Result.{Result}
use Rattle.std.specs.declared.result.Result.TheVariants.{Ok, Err}
use Rattle.scope.specs.Ticks.{least_supply}
use Rattle.scope.specs.Windows.{supplied_by}
use Rattle.scope.specs.Tasks.{tasks_of, task_at, demand}
use Rattle.scope.specs.Cycle.{cycle}
use Rattle.scope.specs.Verdict as Verdicts
use Rattle.scope.specs.Jobs.{Job, jobs_of, task_of, deadline, bad_job}
use Rattle.scope.specs.Run.{count_of}
use Rattle.scope.specs.Answers.{Answer.given, Fault.fine, ◌or_else◌, job_list_fault, job_fault, room_fault, demand_answer}
use Rattle.scope.specs.Shared.{own, margin_for, verdict_for, bound_for, run_for, run_out_for}
use Rattle.scope.specs.Demands.{LeastMiss, Under, Way, Served}
use Rattle.tables.specs.declared.board.Board.{Board}
use Rattle.tables.specs.declared.task.Task.{Task}
use Rattle.tables.specs.declared.answer.Refusal.{Refusal}
use Rattle.tables.specs.declared.answer.Verdict.{Verdict}
use Rattle.tables.specs.declared.answer.Verdict.TheVariants.{Meets, Miss}
use Rattle.tables.specs.Told.{board_of, told_amount, told_margin, told_verdict, told_bound}
use Rattle.tables.specs.Determined.{amount_determined, margin_determined, verdict_determined, bound_determined}
use Rattle.machine.specs.declared.run.Ran.{Ran}
use Rattle.machine.specs.declared.run.Ran.TheVariants.{Met}
use Rattle.machine.specs.Told.{told_ran}
use Rattle.machine.specs.Determined.{ran_determined}
use Rattle.machine.specs.Demands.{run_refused, verdict_meets, verdict_miss, meets_runs, meets_every, miss_starves}
use Rattle.records.specs.Numbers.{numbers_of}

-- ---- what an entry answers on records, x, and on their numbers, y, is the same: each promises it

module _ (xs : List Task) where
  pub same_demand : (t : ℕ) (x y : Result ℕ Refusal) → told_amount x ≡ demand_answer (numbers_of xs) t → told_amount y ≡ demand_answer (numbers_of xs) t → x ≡ y
  same_demand t x y p q = amount_determined x y (p ∙ sym q)

  module _ (b : Board) (ws : List ℕ) where
    pub same_margin : (t : ℕ) (x y : Result ℤ Refusal) →
        told_margin x ≡ margin_for (board_of b) ws (numbers_of xs) t → told_margin y ≡ margin_for (board_of b) ws (numbers_of xs) t → x ≡ y
    same_margin t x y p q = margin_determined x y (p ∙ sym q)

    pub same_verdict : (x y : Result Verdict Refusal) → told_verdict x ≡ verdict_for (board_of b) ws (numbers_of xs) →
        told_verdict y ≡ verdict_for (board_of b) ws (numbers_of xs) → x ≡ y
    same_verdict x y p q = verdict_determined x y (p ∙ sym q)

    pub same_bound : (i : ℕ) (x y : Result (Option ℕ) Refusal) →
        told_bound x ≡ bound_for (board_of b) ws (numbers_of xs) i → told_bound y ≡ bound_for (board_of b) ws (numbers_of xs) i → x ≡ y
    same_bound i x y p q = bound_determined x y (p ∙ sym q)

    pub same_run : (n : ℕ) (js : List ℕ) (room : ℕ) (x y : Result Ran Refusal) →
        told_ran x ≡ run_for (board_of b) ws (numbers_of xs) n js room → told_ran y ≡ run_for (board_of b) ws (numbers_of xs) n js room → x ≡ y
    same_run n js room x y p q = ran_determined x y (p ∙ sym q)

-- ---- the demands

-- 1: where `run` refuses, the lent buffer is as it was
pub records_refused : (b : Board) (ws : List ℕ) (xs : List Task) (n : ℕ) (js out left : List ℕ) (r : Result Ran Refusal) →
    told_ran r ≡ run_for (board_of b) ws (numbers_of xs) n js (length out) → left ≡ run_out_for (board_of b) ws (numbers_of xs) n js out →
    (e : Refusal) → r ≡ Err e → left ≡ out
records_refused b ws xs = run_refused b ws (numbers_of xs)

module _ (b : Board) (ws : List ℕ) (xs : List Task) (v : Result Verdict Refusal) (promised : told_verdict v ≡ verdict_for (board_of b) ws (numbers_of xs)) where
  -- (a)
  pub records_meet : (w : Verdicts.Verdict) → told_verdict v ≡ given w → (h : ℕ) →
      (v ≡ Ok (Meets h)) ↔ ((h ≡ cycle b.frame (tasks_of (numbers_of xs)))
      × ((t : ℕ) → demand (tasks_of (numbers_of xs)) t ≤ least_supply (supplied_by (board_of b) (own (board_of b) ws)) b.frame t))
  records_meet = verdict_meets b ws (numbers_of xs) v promised

  -- (b)
  pub records_miss : (w : Verdicts.Verdict) → told_verdict v ≡ given w → (t s d p : ℕ) →
      (v ≡ Ok (Miss t s d p)) ↔ LeastMiss (supplied_by (board_of b) (own (board_of b) ws)) b.frame (tasks_of (numbers_of xs)) t s d p
  records_miss = verdict_miss b ws (numbers_of xs) v promised

  -- (c)
  pub records_run : (h : ℕ) → v ≡ Ok (Meets h) →
      (n : ℕ) (js out left : List ℕ) (r : Result Ran Refusal) →
      told_ran r ≡ run_for (board_of b) ws (numbers_of xs) n js (length out) → left ≡ run_out_for (board_of b) ws (numbers_of xs) n js out →
      (job_list_fault n js or_else job_fault (tasks_of (numbers_of xs)) n (jobs_of js) or_else room_fault (length (jobs_of js)) (length out)) ≡ fine →
      ((backlog : ℕ) × (r ≡ Ok (Met backlog)))
      × ((j : ℕ) → j < length (jobs_of js) → deadline (tasks_of (numbers_of xs)) (jobs_of js) j ≤ n →
      (1 ≤ get_or left j 0) × (get_or left j 0 ≤ (task_at (tasks_of (numbers_of xs)) (task_of (jobs_of js) j)).D))
  records_run = meets_runs b ws (numbers_of xs) v promised

  pub records_every : (h : ℕ) → v ≡ Ok (Meets h) →
      (n : ℕ) (js : List Job) → bad_job (tasks_of (numbers_of xs)) n js ≡ none →
      (left : ℕ → List ℕ) → Under (supplied_by (board_of b) (own (board_of b) ws)) js (deadline (tasks_of (numbers_of xs)) js) left →
      (j : ℕ) → j < length js → deadline (tasks_of (numbers_of xs)) js j ≤ n →
      (get_or (left (deadline (tasks_of (numbers_of xs)) js j)) j 0 ≡ 0)
      × (1 ≤ count_of left js n j) × (count_of left js n j ≤ (task_at (tasks_of (numbers_of xs)) (task_of js j)).D)
  records_every = meets_every b ws (numbers_of xs) v promised

  -- (d)
  pub records_starve : (t s d p : ℕ) → v ≡ Ok (Miss t s d p) → (w : Way) → Served (supplied_by (board_of b) (own (board_of b) ws)) (tasks_of (numbers_of xs)) w s t → ⊥
  records_starve = miss_starves b ws (numbers_of xs) v promised
