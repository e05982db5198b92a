-- The demands, of what `verdict` and `run` answer an owner of a table that teams share. The premises are what the two promise, whether they refused, and
-- of a run that it is legal; the conclusions are of the supply that the owner's windows give
use Rattle.std.specs.Prelude.{ℕ, ◌≤◌, ◌<◌, ◌≡◌, ◌↔◌, List, length, get_or}
use Rattle.std.proofs.Common.{sym, ap, ◌∙◌}
use Rattle.std.proofs.Math.Option.{none}
use Rattle.std.specs.declared.result.Result.{Result}
use Rattle.std.specs.declared.result.Result.TheVariants.{Ok, Err}
use Rattle.scope.specs.Limits.{teams}
use Rattle.scope.specs.Ticks.{least_supply}
use Rattle.scope.specs.Windows.{supplied_by}
use Rattle.scope.specs.Tasks.{tasks_of, task_at, demand}
use Rattle.scope.specs.Cycle.{cycle}
use Rattle.scope.specs.Verdict as Verdicts
use Rattle.scope.specs.Jobs.{Job, jobs_of, task_of, deadline, bad_job}
use Rattle.scope.specs.Machine.{edf}
use Rattle.scope.specs.Run.{backlog, count_of, ran, counts}
use Rattle.scope.specs.Answers.{Answer.given, Answer.refused, Fault, Fault.fine, ◌or_else◌, table_fault, group_fault, cycle_fault, job_list_fault, job_fault, room_fault}
use Rattle.scope.specs.Answers.{verdict_answer, run_fault, run_answer, run_out}
use Rattle.scope.specs.Shared.{own, kept, shared_fault, verdict_for, run_for, run_out_for}
use Rattle.scope.specs.Demands.{LeastMiss, Under, Way, Served}
use Rattle.theory.specs.Answers.{fault_at_fine, or_else_fine, unless_given}
use Rattle.theory.specs.Buffers.{written_at}
use Rattle.theory.specs.Run.{listed_length}
use Rattle.theory.specs.Exact.{exact_meets, exact_miss}
use Rattle.theory.specs.Edf.{edf_meets, edf_every}
use Rattle.theory.specs.Starved.{starved}
use Rattle.theory.specs.Shared.{asked_fine, asked_given}
use Rattle.theory.specs.Refused.{run_kept, asked_kept}
use Rattle.tables.specs.declared.board.Board.{Board}
use Rattle.tables.specs.declared.answer.Refusal.{Refusal}
use Rattle.tables.specs.declared.answer.Verdict.{Verdict}
use Rattle.tables.specs.declared.answer.Verdict.TheVariants.{Meets, Miss}
use Rattle.tables.specs.Told.{number, place, board_of, told_verdict}
use Rattle.tables.specs.Determined.{verdict_determined}
use Rattle.machine.specs.declared.run.Ran.{Ran}
use Rattle.machine.specs.declared.run.Ran.TheVariants.{Met}
use Rattle.machine.specs.Told.{told_ran}
use Rattle.machine.specs.Determined.{ran_determined}

-- demand 1: where `run` refuses, the lent buffer is as it was
pub run_refused : (b : Board) (ws ts : List ℕ) (n : ℕ) (js out left : List ℕ) (r : Result Ran Refusal) →
    told_ran r ≡ run_for (board_of b) ws ts n js (length out) → left ≡ run_out_for (board_of b) ws ts n js out →
    (e : Refusal) → r ≡ Err e → left ≡ out
unfolding run_for run_out_for
run_refused b ws ts n js out left r told wrote e is =
    wrote ∙ asked_kept (number e) (place e) teams (board_of b) ws (λ windows. run_answer (board_of b) windows ts n js (length out))
    (λ windows. run_out (board_of b) windows ts n js out) out (λ windows. run_kept (number e) (place e) (board_of b) windows ts n js out)
    (sym told ∙ ap told_ran is)

given_is : {A : Type 0} {x y : A} → given x ≡ given y → x ≡ y
given_is e = cc

module _ (b : Board) (ws ts : List ℕ) (v : Result Verdict Refusal) (promised : told_verdict v ≡ verdict_for (board_of b) ws ts) where
  -- the table has no fault, and the owner's windows get the verdict
  answers : (w : Verdicts.Verdict) → told_verdict v ≡ given w →
      (shared_fault teams (board_of b) ws ≡ fine) × (verdict_answer (board_of b) (own (board_of b) ws) ts ≡ given w)
  unfolding verdict_for
  answers w e = asked_given teams (board_of b) ws (λ windows. verdict_answer (board_of b) windows ts) w (sym promised ∙ e)

  -- (a) "meets" exactly when, at every length without limit, the demand is at most the least supply
  pub verdict_meets : (w : Verdicts.Verdict) → told_verdict v ≡ given w → (h : ℕ) →
      (v ≡ Ok (Meets h)) ↔ ((h ≡ cycle b.frame (tasks_of ts))
      × ((t : ℕ) → demand (tasks_of ts) t ≤ least_supply (supplied_by (board_of b) (own (board_of b) ws)) b.frame t))
  verdict_meets w e h = let x = exact_meets (board_of b) (own (board_of b) ws) ts w (answers w e).1 h in (
    λ m. x.0 (given_is (sym e ∙ ap told_verdict m)),
    λ a. verdict_determined v (Ok (Meets h)) (e ∙ ap given (x.1 a)),
  )

  -- (b) a miss exactly when it shows the least length, the least start and both amounts
  pub verdict_miss : (w : Verdicts.Verdict) → told_verdict v ≡ given w → (t s d p : ℕ) →
      (v ≡ Ok (Miss t s d p)) ↔ LeastMiss (supplied_by (board_of b) (own (board_of b) ws)) b.frame (tasks_of ts) t s d p
  verdict_miss w e t s d p = let x = exact_miss (board_of b) (own (board_of b) ws) ts w (answers w e).1 t s d p in (
    λ m. x.0 (given_is (sym e ∙ ap told_verdict m)),
    λ a. verdict_determined v (Ok (Miss t s d p)) (e ∙ ap given (x.1 a)),
  )

  -- (c) after "meets", a run of a legal job list with room for its counts is met, and each count of a job due in it is 1 to D
  pub meets_runs : (h : ℕ) → v ≡ Ok (Meets h) →
      (n : ℕ) (js out left : List ℕ) (r : Result Ran Refusal) →
      told_ran r ≡ run_for (board_of b) ws ts n js (length out) → left ≡ run_out_for (board_of b) ws ts n js out →
      (job_list_fault n js or_else job_fault (tasks_of ts) n (jobs_of js) or_else room_fault (length (jobs_of js)) (length out)) ≡ fine →
      ((backlog : ℕ) × (r ≡ Ok (Met backlog)))
      × ((j : ℕ) → j < length (jobs_of js) → deadline (tasks_of ts) (jobs_of js) j ≤ n →
      (1 ≤ get_or left j 0) × (get_or left j 0 ≤ (task_at (tasks_of ts) (task_of (jobs_of js) j)).D))
  unfolding verdict_answer job_fault run_answer run_fault run_out run_for run_out_for ran counts
  meets_runs h m n js out left r told wrote legal =
      let windows = own (board_of b) ws in
      let a = answers (Verdicts.meets h) (ap told_verdict m) in
      let rest : Fault = group_fault ts or_else cycle_fault (board_of b) (tasks_of ts) in
      let checked = (unless_given (table_fault (board_of b) windows or_else rest) _ (Verdicts.meets h) a.1).0 in
      let p = or_else_fine (table_fault (board_of b) windows) rest checked in
      let q = or_else_fine (group_fault ts) (cycle_fault (board_of b) (tasks_of ts)) p.1 in
      let σ = supplied_by (board_of b) windows in
      let before = edf (tasks_of ts) (jobs_of js) in
      let f : run_fault (board_of b) windows ts n js (length out) ≡ fine = rw (p.0, q.0, legal) in
      let answer = told ∙ asked_fine teams (board_of b) ws refused (λ l. run_answer (board_of b) l ts n js (length out)) a.0 in
      let buffer = wrote ∙ asked_fine teams (board_of b) ws (kept out) (λ l. run_out (board_of b) l ts n js out) a.0 in
      let e = edf_meets (board_of b) windows ts h a.1 n (jobs_of js)
      (fault_at_fine 11 _ (or_else_fine (job_fault (tasks_of ts) n (jobs_of js)) _ (or_else_fine (job_list_fault n js) _ legal).1).0) in (
        (backlog σ before (jobs_of js) n, ran_determined r (Ok (Met (backlog σ before (jobs_of js) n))) (answer ∙ rw (f, e.0))),
        λ j l d. rw (buffer, f, written_at (counts σ before (tasks_of ts) (jobs_of js) n) out j (rw (listed_length) l)) (e.1 j l d),
      )

  -- and so is every run under earliest deadline first, whichever of several earliest jobs it serves, of any length and of any legal job list
  pub meets_every : (h : ℕ) → v ≡ Ok (Meets h) →
      (n : ℕ) (js : List Job) → bad_job (tasks_of ts) n js ≡ none →
      (left : ℕ → List ℕ) → Under (supplied_by (board_of b) (own (board_of b) ws)) js (deadline (tasks_of ts) js) left →
      (j : ℕ) → j < length js → deadline (tasks_of ts) js j ≤ n →
      (get_or (left (deadline (tasks_of ts) js j)) j 0 ≡ 0)
      × (1 ≤ count_of left js n j) × (count_of left js n j ≤ (task_at (tasks_of ts) (task_of js j)).D)
  meets_every h m = edf_every (board_of b) (own (board_of b) ws) ts h (answers (Verdicts.meets h) (ap told_verdict m)).1

  -- (d) after a miss, no way of giving out the supplied ticks serves all the full jobs that are due by the end of the length
  pub miss_starves : (t s d p : ℕ) → v ≡ Ok (Miss t s d p) →
      (w : Way) → Served (supplied_by (board_of b) (own (board_of b) ws)) (tasks_of ts) w s t → ⊥
  miss_starves t s d p m = starved (board_of b) (own (board_of b) ws) ts t s d p (answers (Verdicts.miss t s d p) (ap told_verdict m)).1
