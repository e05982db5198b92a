-- Demand 3, second half: where the verdict is a miss, no way of giving out the supplied ticks serves all full jobs in time
use Rattle.std.specs.Prelude.{◌≡◌, refl, Bool, true, false, ◌&&◌, List, ℕ, zero, suc, ◌+◌, ◌-◌, ◌*◌, ◌≤◌, ◌<◌, eqb, length}
use Rattle.std.proofs.Common.{ap, arith, le_trans}
use Rattle.std.proofs.Math.Option.{Option, none, some}
use Rattle.scope.specs.Numbers.{bit, sum}
use Rattle.scope.specs.Ticks.{supply}
use Rattle.scope.specs.Windows.{Board, supplied_by}
use Rattle.scope.specs.Tasks.{Task, tasks_of, task_at, task_demand, demand}
use Rattle.scope.specs.Verdict.{Verdict.miss}
use Rattle.scope.specs.Answers.{Answer.given, verdict_answer}
use Rattle.scope.specs.Demands.{FullJob, Way, goes_to, given_to, Served}
use Rattle.theory.specs.Numbers.{sum_le, sum_eq, sum_add, sum_zero, sum_same, sum_at_le}
use Rattle.theory.specs.Ticks.{supply_split}
use Rattle.theory.specs.Tasks.{TaskRules, jobs_in, jobs_in_due, demand_jobs, demand_sum}
use Rattle.theory.specs.Answers.{judged}
use Rattle.theory.specs.Exact.{exact_miss}

-- one tick, all jobs: at most the tick
one_of_task : (b : Bool) (p n : ℕ) → sum (λ m. bit (b && eqb p m)) n ≤ bit b
one_of_task true p n = sum_at_le p 1 n
one_of_task false p n = omega (arith, sum_zero n)

one_tick : (b : Bool) (o : Option FullJob) (N : ℕ → ℕ) (n : ℕ) → sum (λ i. sum (λ m. bit (b && goes_to o i m)) (N i)) n ≤ bit b
one_tick false o N n = simp sum_zero (omega arith)
one_tick true none N n = simp sum_zero (omega arith)
one_tick true (some j) N n = le_trans (sum_le _ _ n (λ i l. one_of_task (eqb j.task i) j.turn (N i))) (sum_at_le j.task 1 n)

-- all ticks, all jobs: at most the supply
given_le : (σ : ℕ → Bool) (w : Way) (s : ℕ) (N : ℕ → ℕ) (n t : ℕ) → sum (λ i. sum (λ m. given_to σ w i m s t) (N i)) n ≤ supply σ s t
unfolding given_to supply
given_le σ w s N n zero = simp sum_zero (omega arith)
given_le σ w s N n (suc t) =
    let f : ℕ → ℕ → ℕ = λ i m. given_to σ w i m s t in
    let g : ℕ → ℕ → ℕ = λ i m. bit (σ (s + t) && goes_to (w (s + t)) i m) in
    omega (
      arith,
      sum_eq _ _ n (λ i l. sum_add (f i) (g i) (N i)),
      sum_add (λ i. sum (f i) (N i)) (λ i. sum (g i) (N i)) n,
      given_le σ w s N n t,
      one_tick (σ (s + t)) (w (s + t)) N n,
    )

-- a later start: no more
given_late : (σ : ℕ → Bool) (w : Way) (i m s a t : ℕ) → a ≤ t → given_to σ w i m (s + a) (t - a) ≤ given_to σ w i m s t
unfolding given_to
given_late σ w i m s a t h =
    let τ : ℕ → Bool = λ k. σ k && goes_to (w k) i m in
    let e : t ≡ a + (t - a) = omega arith in
    omega (arith, ap (supply τ s) e, supply_split τ s a (t - a))

-- where every full job due by s + t is served, the supply of the stretch is no less than the demand
pub served_supplied : (σ : ℕ → Bool) (ts : List Task) → TaskRules ts → (w : Way) (s t : ℕ) → Served σ ts w s t → demand ts t ≤ supply σ s t
served_supplied σ ts ok w s t all =
    let N : ℕ → ℕ = λ i. jobs_in (task_at ts i).T (task_at ts i).D t in
    omega (
      arith,
      demand_sum ts t,
      given_le σ w s N (length ts) t,
      sum_le (λ i. task_demand (task_at ts i) t) (λ i. sum (λ m. given_to σ w i m s t) (N i)) (length ts) each,
    )
  where
    each : (i : ℕ) → i < length ts → task_demand (task_at ts i) t ≤ sum (λ m. given_to σ w i m s t) (jobs_in (task_at ts i).T (task_at ts i).D t)
    each i l =
        let x : Task = task_at ts i in
        omega (
          arith,
          demand_jobs x t,
          sum_same x.C (jobs_in x.T x.D t),
          sum_le (λ m. x.C) (λ m. given_to σ w i m s t) (jobs_in x.T x.D t) (λ m h.
              let d : m * x.T + x.D ≤ t = jobs_in_due x.T x.D (ok i l).period t m h in
              le_trans (all i m l d) (given_late σ w i m s (m * x.T) t (omega arith))),
        )

-- ---- the entry

pub starved : (b : Board) (ws ts : List ℕ) (t s d p : ℕ) → verdict_answer b ws ts ≡ given (miss t s d p) →
    (w : Way) → Served (supplied_by b ws) (tasks_of ts) w s t → ⊥
starved b ws ts t s d p answered w all =
    let f = judged b ws ts (miss t s d p) answered in
    let m = (exact_miss b ws ts (miss t s d p) answered t s d p).0 refl in
    omega (arith, m.demanded, m.above, m.holds, served_supplied (supplied_by b ws) (tasks_of ts) f.group.rules w s t all)
