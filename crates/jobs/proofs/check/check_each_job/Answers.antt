use mathlib.Core.Bool.{true}
use mathlib.Core.Path.{◌≡◌, sym, ap, ◌∙◌}
use Prim.Native.Nat.{ℕ}
use native.Mathlib.Omega.{arith}
use Rattle.scope.specs.Jobs.{Job, job}
use Rattle.scope.specs.Tasks.{Task, tasks_of, task_at}
use Rattle.theory.specs.Jobs.{job_rule}
use Rattle.theory.specs.Lists.{pieces_length}
use Rattle.theory.specs.Numbers.{below_suc}
use Rattle.jobs.proofs.Legality.{tasks_of_lem, free_first, free_next, kept, job_bad, jobs_fine}
use Rattle.jobs.proofs.check.check_each_job.Goals as goal

pub loop-j-init : goal.loop-j-init
loop-j-init c = record { free = free_first _ _; kept = λ k l. absurd (omega arith) }

pub job_legal-requires : goal.job_legal-requires
job_legal-requires c = ((tasks_of_lem _ c.args.group.legal).few, c.loop-j.invariant.free)

pub returns-then-not-job_legal : goal.returns-then-not-job_legal
returns-then-not-job_legal c =
    let l = c.loop-j in
    job_bad _ _ _ l.j (omega (arith, pieces_length _ 3 job c.args.jobs.now)) l.invariant.kept (sym c.job_legal.ensures ∙ c.if-not-job_legal.true)

-- the test says that job j keeps its rule
pub overflow_add-free : goal.overflow_add-free
overflow_add-free c =
    let g = job_rule _ _ _ _ (sym c.job_legal.ensures ∙ c.if-not-job_legal.false) in
    let x = (tasks_of_lem _ c.args.group.legal).rules _ g.known in
    let j = c.job_at-job.ensures in
    let e = ap (λ (y : ℕ). (task_at (tasks_of c.args.group.tasks.now) y).T) (ap (λ (y : Job). y.task) j) in
    omega (arith, g.inside, c.requires.1, x.period_most, ap (λ (y : Job). y.release) j, ap (λ (y : Task). y.T) c.task_at.ensures, e)

pub bounds-free-i : goal.bounds-free-i
bounds-free-i c =
    omega (
      arith,
      (tasks_of_lem _ c.args.group.legal).few,
      (job_rule _ _ _ _ (sym c.job_legal.ensures ∙ c.if-not-job_legal.false)).known,
      ap (λ (y : Job). y.task) c.job_at-job.ensures,
    )

pub loop-j-preserved : goal.loop-j-preserved
loop-j-preserved c =
    let l = c.loop-j in
    let j = c.job_at-job.ensures in
    let good = sym c.job_legal.ensures ∙ c.if-not-job_legal.false in
    record {
      free = free_next _ _ _ _ (job_rule _ _ _ _ good) _ l.invariant.free (tasks_of_lem _ c.args.group.legal).few _ _ _ (ap (λ (y : Job). y.task) j)
          (ap (λ (y : Job). y.release) j) (ap (λ (y : Task). y.T) c.task_at.ensures);
      kept = λ k h. below_suc (λ k. kept _ _ _ k ≡ true) l.j l.invariant.kept good k (omega arith);
    }

pub returns : goal.returns
returns c =
    jobs_fine _ _ _ (λ k h. c.loop-j.invariant.kept k (omega (arith, pieces_length _ 3 job c.args.jobs.now)))
