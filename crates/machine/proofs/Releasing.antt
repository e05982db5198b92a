-- The jobs that a tick releases, one by one
use mathlib.Core.Path.{◌≡◌, sym, ap, ◌∙◌}
use mathlib.Core.Logic.{◌≢◌}
use mathlib.Core.List.{List}
use Prim.Native.Nat.{ℕ, suc, ◌+◌, ◌-◌, ◌≤◌, ◌<◌}
use native.Mathlib.Omega.{arith}
use lib.ListN.{length}
use borrow.Author.Tests.{eq-eqb, ne_eqb}
use Rattle.scope.specs.Tasks.{Task, task_at}
use Rattle.scope.specs.Jobs.{Job, job_at, release_of, task_of}
use Rattle.jobs.specs.Legal.{Tasks, Jobs}
use Rattle.machine.specs.declared.state.RunState.{RunState}
use Rattle.machine.specs.State.{Whole, next_of, feed, release_at}
use Rattle.machine.specs.Relation.{Arriving}

-- a job of a legal list can be released
pub can_arrive : (ts : List Task) (js : List Job) → Tasks ts → Jobs ts js →
    (x : Job) (s : RunState) → x ≡ job_at js s.next → s.next < length js → Arriving ts x s
can_arrive ts js tasks legal x s e l =
    let own : x.task ≡ task_of js s.next = ap (λ (y : Job). y.task) e in
    let rule = tasks.rules (task_of js s.next) (legal.known s.next l) in
    record {
      known = omega (arith, own, legal.known s.next l, tasks.few);
      fits = omega (arith, ap (λ (y : Job). y.release) e, ap (λ (i : ℕ). (task_at ts i).D) own, rule.due_most, legal.small s.next l);
      few = omega (arith, legal.few);
    }

module _ (ts : List Task) (js : List Job) (w : Whole) where
  abbrev m : ℕ
  m = w.state.next

  -- how many jobs are left, where one is
  left_is : m < length js → length js - m ≡ suc (length js - (m + 1))
  left_is l = omega arith

  -- the next job, x, is released at the instant, or it is not, or there is none
  pub release_yes : (x : Job) → x ≡ job_at js m → m < length js → x.release ≡ w.state.instant → release_at ts js w ≡ release_at ts js (next_of ts x w)
  unfolding release_at feed
  release_yes x is l e = rw (is, left_is l, eq-eqb (release_of js m) w.state.instant (ap (λ (y : Job). y.release) (sym is) ∙ e))

  pub release_no : (x : Job) → x ≡ job_at js m → m < length js → x.release ≢ w.state.instant → w ≡ release_at ts js w
  unfolding release_at feed
  release_no x is l u = rw (left_is l, ne_eqb (release_of js m) w.state.instant (λ e. u (ap (λ (y : Job). y.release) is ∙ e)))

  pub release_end : length js ≤ m → w ≡ release_at ts js w
  unfolding release_at feed
  release_end l = let q : length js - m ≡ 0 = omega arith in rw q
