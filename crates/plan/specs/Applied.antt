-- The demands at the plan files of W6 and W7, of what the three readers and `run` answer on them
use Rattle.std.specs.Prelude.{◌≡◌, refl, List, [], ◌∷◌, ℕ, ◌≤◌, get_or}
use Rattle.std.proofs.Common.{ap, ◌∙◌, arith}
use Rattle.scope.specs.Numbers.{pieces_from, pieces}
use Rattle.scope.specs.Limits.{teams}
use Rattle.scope.specs.Ticks.{least_supply}
use Rattle.scope.specs.Windows.{supplied_by}
use Rattle.scope.specs.Tasks.{tasks_of, demand}
use Rattle.scope.specs.Verdict as Verdicts
use Rattle.scope.specs.Jobs.{jobs_of}
use Rattle.scope.specs.Answers.{Answer.given, Fault.fine, ◌or_else◌, job_list_fault, job_fault, room_fault}
use Rattle.scope.specs.Shared.{as_owned, run_for, run_out_for, plan_board, plan_answer}
use Rattle.scope.specs.Plan.{Plan, plan_of}
use Rattle.scope.specs.Demands.{LeastMiss, Way, Served}
use Rattle.scope.specs.Examples.{X, on, on_at_least, losing}
use Rattle.scope.specs.Computing.{everything}
use Rattle.theory.specs.Shortest.{Twelve, OfPlan}
use Rattle.theory.specs.Thirteen.{Thirteen}
use Rattle.theory.specs.Applied.{w6, w7, w13, in_five, w6_misses, w7_meets, w6_plan, w6_file, w6_reads}
use Rattle.std.specs.declared.result.Result.{Result}
use Rattle.std.specs.declared.result.Result.TheVariants.{Ok, Err}
use Rattle.tables.specs.declared.answer.Refusal.{Refusal}
use Rattle.tables.specs.declared.answer.Refusal.TheVariants.{Sliver, Loss}
use Rattle.tables.specs.declared.answer.Verdict.{Verdict}
use Rattle.tables.specs.declared.answer.Verdict.TheVariants.{Meets, Miss}
use Rattle.tables.specs.Told.{told_verdict}
use Rattle.tables.specs.Determined.{verdict_determined}
use Rattle.machine.specs.declared.run.Ran.{Ran}
use Rattle.machine.specs.declared.run.Ran.TheVariants.{Met}
use Rattle.machine.specs.Told.{told_ran}
use Rattle.plan.specs.Demands.{plan_verdict, plan_meets, plan_miss, plan_runs, plan_starves, plan_sliver, plan_loss}

abbrev w7_plan : Plan
w7_plan = record { settings = []; frame = 8; windows = X; tasks = w7 }

abbrev w7_file : List ℕ
w7_file = 8 ∷ 2 ∷ 0 ∷ 2 ∷ 5 ∷ 7 ∷ 2 ∷ 1 ∷ 4 ∷ 4 ∷ 2 ∷ 8 ∷ 7 ∷ []

w7_read : plan_of 0 w7_file ≡ given w7_plan
unfolding everything
w7_read = refl

w13_legal : (job_list_fault 10 w13 or_else job_fault (tasks_of w7) 10 (jobs_of w13) or_else room_fault 2 3) ≡ fine
unfolding everything
w13_legal = refl

module _ (v : Result Verdict Refusal) (promised : told_verdict v ≡ plan_answer 0 w7_file) where
  let_in : v ≡ Ok (Meets 8)
  let_in = verdict_determined v (Ok (Meets 8)) (plan_verdict 0 w7_file w7_plan w7_read v promised refl refl refl ∙ w7_meets)

  -- (a) at every length without limit
  carried : (t : ℕ) → demand (tasks_of w7) t ≤ least_supply (supplied_by (on 8) X) 8 t
  carried = ((plan_meets 0 w7_file w7_plan w7_read v promised (Verdicts.meets 8) (ap told_verdict let_in) 8).0 let_in).1

  -- (c) W13's run is met, and its second job has a count of at most 7
  met_in_time : (r : Result Ran Refusal) (left : List ℕ) →
      told_ran r ≡ run_for (on 8) (as_owned 0 X) w7 10 w13 3 → left ≡ run_out_for (on 8) (as_owned 0 X) w7 10 w13 (9 ∷ 9 ∷ 9 ∷ []) →
      ((backlog : ℕ) × (r ≡ Ok (Met backlog))) × (get_or left 1 0 ≤ 7)
  unfolding pieces_from pieces
  met_in_time r left told kept =
      let m = plan_runs 0 w7_file w7_plan w7_read v promised 8 let_in 10 w13 (9 ∷ 9 ∷ 9 ∷ []) left r told kept w13_legal in
      (m.0, (m.1 1 (omega arith) (omega arith)).1)

-- with the shortest allowed window, 2, first
abbrev first_plan : Plan
first_plan = record { settings = 2 ∷ []; frame = 8; windows = X; tasks = w7 }

first_read : plan_of 1 (2 ∷ w7_file) ≡ given first_plan
unfolding everything
first_read = refl

module _ (v : Result Verdict Refusal) (promised : told_verdict v ≡ plan_answer 1 (2 ∷ w7_file)) where
  let_in_first : v ≡ Ok (Meets 8)
  unfolding everything
  let_in_first = verdict_determined v (Ok (Meets 8)) promised

  carried_first : (t : ℕ) → demand (tasks_of w7) t ≤ least_supply (supplied_by (on_at_least 8 0 2) X) 8 t
  carried_first = ((plan_meets 1 (2 ∷ w7_file) first_plan first_read v promised (Verdicts.meets 8) (ap told_verdict let_in_first) 8).0 let_in_first).1

-- and with 3 first, where X's windows are slivers
sliver_first : (v : Result Verdict Refusal) → told_verdict v ≡ plan_answer 1 (3 ∷ w7_file) → OfPlan 1 (3 ∷ w7_file) (λ p. Twelve teams (plan_board p) (as_owned 0 p.windows) 0)
unfolding everything
sliver_first v promised = (plan_sliver 1 (3 ∷ w7_file) v promised 0).0 (verdict_determined v (Err (Sliver 0)) promised)

-- with m = 1, rule 2 and one lost tick first, behind which a task is due in 5: of X ticks 1 and 6 are left
abbrev loses_file : List ℕ
loses_file = 1 ∷ 2 ∷ 1 ∷ 8 ∷ 2 ∷ 0 ∷ 2 ∷ 5 ∷ 7 ∷ 1 ∷ 1 ∷ 8 ∷ 5 ∷ []

abbrev loses_plan : Plan
loses_plan = record { settings = 1 ∷ 2 ∷ 1 ∷ []; frame = 8; windows = X; tasks = in_five }

loses_read : plan_of 3 loses_file ≡ given loses_plan
unfolding everything
loses_read = refl

carried_by_what_is_left : (v : Result Verdict Refusal) → told_verdict v ≡ plan_answer 3 loses_file → (t : ℕ) → demand (tasks_of in_five) t ≤ least_supply (supplied_by (losing 8 0 1) X) 8 t
unfolding everything
carried_by_what_is_left v promised =
    let is : v ≡ Ok (Meets 8) = verdict_determined v (Ok (Meets 8)) promised in
    ((plan_meets 3 loses_file loses_plan loses_read v promised (Verdicts.meets 8) (ap told_verdict is) 8).0 is).1

-- and two lost ticks, which are all that X's windows have
lost_first : (v : Result Verdict Refusal) → told_verdict v ≡ plan_answer 3 (1 ∷ 2 ∷ 2 ∷ w7_file) →
    OfPlan 3 (1 ∷ 2 ∷ 2 ∷ w7_file) (λ p. Thirteen teams (plan_board p) (as_owned 0 p.windows) 0)
unfolding everything
lost_first v promised = (plan_loss 3 (1 ∷ 2 ∷ 2 ∷ w7_file) v promised).0 (verdict_determined v (Err Loss) promised)

module _ (v : Result Verdict Refusal) (promised : told_verdict v ≡ plan_answer 0 w6_file) where
  turned_away : v ≡ Ok (Miss 6 2 3 2)
  turned_away = verdict_determined v (Ok (Miss 6 2 3 2)) (plan_verdict 0 w6_file w6_plan w6_reads v promised refl refl refl ∙ w6_misses)

  -- (b) the least length, its least start and both amounts
  shown : LeastMiss (supplied_by (on 8) X) 8 (tasks_of w6) 6 2 3 2
  shown = (plan_miss 0 w6_file w6_plan w6_reads v promised (Verdicts.miss 6 2 3 2) (ap told_verdict turned_away) 6 2 3 2).0 turned_away

  -- (d) no way serves its full jobs from start 2
  unserved : (w : Way) → Served (supplied_by (on 8) X) (tasks_of w6) w 2 6 → ⊥
  unserved = plan_starves 0 w6_file w6_plan w6_reads v promised 6 2 3 2 turned_away
