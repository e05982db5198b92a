-- The demands at marked examples, of what `verdict` and `run` answer on them
use Rattle.std.specs.Prelude.{◌≡◌, refl, List, [], ◌∷◌, ℕ, ◌≤◌, get_or}
use Rattle.std.proofs.Common.{◌∙◌, arith}
use Rattle.scope.specs.Numbers.{pieces_from, pieces}
use Rattle.scope.specs.Limits.{teams}
use Rattle.scope.specs.Windows.{supplied_by}
use Rattle.scope.specs.Ticks.{least_supply}
use Rattle.scope.specs.Tasks.{tasks_of, demand}
use Rattle.scope.specs.Verdict as Verdicts
use Rattle.scope.specs.Jobs.{jobs_of, deadline}
use Rattle.scope.specs.Run.{count_of}
use Rattle.scope.specs.Answers.{Fault.fine, Answer.given, Answer.refused, ◌or_else◌, table_fault, group_fault, job_list_fault, job_fault, room_fault, verdict_answer, run_fault}
use Rattle.scope.specs.Answers.{run_answer}
use Rattle.scope.specs.Shared.{windows_for, shared_fault, asked_for, verdict_for, run_for, run_out_for}
use Rattle.scope.specs.Demands.{Under, Way, Served}
use Rattle.scope.specs.Examples.{Reply.a_verdict, X, XShared, reply, table, examples, row}
use Rattle.scope.specs.Computing.{everything}
use Rattle.theory.specs.Answers.{or_else_fine, unless_given, run_given}
use Rattle.theory.specs.Shared.{asked_fine}
use Rattle.theory.specs.Applied.{w4, w6, w7, w13, in_five, w6_misses, w7_meets, w13_runs, lost_misses, lost_meets}
use Rattle.std.specs.declared.result.Result.{Result}
use Rattle.std.specs.declared.result.Result.TheVariants.{Ok}
use Rattle.tables.specs.declared.board.Board.{Board}
use Rattle.tables.specs.declared.answer.Refusal.{Refusal}
use Rattle.tables.specs.declared.answer.Verdict.{Verdict}
use Rattle.tables.specs.declared.answer.Verdict.TheVariants.{Meets, Miss}
use Rattle.tables.specs.Told.{board_of, told_verdict}
use Rattle.tables.specs.Determined.{verdict_determined}
use Rattle.machine.specs.declared.run.Ran.{Ran}
use Rattle.machine.specs.declared.run.Ran.TheVariants.{Met}
use Rattle.machine.specs.Told.{told_ran}
use Rattle.machine.specs.Demands.{verdict_meets, meets_runs, meets_every, miss_starves}

-- the owner whose windows are X, and beside it another, who has the rest of the frame
abbrev board : Board
board = record { frame = 8; owner = 0; shortest = 1; rule = 1; lost = 0 }

shared_fine : shared_fault teams (board_of board) XShared ≡ fine
unfolding everything
shared_fine = refl

-- whatever it asks, it is answered as X is
as_x : {R : Type 0} (refusal : ℕ → ℕ → R) (entry : List ℕ → R) → asked_for teams (board_of board) XShared refusal entry ≡ entry X
unfolding windows_for pieces_from pieces
as_x refusal entry = asked_fine teams (board_of board) XShared refusal entry shared_fine

-- W7 is let in
let_in : (v : Result Verdict Refusal) → told_verdict v ≡ verdict_for (board_of board) XShared w7 → v ≡ Ok (Meets 8)
unfolding verdict_for
let_in v p = verdict_determined v (Ok (Meets 8)) (p ∙ as_x refused (λ windows. verdict_answer (board_of board) windows w7) ∙ w7_meets)

-- so W13's run is met, and its second job has a count of at most 7
met_in_time : (v : Result Verdict Refusal) → told_verdict v ≡ verdict_for (board_of board) XShared w7 → (r : Result Ran Refusal) (left : List ℕ) →
    told_ran r ≡ run_for (board_of board) XShared w7 10 w13 3 → left ≡ run_out_for (board_of board) XShared w7 10 w13 (9 ∷ 9 ∷ 9 ∷ []) →
    ((backlog : ℕ) × (r ≡ Ok (Met backlog))) × (get_or left 1 0 ≤ 7)
unfolding pieces_from pieces run_answer run_fault
met_in_time v p r left told wrote =
    let fine-run = (unless_given (run_fault (board_of board) X w7 10 w13 3) _ _ w13_runs).0 in
    let after_table = (or_else_fine (table_fault (board_of board) X)
    (group_fault w7 or_else job_list_fault 10 w13 or_else job_fault (tasks_of w7) 10 (jobs_of w13) or_else room_fault 2 3) fine-run).1 in
    let legal = (or_else_fine (group_fault w7) (job_list_fault 10 w13 or_else job_fault (tasks_of w7) 10 (jobs_of w13) or_else room_fault 2 3) after_table).1 in
    let m = meets_runs board XShared w7 v p 8 (let_in v p) 10 w13 (9 ∷ 9 ∷ 9 ∷ []) left r told wrote legal in
    (m.0, (m.1 1 (omega arith) (omega arith)).1)

-- and so is every run of W13 under earliest deadline first, of which the machine's is one
every_in_time : (v : Result Verdict Refusal) → told_verdict v ≡ verdict_for (board_of board) XShared w7 → (left : ℕ → List ℕ) →
    Under (supplied_by (board_of board) X) (jobs_of w13) (deadline (tasks_of w7) (jobs_of w13)) left → count_of left (jobs_of w13) 10 1 ≤ 7
unfolding windows_for pieces_from pieces
every_in_time v p left run =
    let legal = (run_given (board_of board) X w7 10 w13 3 _ w13_runs).jobs in
    (meets_every board XShared w7 v p 8 (let_in v p) 10 (jobs_of w13) legal left run 1 (omega arith) (omega arith)).2

-- W6 is turned away, and no way serves its full jobs from start 2
turned_away : (v : Result Verdict Refusal) → told_verdict v ≡ verdict_for (board_of board) XShared w6 → (w : Way) →
    Served (supplied_by (board_of board) X) (tasks_of w6) w 2 6 → ⊥
unfolding verdict_for windows_for pieces_from pieces
turned_away v p =
    let missed = p ∙ as_x refused (λ windows. verdict_answer (board_of board) windows w6) ∙ w6_misses in
    miss_starves board XShared w6 v p 6 2 3 2 (verdict_determined v (Ok (Miss 6 2 3 2)) missed)

-- ---- the other owner, whose windows are (2,5) and (7,8)

abbrev second : Board
second = record { frame = 8; owner = 1; shortest = 1; rule = 1; lost = 0 }

abbrev w5 : List ℕ
w5 = 1 ∷ 4 ∷ 3 ∷ []

second_meets : verdict_for (board_of second) XShared w5 ≡ given (Verdicts.meets 8)
unfolding reply table
second_meets =
    let e : a_verdict (verdict_for (board_of second) XShared w5) ≡ a_verdict (given (Verdicts.meets 8)) = row table examples "W5's task as owner 1's" in cc

second_misses : verdict_for (board_of second) XShared w6 ≡ given (Verdicts.miss 6 4 3 2)
unfolding reply table
second_misses =
    let e : a_verdict (verdict_for (board_of second) XShared w6) ≡ a_verdict (given (Verdicts.miss 6 4 3 2)) = row table examples "W6's tasks as owner 1's" in cc

-- W5's task, which misses on X, is let in, and its demand is carried at every length
second_carried : (v : Result Verdict Refusal) → told_verdict v ≡ verdict_for (board_of second) XShared w5 →
    (t : ℕ) → demand (tasks_of w5) t ≤ least_supply (supplied_by (board_of second) (2 ∷ 5 ∷ 7 ∷ 8 ∷ [])) 8 t
unfolding windows_for pieces_from pieces
second_carried v p =
    ((verdict_meets second XShared w5 v p (Verdicts.meets 8) (p ∙ second_meets) 8).0 (verdict_determined v (Ok (Meets 8)) (p ∙ second_meets))).1

-- W6's are turned away at a start of its own, and no way serves their full jobs from there
second_starves : (v : Result Verdict Refusal) → told_verdict v ≡ verdict_for (board_of second) XShared w6 → (w : Way) →
    Served (supplied_by (board_of second) (2 ∷ 5 ∷ 7 ∷ 8 ∷ [])) (tasks_of w6) w 4 6 → ⊥
unfolding windows_for pieces_from pieces
second_starves v p = miss_starves second XShared w6 v p 6 4 3 2 (verdict_determined v (Ok (Miss 6 4 3 2)) (p ∙ second_misses))

-- ---- a board that loses the first tick of every window: of X ticks 1 and 6 are left

abbrev loses : Board
loses = record { frame = 8; owner = 0; shortest = 1; rule = 2; lost = 1 }

-- a task that is due in 5 is let in, and its demand is carried at every length by what is left
loses_carried : (v : Result Verdict Refusal) → told_verdict v ≡ verdict_for (board_of loses) XShared in_five →
    (t : ℕ) → demand (tasks_of in_five) t ≤ least_supply (supplied_by (board_of loses) X) 8 t
unfolding windows_for pieces_from pieces
loses_carried v p = ((verdict_meets loses XShared in_five v p (Verdicts.meets 8) (p ∙ lost_meets) 8).0 (verdict_determined v (Ok (Meets 8)) (p ∙ lost_meets))).1

-- so its job that is released at tick 2, just after the first of these ticks, is done by its deadline
loses_in_time : (v : Result Verdict Refusal) → told_verdict v ≡ verdict_for (board_of loses) XShared in_five → (r : Result Ran Refusal) (left : List ℕ) →
    told_ran r ≡ run_for (board_of loses) XShared in_five 8 (2 ∷ 0 ∷ 1 ∷ []) 1 → left ≡ run_out_for (board_of loses) XShared in_five 8 (2 ∷ 0 ∷ 1 ∷ []) (9 ∷ []) →
    ((backlog : ℕ) × (r ≡ Ok (Met backlog))) × (get_or left 0 0 ≤ 5)
unfolding everything
loses_in_time v p r left told wrote =
    let m = meets_runs loses XShared in_five v p 8 (verdict_determined v (Ok (Meets 8)) (p ∙ lost_meets)) 8 (2 ∷ 0 ∷ 1 ∷ []) (9 ∷ []) left r told wrote refl in
    (m.0, (m.1 0 (omega arith) (omega arith)).1)

-- W4's task is turned away, and no way serves its full job from start 2
loses_starves : (v : Result Verdict Refusal) → told_verdict v ≡ verdict_for (board_of loses) XShared w4 → (w : Way) →
    Served (supplied_by (board_of loses) X) (tasks_of w4) w 2 4 → ⊥
unfolding windows_for pieces_from pieces
loses_starves v p = miss_starves loses XShared w4 v p 4 2 1 0 (verdict_determined v (Ok (Miss 4 2 1 0)) (p ∙ lost_misses))
