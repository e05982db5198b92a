-- How sharp the theorems are: stronger claims, each refuted by an example
use Rattle.std.specs.Prelude.{◌≡◌, refl, Bool, true, List, [], ◌∷◌, ℕ, zero, suc, ◌+◌, ◌*◌, ◌/◌, ◌%◌, ◌≤◌, ◌<◌, length, get_or}
use Rattle.std.proofs.Common.{sym, ◌∙◌, arith}
use Rattle.std.proofs.lemmas.Bool.{false≢true}
use Rattle.std.proofs.Math.Option.{none, some}
use Rattle.std.specs.Int.{◌∣◌}
use Rattle.std.proofs.Math.Nat.{dvd_refl}
use Rattle.scope.specs.Numbers.{least, written}
use Rattle.scope.specs.Ticks.{Periodic, supply, least_supply, least_start}
use Rattle.scope.specs.Windows.{Board, supplied_by}
use Rattle.scope.specs.Tasks.{Task, task, tasks_of, task_at, task_demand, demand}
use Rattle.scope.specs.Verdict.{Verdict.meets, Verdict.miss}
use Rattle.scope.specs.Jobs.{Job, jobs_of, release_of, task_of, deadline, bad_job}
use Rattle.scope.specs.Machine.{edf}
use Rattle.scope.specs.Run.{counts}
use Rattle.scope.specs.Limits.{teams}
use Rattle.scope.specs.Answers.{Fault.fine, Answer, Answer.given, Answer.refused, verdict_answer}
use Rattle.scope.specs.Shared.{owned_of, owned_at, own, as_owned, owned_fault, whole_fault, shared_fault, verdict_for}
use Rattle.scope.specs.Summary.{summary_of, summary_fault, Edit, Edit.move, Edit.add, Edit.remove, edited, table_in, edited_list, Edited, edit_answer}
use Rattle.scope.specs.Demands.{Way, given_to}
use Rattle.scope.specs.Examples.{X, others, lab_shared, on, on_for, on_at_least, losing}
use Rattle.scope.specs.Computing.{numbers·compute, tables·compute, table_faults·compute, constructors·compute, shared_faults·compute, everything}
use Rattle.theory.specs.Tasks.{TaskRules, Periods}
use Rattle.theory.specs.Answers.{LegalTable, table_legal}
use Rattle.theory.specs.Buffers.{written_begins, begins_length}
use Rattle.theory.specs.Summaries.{begins_fine}
use Rattle.theory.specs.Shared.{start_at, end_at}
use Rattle.theory.specs.Edits.{Ready, parts_given, new_refused}
use Rattle.theory.specs.Rows.{end_of}
use Rattle.theory.specs.Applied.{w6, w7, w13, w6_misses, w7_meets}

-- "meets" does not leave supply over: W7 asks for all 3 ticks that length 7 holds at least
pub not_strictly : ((b : Board) (ws ts : List ℕ) (H : ℕ) → verdict_answer b ws ts ≡ given (meets H) →
    (t : ℕ) → 1 ≤ t → demand (tasks_of ts) t < least_supply (supplied_by b ws) b.frame t) → ⊥
unfolding everything
not_strictly claim =
    let asked : demand (tasks_of w7) 7 ≡ 3 = refl in
    let held : least_supply (supplied_by (on 8) X) 8 7 ≡ 3 = refl in
    omega (arith, claim (on 8) X w7 8 w7_meets 7 (omega arith))

-- the ends of windows suffice for the amount and not for the least start: at length 4 on X it is 1, and the windows end at 2 and 7
pub not_start_at_an_end : ((b : Board) (ws : List ℕ) → LegalTable b ws → (t : ℕ) →
    (i : ℕ) × (i < length ws / 2) × (least_start (supplied_by b ws) b.frame t ≡ end_of ws i)) → ⊥
unfolding everything
not_start_at_an_end claim =
    let start : least_start (supplied_by (on 8) X) 8 4 ≡ 1 = refl in
    let c = claim (on 8) X (table_legal (on 8) X refl refl) 4 in
    go c.0 c.1 (omega (arith, c.2))
  where
    go : (i : ℕ) → i < 2 → end_of X i ≡ 1 → ⊥
    go zero l e = omega arith
    go (suc zero) l e = omega arith
    go (suc (suc i)) l e = omega arith

-- D ≤ T is needed for the horizon. Where every tick is supplied, 2 ticks of work every tick, each due after 2, are too much from length 3 on; the
-- cycle is 1
pub not_past_period : ((σ : ℕ → Bool) (P : ℕ) → Periodic σ P → (ts : List Task) → TaskRules ts → (H : ℕ) → 1 ≤ H → P ∣ H → Periods ts H →
    (t : ℕ) → least_supply σ P t < demand ts t → (a : ℕ) × (1 ≤ a) × (a ≤ H) × (least_supply σ P a < demand ts a)) → ⊥
unfolding supply least least_supply task_demand demand
not_past_period claim =
    let ts : List Task = task 2 1 2 ∷ [] in
    let σ : ℕ → Bool = λ k. true in
    let c = claim σ 1 (record { some = omega arith; same = λ k. refl }) ts rules 1 (omega arith) (dvd_refl 1) periods 3 (omega arith) in
    go c.0 c.1 c.2 c.3
  where
    rules : TaskRules (task 2 1 2 ∷ [])
    rules zero l =
        record { work = omega arith; work_most = omega arith; period = omega arith; period_most = omega arith; due = omega arith; due_most = omega arith }
    rules (suc i) l = absurd (omega arith)

    periods : Periods (task 2 1 2 ∷ []) 1
    periods zero l = dvd_refl 1
    periods (suc i) l = absurd (omega arith)

    go : (a : ℕ) → 1 ≤ a → a ≤ 1 → least_supply (λ k. true) 1 a < demand (task 2 1 2 ∷ []) a → ⊥
    go zero p l v = omega arith
    go (suc zero) p l v = omega arith
    go (suc (suc a)) p l v = omega arith

-- W13's run of W7: each job's count is its task's D, so no count can be claimed to be less
pub not_below_deadline : ((b : Board) (ws ts : List ℕ) (H : ℕ) → verdict_answer b ws ts ≡ given (meets H) →
    (n : ℕ) (js : List Job) → bad_job (tasks_of ts) n js ≡ none → (j : ℕ) → j < length js → deadline (tasks_of ts) js j ≤ n →
    get_or (counts (supplied_by b ws) (edf (tasks_of ts) js) (tasks_of ts) js n) j 0 < (task_at (tasks_of ts) (task_of js j)).D) → ⊥
unfolding everything
not_below_deadline claim =
    let count : get_or (counts (supplied_by (on 8) X) (edf (tasks_of w7) (jobs_of w13)) (tasks_of w7) (jobs_of w13) 10) 1 0 ≡ 7 = refl in
    omega (arith, claim (on 8) X w7 8 w7_meets 10 (jobs_of w13) refl 1 (omega arith) (omega arith))

-- of a run of 3 ticks both jobs are released in it, and unfinished: their deadlines are not
pub not_each_release : ((b : Board) (ws ts : List ℕ) (H : ℕ) → verdict_answer b ws ts ≡ given (meets H) →
    (n : ℕ) (js : List Job) → bad_job (tasks_of ts) n js ≡ none → (j : ℕ) → j < length js → release_of js j ≤ n →
    1 ≤ get_or (counts (supplied_by b ws) (edf (tasks_of ts) js) (tasks_of ts) js n) j 0) → ⊥
unfolding everything
not_each_release claim =
    let count : get_or (counts (supplied_by (on 8) X) (edf (tasks_of w7) (jobs_of w13)) (tasks_of w7) (jobs_of w13) 3) 0 0 ≡ 0 = refl in
    omega (arith, claim (on 8) X w7 8 w7_meets 3 (jobs_of w13) refl 0 (omega arith) (omega arith))

-- a miss starves not every job, but some: of W6 the first job of task 0 can well be served
pub not_every_job : ((b : Board) (ws ts : List ℕ) (t s d p : ℕ) → verdict_answer b ws ts ≡ given (miss t s d p) →
    (w : Way) (i m : ℕ) → i < length (tasks_of ts) → (task_at (tasks_of ts) i).C ≤ given_to (supplied_by b ws) w i m s t → ⊥) → ⊥
unfolding everything
not_every_job claim = claim (on 8) X w6 6 2 3 2 w6_misses (λ k. some (record { task = 0; turn = 0 })) 0 0 (omega arith) (omega arith)

-- an owner's answer does depend on the other team where the whole list is not legal: an empty window of owner 1 refuses owner 0 too
pub not_alone_unchecked : ((b : Board) (ws vs ts : List ℕ) → own b ws ≡ own b vs → verdict_for b ws ts ≡ verdict_for b vs ts) → ⊥
unfolding everything
not_alone_unchecked claim =
    let e : given (meets 8) ≡ refused 3 1 = claim (on 8) (0 ∷ 2 ∷ 0 ∷ []) (0 ∷ 2 ∷ 0 ∷ 4 ∷ 4 ∷ 1 ∷ []) [] refl in
    let z : ◌≡◌ {A = ℕ} 0 1 = cc in
    omega arith

-- and where it is not counted whole: a number that owner 1 leaves over refuses owner 0 too
pub not_alone_uncounted : ((b : Board) (ws vs ts : List ℕ) → owned_fault teams b (owned_of ws) ≡ fine → owned_fault teams b (owned_of vs) ≡ fine →
    own b ws ≡ own b vs → verdict_for b ws ts ≡ verdict_for b vs ts) → ⊥
unfolding everything
not_alone_uncounted claim =
    let e : given (meets 8) ≡ refused 1 0 = claim (on 8) (0 ∷ 2 ∷ 0 ∷ []) (0 ∷ 2 ∷ 0 ∷ 4 ∷ []) [] refl refl refl in
    let z : ◌≡◌ {A = ℕ} 0 1 = cc in
    omega arith

-- and where it has a sliver: owner 1's window of one tick refuses owner 0 too
pub not_alone_among_slivers : ((b : Board) (ws vs ts : List ℕ) → whole_fault teams b ws ≡ fine → whole_fault teams b vs ≡ fine →
    own b ws ≡ own b vs → verdict_for b ws ts ≡ verdict_for b vs ts) → ⊥
unfolding everything
not_alone_among_slivers claim =
    let e : given (meets 8) ≡ refused 12 1 = claim (on_at_least 8 0 2) (0 ∷ 2 ∷ 0 ∷ []) (0 ∷ 2 ∷ 0 ∷ 4 ∷ 5 ∷ 1 ∷ []) [] refl refl refl in
    let z : ◌≡◌ {A = ℕ} 0 1 = cc in
    omega arith

-- what is answered at m may be refused at a greater one, and at 0
pub not_greater : ((P o m n : ℕ) (ws ts : List ℕ) → shared_fault teams (on_at_least P o m) ws ≡ fine → m ≤ n →
    verdict_for (on_at_least P o m) ws ts ≡ verdict_for (on_at_least P o n) ws ts) → ⊥
unfolding everything
not_greater claim =
    let e : given (meets 8) ≡ refused 12 0 = claim 8 0 2 3 (0 ∷ 2 ∷ 0 ∷ []) [] refl (omega arith) in
    let z : ◌≡◌ {A = ℕ} 0 1 = cc in
    omega arith

pub not_to_zero : ((P o m n : ℕ) (ws ts : List ℕ) → shared_fault teams (on_at_least P o m) ws ≡ fine → n ≤ m →
    verdict_for (on_at_least P o m) ws ts ≡ verdict_for (on_at_least P o n) ws ts) → ⊥
unfolding everything
not_to_zero claim =
    let e : given (meets 8) ≡ refused 12 64 = claim 8 0 2 0 (0 ∷ 2 ∷ 0 ∷ []) [] refl (omega arith) in
    let z : ◌≡◌ {A = ℕ} 0 1 = cc in
    omega arith

-- ---- boards that pay for a switch

-- 13 is not asked of both teams: with two ticks lost owner 1 is left nothing of its (3,5), and owner 0 is answered all the same
pub not_both_left : ((P q : ℕ) (ws ts : List ℕ) → verdict_for (losing P 1 q) ws ts ≡ refused 13 0 → verdict_for (losing P 0 q) ws ts ≡ refused 13 0) → ⊥
unfolding everything
not_both_left claim =
    let e : given (meets 8) ≡ refused 13 0 = claim 8 2 lab_shared [] refl in
    let z : ◌≡◌ {A = ℕ} 0 1 = cc in
    omega arith

-- rule 2 with a loss does not answer as rule 1, where neither refuses: W4's task, which meets on X, misses with one tick lost
pub not_as_rule_one : ((P o q : ℕ) (ws ts : List ℕ) → shared_fault teams (losing P o q) ws ≡ fine → shared_fault teams (on_for P o) ws ≡ fine → 1 ≤ q →
    verdict_for (losing P o q) ws ts ≡ verdict_for (on_for P o) ws ts) → ⊥
unfolding everything
not_as_rule_one claim =
    let e : given (miss 4 2 1 0) ≡ given (meets 8) = claim 8 0 1 (as_owned 0 X) (1 ∷ 4 ∷ 4 ∷ []) refl refl (omega arith) in
    let z : ◌≡◌ {A = ℕ} 0 1 = cc in
    omega arith

-- it is not the last ticks that are lost: with one tick lost the window (0,2) gives tick 1, and not tick 0
pub not_last_lost : ((P o q : ℕ) (ws : List ℕ) (k : ℕ) → supplied_by (losing P o q) (own (losing P o q) ws) k ≡ true →
    (i : ℕ) × (i < length (owned_of ws)) × (start_at (owned_of ws) i ≤ k % P) × (k % P + q < end_at (owned_of ws) i)) → ⊥
unfolding everything
not_last_lost claim =
    let c = claim 8 0 1 (0 ∷ 2 ∷ 0 ∷ []) 1 refl in
    go c.0 c.1 c.3
  where
    go : (i : ℕ) → i < 1 → 1 + 1 < end_at (owned_of (0 ∷ 2 ∷ 0 ∷ [])) i → ⊥
    go zero l h = omega arith
    go (suc i) l h = omega arith

pub not_first_kept : ((P o q : ℕ) (ws : List ℕ) (k i : ℕ) → i < length (owned_of ws) → (owned_at (owned_of ws) i).owner ≡ o → start_at (owned_of ws) i ≤ k % P →
    k % P + q < end_at (owned_of ws) i → supplied_by (losing P o q) (own (losing P o q) ws) k ≡ true) → ⊥
unfolding everything
not_first_kept claim = false≢true (claim 8 0 1 (0 ∷ 2 ∷ 0 ∷ []) 0 0 (omega arith) refl (omega arith) (omega arith))

-- ---- edits (request 6) depend on the other team. The claim that a refusal of an edit depends on the owner's windows alone, before and after it, where the
-- tables and the summary have no fault and the memories are of one length, is false of each refusal below; but for an owner's absence, after which it has none
abbrev ByOwnAnd : (Board → ℕ → ℕ → List ℕ → List ℕ → Edit → Type 0) → ℕ → ℕ → Type 0
ByOwnAnd After n p = (b : Board) (count k : ℕ) (memory m s : List ℕ) (edit : Edit) →
    3 * count ≤ length memory → shared_fault teams b (table_in count memory) ≡ fine → summary_fault b (own b (table_in count memory)) s ≡ fine →
    3 * k ≤ length m → shared_fault teams b (table_in k m) ≡ fine → length memory ≡ length m → own b (table_in count memory) ≡ own b (table_in k m) →
    After b count k memory m edit → edit_answer teams b count memory s edit ≡ refused n p → edit_answer teams b k m s edit ≡ refused n p

abbrev ByOwn : ℕ → ℕ → Type 0
ByOwn = ByOwnAnd (λ b count k memory m edit. own b (edited_list count memory edit) ≡ own b (edited_list k m edit))

-- of the windows before it alone
abbrev ByOwnBefore : ℕ → ℕ → Type 0
ByOwnBefore = ByOwnAnd (λ b count k memory m edit. Unit {0})

-- owner 0's window alone, or owner 1's behind it
abbrev two_teams : List ℕ
two_teams = 0 ∷ 2 ∷ 0 ∷ 4 ∷ 6 ∷ 1 ∷ 9 ∷ 9 ∷ 9 ∷ []

-- a summary of owner 0's, in room for more
abbrev two_summary : List ℕ
two_summary = 2 ∷ 12 ∷ 1 ∷ 6 ∷ 8 ∷ 9 ∷ 9 ∷ []

-- an edit that is made
abbrev left : ℕ → ℕ → Answer Edited
left windows numbers = given (record { windows = windows; numbers = numbers })

-- which index there is: with owner 1's window a second one can be removed
pub not_own_index : ByOwn 7 0 → ⊥
unfolding everything
not_own_index claim =
    let e : left 1 5 ≡ refused 7 0 = claim (on 8) 1 2 two_teams two_teams two_summary (remove 1) (omega arith) refl refl (omega arith) refl refl refl refl refl in
    let z : ◌≡◌ {A = ℕ} 0 1 = cc in
    omega arith

-- 3 of the new table: owner 0's window can grow until owner 1's begins
pub not_own_rule : ByOwn 3 1 → ⊥
unfolding everything
not_own_rule claim =
    let e : left 1 5 ≡ refused 3 1 = claim (on 8) 2 1 two_teams two_teams two_summary (move 0 0 5) (omega arith) refl refl (omega arith) refl refl refl refl refl in
    let z : ◌≡◌ {A = ℕ} 0 1 = cc in
    omega arith

-- 1 of the new table: the first window is owner 0's only one, or owner 1's
pub not_own_absence : ByOwnBefore 1 0 → ⊥
unfolding everything
not_own_absence claim =
    let e : left 1 5 ≡ refused 1 0 =
    claim (on 8) 2 2 (2 ∷ 4 ∷ 0 ∷ 5 ∷ 6 ∷ 1 ∷ []) (0 ∷ 1 ∷ 1 ∷ 2 ∷ 4 ∷ 0 ∷ []) two_summary (remove 0)
    (omega arith) refl refl (omega arith) refl refl refl tt refl in
    let z : ◌≡◌ {A = ℕ} 0 1 = cc in
    omega arith

-- 12 of the new table: a sliver of owner 0 that owner 1's window overlaps is a 3
pub not_own_sliver : ByOwn 12 1 → ⊥
unfolding everything
not_own_sliver claim =
    let e : ◌≡◌ {A = Answer Edited} (refused 3 2) (refused 12 1) =
    claim (on_at_least 8 0 2) 1 2 two_teams two_teams two_summary (add 1 4 5 0) (omega arith) refl refl (omega arith) refl refl refl refl refl in
    let z : ◌≡◌ {A = ℕ} 3 12 = cc in
    omega arith

-- 8 for the windows: there is room for one more beside owner 0's alone
pub not_own_room : ByOwn 8 9 → ⊥
unfolding everything
not_own_room claim =
    let memory : List ℕ = 0 ∷ 2 ∷ 0 ∷ 6 ∷ 8 ∷ 1 ∷ [] in
    let e : left 2 5 ≡ refused 8 9 = claim (on 8) 2 1 memory memory two_summary (add 1 3 5 1) (omega arith) refl refl (omega arith) refl refl refl refl refl in
    let z : ◌≡◌ {A = ℕ} 0 1 = cc in
    omega arith

-- nor does the number of windows that is answered depend on them alone
pub not_own_count : ((b : Board) (count k : ℕ) (memory s : List ℕ) (edit : Edit) (x y : Edited) → own b (table_in count memory) ≡ own b (table_in k memory) →
    edit_answer teams b count memory s edit ≡ given x → edit_answer teams b k memory s edit ≡ given y → x.windows ≡ y.windows) → ⊥
unfolding everything
not_own_count claim =
    let e : ◌≡◌ {A = ℕ} 1 2 = claim (on 8) 1 2 two_teams two_summary (move 0 0 1) _ _ refl refl refl in
    omega arith

-- 64 windows, and room for one more
abbrev crowd : List ℕ
crowd = 0 ∷ 1 ∷ 0 ∷ others 64

-- owner 0's summary, which nothing here computes
abbrev crowd_summary : List ℕ
crowd_summary = written (summary_of (on 200) (0 ∷ 1 ∷ [])) []

-- 1 of the new table by its number of windows: one can be added beside owner 0's alone, and not beside 63 of owner 1's too
pub not_own_number : ByOwn 1 0 → ⊥
unfolding numbers·compute tables·compute table_faults·compute constructors·compute shared_faults·compute edited
not_own_number claim =
    let fresh : List ℕ = summary_of (on 200) (0 ∷ 1 ∷ []) in
    let front = written_begins fresh [] in
    let ready : Ready teams (on 200) 64 crowd crowd_summary = record { counted = omega arith; before = refl; belongs = front } in
    let full = new_refused teams (on 200) 64 crowd crowd_summary (add 1 1 2 1) ready (omega arith) 1 0 refl in
    let alone = parts_given teams (on 200) 1 crowd crowd_summary (add 1 1 2 1) (record {
      fitting = record { ready = record { counted = omega arith; before = refl; belongs = front }; allowed = omega arith; after = refl };
      room = omega arith;
      summary_room = begins_length fresh crowd_summary front;
    }) in
    let belongs = begins_fine (on 200) (0 ∷ 1 ∷ []) crowd_summary front in
    let e = sym alone ∙ claim (on 200) 64 1 crowd crowd crowd_summary (add 1 1 2 1) (omega arith) refl belongs (omega arith) refl refl refl refl full in
    let z : ◌≡◌ {A = ℕ} 0 1 = cc in
    omega arith
