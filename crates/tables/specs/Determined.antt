-- Two answers of which the promises say the same are equal: each definition of Told tells all cases apart, for it can be undone
use Rattle.std.specs.Prelude.{ℕ, ℤ, Bool, ◌≡◌, refl, cond, eqb}
use Rattle.std.proofs.Common.{sym, ap, ◌∙◌}
use Rattle.scope.specs.Windows as Windows
use Rattle.scope.specs.Tasks as Tasks
use Rattle.scope.specs.Verdict as Verdicts
use Rattle.scope.specs.Bound as Bounds
use Rattle.scope.specs.Answers.{Fault, Fault.fine, Fault.fault, Answer, Answer.given, Answer.refused}
use Rattle.std.specs.declared.option.Option.{Option}
use Rattle.std.specs.declared.option.Option.TheVariants.{Some, None}
use Rattle.std.specs.declared.result.Result.{Result}
use Rattle.std.specs.declared.result.Result.TheVariants.{Ok, Err}
use Rattle.tables.specs.declared.answer.Refusal.{Refusal}
use Rattle.tables.specs.declared.answer.Refusal.TheVariants.{WindowList, Frame, Window, TaskList, Task, Cycle, Asked, Room, Bytes, JobList, Job, Sliver, Loss, Summary}
use Rattle.tables.specs.declared.answer.Delay as delay
use Rattle.tables.specs.declared.answer.Verdict as verdict
use Rattle.tables.specs.declared.answer.Edited as edited
use Rattle.tables.specs.declared.board.Board as board
use Rattle.tables.specs.declared.length.Length as lengths
use Rattle.tables.specs.declared.window.Window as window
use Rattle.tables.specs.declared.task.Task as task
use Rattle.tables.specs.Told.{number, place, fault_of, told, told_supplied, told_amount, told_delay, told_margin, told_verdict, told_bound, told_board, told_window}
use Rattle.tables.specs.Told.{told_edited, told_task, told_length, board_of, window_of, task_of, delay_of, verdict_of, bound_of, edited_of}

-- what can be undone tells all cases apart
pub undone : {A B : Type 0} (f : A → B) (g : B → A) → ((a : A) → g (f a) ≡ a) → (a b : A) → f a ≡ f b → a ≡ b
undone f g back a b e = sym (back a) ∙ ap g e ∙ back b

-- ---- refusals: by number and place

abbrev pub refusal_of : ℕ → ℕ → Refusal
refusal_of n p =
    cond (eqb n 1) WindowList
    (cond (eqb n 2) Frame
    (cond (eqb n 3) (Window p)
    (cond (eqb n 4) TaskList
    (cond (eqb n 5) (Task p)
    (cond (eqb n 6) Cycle
    (cond (eqb n 7) Asked
    (cond (eqb n 8) (Room p)
    (cond (eqb n 9) (Bytes p)
    (cond (eqb n 10) JobList
    (cond (eqb n 11) (Job p)
    (cond (eqb n 12) (Sliver p)
    (cond (eqb n 13) Loss
    Summary))))))))))))

pub refusal_back : (r : Refusal) → refusal_of (number r) (place r) ≡ r
refusal_back WindowList = refl
refusal_back Frame = refl
refusal_back (Window i) = refl
refusal_back TaskList = refl
refusal_back (Task i) = refl
refusal_back Cycle = refl
refusal_back Asked = refl
refusal_back (Room n) = refl
refusal_back (Bytes o) = refl
refusal_back JobList = refl
refusal_back (Job i) = refl
refusal_back (Sliver i) = refl
refusal_back Loss = refl
refusal_back Summary = refl

abbrev checked_of : Fault → Result (Unit {0}) Refusal
checked_of fine = Ok tt
checked_of (fault n p) = Err (refusal_of n p)

pub checked_determined : (a b : Result (Unit {0}) Refusal) → fault_of a ≡ fault_of b → a ≡ b
checked_determined = undone fault_of checked_of back
  where
    back : (a : Result (Unit {0}) Refusal) → checked_of (fault_of a) ≡ a
    back (Ok u) = refl
    back (Err r) = ap Err (refusal_back r)

-- ---- answers: a value is made back into what it says, a refusal into its own

-- an answer made back, given how a value is
abbrev pub made : {A B : Type 0} → (B → A) → Answer B → Result A Refusal
made value (given b) = Ok (value b)
made value (refused n p) = Err (refusal_of n p)

pub told_determined : {A B : Type 0} (says : A → B) (value : B → A) → ((a : A) → value (says a) ≡ a) → (a b : Result A Refusal) →
    told says a ≡ told says b → a ≡ b
told_determined {A} says value back = undone (told says) (made value) undo
  where
    undo : (a : Result A Refusal) → made value (told says a) ≡ a
    undo (Ok a) = ap Ok (back a)
    undo (Err r) = ap Err (refusal_back r)

pub supplied_determined : (a b : Result Bool Refusal) → told_supplied a ≡ told_supplied b → a ≡ b
supplied_determined = told_determined (λ b. b) (λ b. b) (λ b. refl)

pub amount_determined : (a b : Result ℕ Refusal) → told_amount a ≡ told_amount b → a ≡ b
amount_determined = told_determined (λ n. n) (λ n. n) (λ n. refl)

pub delay_determined : (a b : Result delay.Delay Refusal) → told_delay a ≡ told_delay b → a ≡ b
delay_determined = told_determined delay_of (λ d. record { delay = d.delay; per_frame = d.A }) (λ d. refl)

pub margin_determined : (a b : Result ℤ Refusal) → told_margin a ≡ told_margin b → a ≡ b
margin_determined = told_determined (λ z. z) (λ z. z) (λ z. refl)

abbrev verdict_from : Verdicts.Verdict → verdict.Verdict
verdict_from (Verdicts.meets h) = verdict.TheVariants.Meets h
verdict_from (Verdicts.miss t s d p) = verdict.TheVariants.Miss t s d p

pub verdict_determined : (a b : Result verdict.Verdict Refusal) → told_verdict a ≡ told_verdict b → a ≡ b
verdict_determined = told_determined verdict_of verdict_from back
  where
    back : (v : verdict.Verdict) → verdict_from (verdict_of v) ≡ v
    back (verdict.TheVariants.Meets h) = refl
    back (verdict.TheVariants.Miss t s d p) = refl

abbrev bound_from : Bounds.Bound → Option ℕ
bound_from (Bounds.bound t) = Some t
bound_from Bounds.no_bound = None

pub bound_determined : (a b : Result (Option ℕ) Refusal) → told_bound a ≡ told_bound b → a ≡ b
bound_determined = told_determined bound_of bound_from back
  where
    back : (b : Option ℕ) → bound_from (bound_of b) ≡ b
    back (Some t) = refl
    back None = refl

pub edited_determined : (a b : Result edited.Edited Refusal) → told_edited a ≡ told_edited b → a ≡ b
edited_determined = told_determined edited_of (λ e. record { windows = e.windows; numbers = e.numbers }) (λ e. refl)

-- ---- structs

abbrev window_from : Windows.Window → window.Window
window_from w = record { start = w.start; end = w.end }

pub window_determined : (a b : window.Window) → window_of a ≡ window_of b → a ≡ b
window_determined = undone window_of window_from (λ a. refl)

abbrev task_from : Tasks.Task → task.Task
task_from x = record { work = x.C; period = x.T; deadline = x.D }

pub task_determined : (a b : task.Task) → task_of a ≡ task_of b → a ≡ b
task_determined = undone task_of task_from (λ a. refl)

-- ---- constructors' answers

abbrev board_from : Windows.Board → board.Board
board_from b = record { frame = b.frame; owner = b.owner; shortest = b.shortest; rule = b.rule; lost = b.lost }

pub made_board_determined : (a b : Result board.Board Refusal) → told_board a ≡ told_board b → a ≡ b
made_board_determined = told_determined board_of board_from (λ b. refl)

pub made_window_determined : (a b : Result window.Window Refusal) → told_window a ≡ told_window b → a ≡ b
made_window_determined = told_determined window_of window_from (λ w. refl)

pub made_task_determined : (a b : Result task.Task Refusal) → told_task a ≡ told_task b → a ≡ b
made_task_determined = told_determined task_of task_from (λ x. refl)

pub made_length_determined : (a b : Result lengths.Length Refusal) → told_length a ≡ told_length b → a ≡ b
made_length_determined = told_determined (λ (t : lengths.Length). t.ticks) (λ n. record { ticks = n }) (λ t. refl)
