-- What the code's types say, in the words of `scope`: the documents' number, place and values for every case of every answer
use Rattle.std.specs.Prelude.{ℕ, Bool, ℤ, List, ◌++◌, codes, decimal}
use Rattle.scope.specs.Windows as Windows
use Rattle.scope.specs.Tasks as Tasks
use Rattle.scope.specs.Verdict as Verdicts
use Rattle.scope.specs.Bound as Bounds
use Rattle.scope.specs.Summary as Summaries
use Rattle.scope.specs.Answers as Answers
use Rattle.scope.specs.Answers.{Fault, Fault.fine, Fault.fault, Answer, Answer.given, Answer.refused}
use Rattle.std.specs.declared.option.Option.{Option}
use Rattle.std.specs.declared.option.Option.TheVariants.{Some, None}
use Rattle.std.specs.declared.result.Result.{Result}
use Rattle.std.specs.declared.result.Result.TheVariants.{Ok, Err}
use Rattle.tables.specs.declared.answer.Refusal.{Refusal}
use Rattle.tables.specs.declared.answer.Refusal.TheVariants.{WindowList, Frame, Window, TaskList, Task, Cycle, Asked, Room, Bytes, JobList, Job, Sliver, Loss, Summary}
use Rattle.tables.specs.declared.answer.Delay as delay
use Rattle.tables.specs.declared.answer.Verdict as verdict
use Rattle.tables.specs.declared.answer.Edited as edited
use Rattle.tables.specs.declared.board.Board as board
use Rattle.tables.specs.declared.window.Window as window
use Rattle.tables.specs.declared.task.Task as task
use Rattle.tables.specs.declared.length.Length as lengths

-- ---- values

abbrev pub board_of : board.Board → Windows.Board
board_of b = record { frame = b.frame; owner = b.owner; shortest = b.shortest; rule = b.rule; lost = b.lost }

abbrev pub window_of : window.Window → Windows.Window
window_of w = record { start = w.start; end = w.end }

abbrev pub task_of : task.Task → Tasks.Task
task_of x = record { C = x.work; T = x.period; D = x.deadline }

-- ---- refusals

abbrev pub number : Refusal → ℕ
number WindowList = 1
number Frame = 2
number (Window i) = 3
number TaskList = 4
number (Task i) = 5
number Cycle = 6
number Asked = 7
number (Room n) = 8
number (Bytes o) = 9
number JobList = 10
number (Job i) = 11
number (Sliver i) = 12
number Loss = 13
number Summary = 14

abbrev pub place : Refusal → ℕ
place WindowList = 0
place Frame = 0
place (Window i) = i
place TaskList = 0
place (Task i) = i
place Cycle = 0
place Asked = 0
place (Room n) = n
place (Bytes o) = o
place JobList = 0
place (Job i) = i
place (Sliver i) = i
place Loss = 0
place Summary = 0

-- the text that a refusal is printed as
abbrev pub refusal_text : Refusal → List ℕ
refusal_text r = codes "REFUSED " ++ decimal (number r) ++ codes " at " ++ decimal (place r)

abbrev pub fault_of : Result (Unit {0}) Refusal → Fault
fault_of (Ok u) = fine
fault_of (Err r) = fault (number r) (place r)

abbrev pub no : {A : Type 0} → Refusal → Answer A
no r = refused (number r) (place r)

-- ---- answers: the value in the words of `scope`, or the refusal's number and place

abbrev pub told : {A B : Type 0} → (A → B) → Result A Refusal → Answer B
told says (Ok a) = given (says a)
told says (Err r) = no r

abbrev pub told_supplied : Result Bool Refusal → Answer Bool
told_supplied = told (λ b. b)

abbrev pub told_amount : Result ℕ Refusal → Answer ℕ
told_amount = told (λ n. n)

abbrev pub delay_of : delay.Delay → Answers.Delay
delay_of d = record { delay = d.delay; A = d.per_frame }

abbrev pub told_delay : Result delay.Delay Refusal → Answer Answers.Delay
told_delay = told delay_of

abbrev pub told_margin : Result ℤ Refusal → Answer ℤ
told_margin = told (λ z. z)

abbrev pub verdict_of : verdict.Verdict → Verdicts.Verdict
verdict_of (verdict.TheVariants.Meets h) = Verdicts.meets h
verdict_of (verdict.TheVariants.Miss t s d p) = Verdicts.miss t s d p

abbrev pub told_verdict : Result verdict.Verdict Refusal → Answer Verdicts.Verdict
told_verdict = told verdict_of

-- no bound is none
abbrev pub bound_of : Option ℕ → Bounds.Bound
bound_of (Some t) = Bounds.bound t
bound_of None = Bounds.no_bound

abbrev pub told_bound : Result (Option ℕ) Refusal → Answer Bounds.Bound
told_bound = told bound_of

abbrev pub edited_of : edited.Edited → Summaries.Edited
edited_of e = record { windows = e.windows; numbers = e.numbers }

abbrev pub told_edited : Result edited.Edited Refusal → Answer Summaries.Edited
told_edited = told edited_of

-- ---- constructors' answers

abbrev pub told_board : Result board.Board Refusal → Answer Windows.Board
told_board = told board_of

abbrev pub told_window : Result window.Window Refusal → Answer Windows.Window
told_window = told window_of

abbrev pub told_task : Result task.Task Refusal → Answer Tasks.Task
told_task = told task_of

abbrev pub told_length : Result lengths.Length Refusal → Answer ℕ
told_length = told (λ (t : lengths.Length). t.ticks)
