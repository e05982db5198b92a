-- Document 01, "The plan file and its line": the file, read and written; document 02: how many settings stand before P is a parameter.
use Rattle.std.specs.Prelude.{ℕ, zero, suc, ◌+◌, ◌-◌, ◌*◌, ◌/◌, ◌%◌, Bool, cond, ◌&&◌, ◌||◌, List, [], ◌∷◌, ◌++◌, leb, ltb, eqb, length, drop}
use Rattle.std.proofs.Math.Option.{Option, none, some}
use Rattle.scope.specs.Numbers.{written}
use Rattle.scope.specs.Limits.{most_windows, most_tasks, most_number}
use Rattle.scope.specs.Answers.{Fault, Fault.fine, Fault.fault, Answer, Answer.given, Answer.refused, fault_if, ◌or_else◌, unless, unless_kept}
use Rattle.scope.specs.Answers.{window_list_fault, task_list_fault, room_fault}

-- ---- numbers

-- groups of seven bits up to the first byte whose top bit is not set: their worth, their number, and the last of them
pub record Groups : Type 0 where
  pub value : ℕ
  pub size : ℕ
  pub last : ℕ

-- a group in front of the others: the low group comes first
abbrev pub lower : ℕ → Option Groups → Option Groups
lower g none = none
lower g (some r) = some (record { value = g + 128 * r.value; size = suc r.size; last = r.last })

-- the groups at the front of the bytes; none where the bytes end before a number's last byte
unfoldable pub groups : List ℕ → Option Groups
groups [] = none
groups (b ∷ bytes) = cond (ltb b 128) (some (record { value = b; size = 1; last = b })) (lower (b - 128) (groups bytes))

-- a number is at most 4,294,967,295 and takes the fewest bytes: its last group is not 0, or is alone
unfoldable pub well_formed : Groups → Bool
well_formed r = leb r.value most_number && (eqb r.size 1 || ltb 0 r.last)

-- what is read from an offset on, with the next offset; or the offset that refusal 9 names
pub data Read (A : Type 0) : Type 0 where
  read : A → (next : ℕ) → Read A
  bad : (offset : ℕ) → Read A

abbrev pub read_groups : ℕ → Option Groups → Read ℕ
read_groups at none = bad at
read_groups at (some r) = cond (well_formed r) (read r.value (at + r.size)) (bad at)

-- a bad or unfinished number is named by its first byte, one that is missing whole by the file's length
unfoldable pub read_number : List ℕ → ℕ → Read ℕ
read_number bytes at = cond (leb (length bytes) at) (bad (length bytes)) (read_groups at (groups (drop at bytes)))

abbrev pub and_read : {A B : Type 0} → Read A → (A → ℕ → Read B) → Read B
and_read (read a next) f = f a next
and_read (bad offset) f = bad offset

-- n numbers
unfoldable pub read_numbers : List ℕ → ℕ → ℕ → Read (List ℕ)
read_numbers bytes zero at = read [] at
read_numbers bytes (suc n) at =
    and_read (read_numbers bytes n at) (λ l next. and_read (read_number bytes next) (λ v after. read (l ++ (v ∷ [])) after))

-- ---- the file

-- the settings are what stands before P: nothing, from request 5 on the shortest window, from request 7 on that, the rule and the lost ticks
pub record Plan : Type 0 where
  pub settings : List ℕ
  pub frame : ℕ
  pub windows : List ℕ
  pub tasks : List ℕ

-- go on with what was read, or refuse as 9
abbrev pub or_nine : {A B : Type 0} → Read A → (A → ℕ → Answer B) → Answer B
or_nine (read a next) f = f a next
or_nine (bad offset) f = refused 9 offset

-- go on where there is no fault
abbrev pub past : {A : Type 0} → Fault → Answer A → Answer A
past fine a = a
past (fault number place) a = refused number place

-- go on with what was given
abbrev pub and_then : {A B : Type 0} → Answer A → (A → Answer B) → Answer B
and_then (given a) f = f a
and_then (refused number place) f = refused number place

-- a count outside least to most is answered by a refusal's number
abbrev pub count_fault : (least most number : ℕ) → ℕ → Fault
count_fault least most number n = fault_if (ltb n least || ltb most n) number 0

-- a window count of 0 or over 64 answers 1 and a task count over 32 answers 4
abbrev pub window_count_fault : ℕ → Fault
window_count_fault = count_fault 1 most_windows 1

abbrev pub task_count_fault : ℕ → Fault
task_count_fault = count_fault 0 most_tasks 4

-- 9 names the first byte left over
unfoldable pub rest_fault : List ℕ → ℕ → Fault
rest_fault bytes at = fault_if (ltb at (length bytes)) 9 at

-- numbers, and the offset after them
pub record Listed : Type 0 where
  pub numbers : List ℕ
  pub next : ℕ

abbrev pub as_listed : List ℕ → ℕ → Answer Listed
as_listed l next = given (record { numbers = l; next = next })

-- a count, then k numbers for each; a fault of the count is answered as soon as it is read
unfoldable pub counted_from : ℕ → (ℕ → Fault) → List ℕ → ℕ → Answer Listed
counted_from k check bytes at =
    or_nine (read_number bytes at) (λ n after_count. past (check n) (or_nine (read_numbers bytes (k * n) after_count) as_listed))

-- window count, windows, task count, tasks, and the end of the file, after P
unfoldable pub lists_from : List ℕ → List ℕ → ℕ → ℕ → Answer Plan
lists_from bytes settings frame at =
    and_then (counted_from 2 window_count_fault bytes at) (λ windows.
    and_then (counted_from 3 task_count_fault bytes windows.next) (λ tasks.
    unless (rest_fault bytes tasks.next) (record { settings = settings; frame = frame; windows = windows.numbers; tasks = tasks.numbers })))

-- P, window count, windows, task count, tasks, after the settings
unfoldable pub plan_from : List ℕ → List ℕ → ℕ → Answer Plan
plan_from bytes settings at = or_nine (read_number bytes at) (λ frame after_frame. lists_from bytes settings frame after_frame)

-- a plan file of k settings
unfoldable pub plan_of : ℕ → List ℕ → Answer Plan
plan_of k bytes = or_nine (read_numbers bytes k 0) (λ settings after_settings. plan_from bytes settings after_settings)

-- ---- writing

-- the groups of a number, at most f + 1 of them, low group first and the top bit set on every byte but the last
unfoldable pub number_bytes_within : ℕ → ℕ → List ℕ
number_bytes_within zero n = n ∷ []
number_bytes_within (suc f) n = cond (ltb n 128) (n ∷ []) ((128 + n % 128) ∷ number_bytes_within f (n / 128))

-- the bytes of a number: a 128th of it has one group fewer, so n steps are enough
unfoldable pub number_bytes : ℕ → List ℕ
number_bytes n = number_bytes_within n n

unfoldable pub numbers_bytes : List ℕ → List ℕ
numbers_bytes [] = []
numbers_bytes (n ∷ l) = number_bytes n ++ numbers_bytes l

-- a count, then k numbers for each
abbrev pub counted_bytes : ℕ → List ℕ → List ℕ
counted_bytes k l = number_bytes (length l / k) ++ numbers_bytes l

-- settings, P, window count, windows, task count, tasks
unfoldable pub plan_bytes : Plan → List ℕ
plan_bytes p = numbers_bytes p.settings ++ number_bytes p.frame ++ counted_bytes 2 p.windows ++ counted_bytes 3 p.tasks

-- 1 and 4, which are about the counts, then 8; the numbers' ranges are for the reader of the file
unfoldable pub write_fault : Plan → ℕ → Fault
write_fault p room =
    window_list_fault p.windows or_else task_list_fault p.tasks or_else room_fault (length (plan_bytes p)) room

-- how many bytes
unfoldable pub write_answer : Plan → ℕ → Answer ℕ
write_answer p room = unless (write_fault p room) (length (plan_bytes p))

unfoldable pub write_out : Plan → List ℕ → List ℕ
write_out p out = unless_kept (write_fault p (length out)) (written (plan_bytes p) out) out
