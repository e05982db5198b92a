-- What is written, piece after piece, and how many bytes it takes at most
use mathlib.Core.Path.{◌≡◌, sym, ap, ◌∙◌}
use Prim.Native.Nat.{ℕ, ◌+◌, ◌*◌, ◌/◌, ◌%◌, ◌^◌, ◌≤◌, ◌<◌}
use mathlib.Core.List.{List, [], ◌∷◌, ◌++◌, append_assoc}
use native.Mathlib.Numerals.{add-one}
use lib.ListN.{length, get_or, set, take, length-append}
use lib.Seq.{length-take-le, take-suc}
use native.Mathlib.Omega.{arith}
use Rattle.std.proofs.lemmas.List.{take_more_set}
use Rattle.scope.specs.Limits.{most_windows, most_tasks}
use Rattle.scope.specs.Answers.{Fault.fine, window_list_fault, task_list_fault}
use Rattle.scope.specs.Line.{digit, decimal}
use Rattle.scope.specs.Plan.{number_bytes, numbers_bytes}
use Rattle.theory.specs.Answers.{room_fine, window_list_legal, task_list_legal}
use Rattle.theory.specs.Writing.{decimal_one, decimal_longer, decimal_short, decimal_more, number_one, number_longer, number_short, number_more, numbers_more}

pub decimal_most : (n : ℕ) → n < 2 ^ 64 → length (decimal n) ≤ 20
decimal_most n h = decimal_short 19 n (omega arith)

pub number_most : (n : ℕ) → n < 2 ^ 32 → length (number_bytes n) ≤ 5
number_most n h = number_short 4 n (omega arith)

pub number_least : (n : ℕ) → n < 128 → length (number_bytes n) ≤ 1
number_least n h = number_short 0 n (omega arith)

-- lists that pass have no more windows and tasks than a plan can
pub windows_short : (ws : List ℕ) → fine ≡ window_list_fault ws → length ws ≤ 2 * most_windows
windows_short ws e = (window_list_legal ws (sym e)).2

pub tasks_short : (ts : List ℕ) → fine ≡ task_list_fault ts → length ts ≤ 3 * most_tasks
tasks_short ts e = (task_list_legal ts (sym e)).1

-- what is added makes it so much longer
pub longer : {a : List ℕ} (b c : List ℕ) → a ≡ b ++ c → length a ≡ length b + length c
longer b c e = ap length e ∙ length-append b c

-- a number stored in a buffer: its one group, or its first group and then the others
module _ (old : List ℕ) (at : ℕ) (room : at < length old) (n : ℕ) where
  pub group_then : n < 128 → take (at + 1) (set old at n) ≡ take at old ++ number_bytes n
  group_then h = rw (number_one n h) (take_more_set old at n room)

  pub groups_then : {new : List ℕ} → 128 ≤ n → new ≡ take (at + 1) (set old at (128 + n % 128)) ++ number_bytes (n / 128) → new ≡ take at old ++ number_bytes n
  groups_then h is = rw (is, take_more_set old at (128 + n % 128) room, number_more n h, append_assoc)

-- in two steps: a number's first digits and the last, the numbers so far and the next
module _ (old : List ℕ) {mid new : List ℕ} where
  pub digits_then : (n : ℕ) → 10 ≤ n → mid ≡ old ++ decimal (n / 10) → new ≡ mid ++ (digit (n % 10) ∷ []) → new ≡ old ++ decimal n
  digits_then n h e is = rw (is, e, decimal_more n h, append_assoc)

  pub numbers_then : (list : List ℕ) (i : ℕ) → i < length list →
      mid ≡ old ++ numbers_bytes (take i list) → new ≡ mid ++ number_bytes (get_or list i 0) → new ≡ old ++ numbers_bytes (take (i + 1) list)
  numbers_then list i h e is = rw (is, e, add-one i, take-suc list i 0 h, numbers_more, append_assoc)

-- what a digit or a group, a part of a text, and the checks before it is delivered ask for
pub ruleset by_digits = (longer, length-append, digits_then, decimal_one, decimal_longer)

pub ruleset by_groups = (group_then, groups_then, number_one, number_longer)

pub ruleset part_by_part = (longer, length-append, numbers_then, decimal_most, number_most, number_least)

pub ruleset delivered = (room_fine, windows_short, tasks_short, length-take-le)
