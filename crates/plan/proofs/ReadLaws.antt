-- A plan file part by part: each way in which a reader leaves a part is an answer of the whole
use mathlib.Core.Path.{◌≡◌, sym}
use mathlib.Core.List.{List}
use Prim.Native.Nat.{ℕ, ◌+◌, ◌*◌, ◌≤◌, ◌<◌}
use native.Mathlib.Omega.{arith}
use native.Mathlib.Numerals.{add-one}
use native.Mathlib.Decide.{le_ind, dec_lt}
use lib.ListN.{length, set, take}
use lib.Seq.{take-suc-set}
use borrow.Author.Tests.{lt-ltb, le-ltb}
use Rattle.scope.specs.Limits.{most_windows}
use Rattle.scope.specs.Answers.{Fault.fault, Answer, Answer.given, Answer.refused, unless}
use Rattle.scope.specs.Plan.{Read, Read.read, Read.bad, read_number, read_numbers, or_nine, past, and_then, count_fault, rest_fault, Plan, plan_of}
use Rattle.scope.specs.Verdict.{Verdict}
use Rattle.scope.specs.Shared.{as_owned, verdict_for, plan_board, plan_answer}
use Rattle.theory.specs.Answers.{window_list_legal}
use Rattle.theory.specs.Plan.{count_fine}
use Rattle.theory.specs.PlanBytes.{read_writable}
use Rattle.tables.specs.declared.answer.Refusal.{Refusal}
use Rattle.tables.specs.Told.{number, place, no as refusedBy}

-- ---- `?`: what is refused ends the reading, and what is read leaves it to the next part

pub nine_there : {A B : Type 0} {x : Read A} {o : ℕ} (f : A → ℕ → Answer B) → bad o ≡ x → refused 9 o ≡ or_nine x f
nine_there f e = rw (← e)

pub read_there : {A B : Type 0} {x : Read A} {a : A} {next : ℕ} {r : Answer B} (f : A → ℕ → Answer B) → read a next ≡ x → r ≡ f a next → r ≡ or_nine x f
read_there f e k = rw (← e) k

pub refused_first : {A B : Type 0} {x : Answer A} {n p : ℕ} (f : A → Answer B) → refused n p ≡ x → refused n p ≡ and_then x f
refused_first f e = rw (← e)

pub given_first : {A B : Type 0} {x : Answer A} {a : A} {r : Answer B} (f : A → Answer B) → given a ≡ x → r ≡ f a → r ≡ and_then x f
given_first f e k = rw (← e) k

-- ---- the loop over the numbers of a list

module _ (bytes : List ℕ) (at i next : ℕ) where
  -- one number more, stored just after the others
  pub stores_more : (out : List ℕ) → read_numbers bytes i at ≡ read (take i out) next → i < length out →
      (v after : ℕ) → read_number bytes next ≡ read v after → read_numbers bytes (i + 1) at ≡ read (take (i + 1) (set out i v)) after
  unfolding read_numbers
  stores_more out so_far h v after e = rw (add-one i, take-suc-set out i v h, so_far, e)

  -- once bad, bad for all longer lists
  pub stops : (l : List ℕ) → read_numbers bytes i at ≡ read l next →
      (o n : ℕ) → read_number bytes next ≡ bad o → i < n → read_numbers bytes n at ≡ bad o
  unfolding read_numbers
  stops l so_far o n e h = le_ind (λ (m : ℕ). read_numbers bytes m at ≡ bad o) (rw (so_far, e)) (λ m k ih. rw ih) n h

-- ---- a count, and so many numbers for each

pub count_outside : (least most number n : ℕ) → ((least ≤ n) × (n ≤ most) → ⊥) → count_fault least most number n ≡ fault number 0
count_outside least most number n h =
    elim (dec_lt n least) [
      | yes l ↦ rw (lt-ltb n least l)
      | no l ↦
          elim (dec_lt most n) [
            | yes m ↦ rw (le-ltb n least (omega arith), lt-ltb most n m)
            | no m ↦ absurd (h (omega arith, omega arith))
          ]
    ]

-- a count that is refused, and one that passes
pub count_refused : {A : Type 0} (least most n : ℕ) (r : Refusal) (a : Answer A) → place r ≡ 0 → ((least ≤ n) × (n ≤ most) → ⊥) →
    refusedBy r ≡ past (count_fault least most (number r) n) a
count_refused least most n r a z h = rw (z, count_outside least most (number r) n h)

pub count_taken : {A : Type 0} (least most number n : ℕ) {a r : Answer A} → least ≤ n → n ≤ most → r ≡ a → r ≡ past (count_fault least most number n) a
count_taken least most number n l m e = rw (count_fine least most number n l m) e

-- ---- the end of the file

module _ (bytes : List ℕ) (end : ℕ) where
  pub bytes_left : {A : Type 0} (a : A) → end < length bytes → refused 9 end ≡ unless (rest_fault bytes end) a
  unfolding rest_fault
  bytes_left a h = rw (lt-ltb end (length bytes) h)

  pub all_read : {A : Type 0} (a : A) → length bytes ≤ end → given a ≡ unless (rest_fault bytes end) a
  unfolding rest_fault
  all_read a h = rw (le-ltb end (length bytes) h)

-- ---- a plan file, judged

module _ (k : ℕ) (bytes : List ℕ) where
  pub plan_refused : {n p : ℕ} → refused n p ≡ plan_of k bytes → refused n p ≡ plan_answer k bytes
  unfolding plan_answer
  plan_refused e = rw (← e)

  pub plan_judged : (p : Plan) {r : Answer Verdict} → given p ≡ plan_of k bytes → r ≡ verdict_for (plan_board p) (as_owned 0 p.windows) p.tasks → r ≡ plan_answer k bytes
  unfolding plan_answer
  plan_judged p e is = rw (← e) is

  -- its windows fit their room
  pub plan_windows : (p : Plan) → given p ≡ plan_of k bytes → length p.windows ≤ 2 * most_windows
  plan_windows p e = omega (arith, window_list_legal p.windows (read_writable k bytes p (sym e)).window_list)

-- what the loop over numbers and the parts of a plan ask for
pub ruleset in_a_row = (stores_more, stops)

pub ruleset part_by_part = (nine_there, read_there, refused_first, given_first, count_refused, count_taken, bytes_left, all_read)
