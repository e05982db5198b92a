-- Document 02, request 5: what stands after a plan file's settings is read as the file without them, the early answers too, and refusal 9 names an offset that is
-- later by as many bytes as the settings have. Over any settings
use Rattle.std.specs.Prelude.{◌≡◌, Bool, cond, ◌||◌, eqb}
use Rattle.std.proofs.Math.Path.{refl, sym, ap}
use Rattle.std.proofs.Common.{◌∙◌, arith, add-zero, zero-add, add_assoc, drop-drop}
use Rattle.std.proofs.Math.Bool.{true, false}
use Rattle.std.proofs.Math.Option.{Option, none, some}
use mathlib.Core.List.{List, [], ◌∷◌, ◌++◌}
use Prim.Native.Nat.{ℕ, zero, suc, ◌+◌, ◌*◌}
use Rattle.std.proofs.Math.Decide.{dec_le, dec_lt}
use Rattle.std.proofs.Math.Dec.{ltb}
use Rattle.std.proofs.Math.ListN.{length, drop, length-append}
use Rattle.std.proofs.Math.Seq.{drop-append_seam}
use borrow.Author.Tests.{le-leb, lt-leb, lt-ltb, le-ltb}
use Rattle.scope.specs.Limits.{most_windows, most_tasks, most_number}
use Rattle.scope.specs.Answers.{Answer, Answer.given, Answer.refused, fault_if, unless}
use Rattle.scope.specs.Plan.{Groups, well_formed, groups, Read, Read.read, Read.bad, read_groups, read_number, and_read, read_numbers, Plan, or_nine, past, and_then, count_fault}
use Rattle.scope.specs.Plan.{window_count_fault, task_count_fault, rest_fault, Listed, as_listed, counted_from, lists_from, plan_from, plan_of, numbers_bytes}
use Rattle.scope.specs.Shared.{as_owned, verdict_for, plan_board, plan_answer}
use Rattle.theory.specs.Seven.{UpTo}
use Rattle.theory.specs.Series.{written_numbers}

-- a plan with other settings
abbrev pub with_settings : List ℕ → Plan → Plan
with_settings l p = record { settings = l; frame = p.frame; windows = p.windows; tasks = p.tasks }

-- what is read n bytes later
abbrev later : {A : Type 0} → ℕ → Read A → Read A
later n (read a next) = read a (n + next)
later n (bad o) = bad (n + o)

-- what is given then, and 9 at an offset that is as much later; no other refusal has another place
abbrev pub behind : {A B : Type 0} → ℕ → (A → B) → Answer A → Answer B
behind n f (given a) = given (f a)
behind n f (refused number place) = refused number (cond (eqb number 9) (n + place) place)

module _ (front bytes : List ℕ) where
  abbrev n : ℕ
  n = length front

  abbrev all : List ℕ
  all = front ++ bytes

  groups_later : (at : ℕ) (o : Option Groups) → read_groups (n + at) o ≡ later n (read_groups at o)
  groups_later at none = refl
  groups_later at (some r) = go (well_formed r)
    where
      go : (t : Bool) → cond t (read r.value (n + at + r.size)) (bad (n + at)) ≡ later n (cond t (read r.value (at + r.size)) (bad at))
      go true = ap (read r.value) (add_assoc n at r.size)
      go false = refl

  number_later : (at : ℕ) → read_number all (n + at) ≡ later n (read_number bytes at)
  unfolding read_number
  number_later at =
      let size : length all ≡ n + length bytes = length-append front bytes in
      let rest : drop (n + at) all ≡ drop at bytes = sym (drop-drop at n all) ∙ ap (drop at) (drop-append_seam front bytes) in
      elim (dec_le (length bytes) at) [
        | yes h ↦ rw (size, le-leb (n + length bytes) (n + at) (omega arith), le-leb (length bytes) at h)
        | no h ↦ rw (size, lt-leb (n + length bytes) (n + at) (omega arith), lt-leb (length bytes) at (omega arith), rest) (groups_later at (groups (drop at bytes)))
      ]

  numbers_later : (k at : ℕ) → read_numbers all k (n + at) ≡ later n (read_numbers bytes k at)
  unfolding read_numbers
  numbers_later zero at = refl
  numbers_later (suc k) at = rw (numbers_later k at) (go (read_numbers bytes k at))
    where
      one : (l : List ℕ) (r : Read ℕ) → and_read (later n r) (λ v after. read (l ++ (v ∷ [])) after) ≡ later n (and_read r (λ v after. read (l ++ (v ∷ [])) after))
      one l (read v after) = refl
      one l (bad o) = refl

      go : (r : Read (List ℕ)) →
          and_read (later n r) (λ l next. and_read (read_number all next) (λ v after. read (l ++ (v ∷ [])) after))
          ≡ later n (and_read r (λ l next. and_read (read_number bytes next) (λ v after. read (l ++ (v ∷ [])) after)))
      go (read l next) = rw (number_later next) (one l (read_number bytes next))
      go (bad o) = refl

  or_nine_later : {A B C : Type 0} (r : Read A) (f : A → ℕ → Answer C) (g : A → ℕ → Answer B) (h : B → C) →
      ((a : A) (next : ℕ) → f a (n + next) ≡ behind n h (g a next)) → or_nine (later n r) f ≡ behind n h (or_nine r g)
  or_nine_later (read a next) f g h e = e a next
  or_nine_later (bad o) f g h e = refl

  then_later : {A B C D : Type 0} (x : Answer A) (u : A → B) (f : B → Answer D) (g : A → Answer C) (h : C → D) →
      ((a : A) → f (u a) ≡ behind n h (g a)) → and_then (behind n u x) f ≡ behind n h (and_then x g)
  then_later (given a) u f g h e = e a
  then_later (refused m p) u f g h e = refl

  abbrev listed : Listed → Listed
  listed x = record { numbers = x.numbers; next = n + x.next }

  module _ (k least most number : ℕ) (other : eqb number 9 ≡ false) where
    counted_later : (at : ℕ) → counted_from k (count_fault least most number) all (n + at) ≡ behind n listed (counted_from k (count_fault least most number) bytes at)
    unfolding counted_from
    counted_later at = rw (number_later at) (or_nine_later (read_number bytes at) _ _ listed (λ c next. go c next (ltb c least || ltb most c)))
      where
        go : (c next : ℕ) (t : Bool) → past (fault_if t number 0) (or_nine (read_numbers all (k * c) (n + next)) as_listed)
            ≡ behind n listed (past (fault_if t number 0) (or_nine (read_numbers bytes (k * c) next) as_listed))
        go c next true = rw other
        go c next false = rw (numbers_later (k * c) next) (or_nine_later (read_numbers bytes (k * c) next) as_listed as_listed listed (λ l end. refl))

  rest_later : (at : ℕ) (p q : Plan) (f : Plan → Plan) → q ≡ f p → unless (rest_fault all (n + at)) q ≡ behind n f (unless (rest_fault bytes at) p)
  unfolding rest_fault
  rest_later at p q f e =
      let size : length all ≡ n + length bytes = length-append front bytes in
      elim (dec_lt at (length bytes)) [
        | yes h ↦ rw (size, lt-ltb (n + at) (n + length bytes) (omega arith), lt-ltb at (length bytes) h)
        | no h ↦ rw (size, le-ltb (n + at) (n + length bytes) (omega arith), le-ltb at (length bytes) (omega arith), e)
      ]

  plan_later : (l : List ℕ) (at : ℕ) → plan_from all l (n + at) ≡ behind n (with_settings l) (plan_from bytes [] at)
  unfolding plan_from lists_from
  plan_later l at =
      rw (number_later at) (or_nine_later (read_number bytes at) _ _ (with_settings l) (λ P next.
      rw (counted_later 2 1 most_windows 1 refl next) (then_later (counted_from 2 window_count_fault bytes next) listed _ _ (with_settings l) (λ ws.
      rw (counted_later 3 0 most_tasks 4 refl ws.next) (then_later (counted_from 3 task_count_fault bytes ws.next) listed _ _ (with_settings l) (λ ts.
      rest_later ts.next _ _ (with_settings l) refl))))))

-- a file of settings and then these bytes
module _ (l bytes : List ℕ) (u : UpTo most_number l) where
  pub settings_before : plan_of (length l) (numbers_bytes l ++ bytes) ≡ behind (length (numbers_bytes l)) (with_settings l) (plan_of 0 bytes)
  unfolding plan_of read_numbers
  settings_before =
      rw (written_numbers (numbers_bytes l ++ bytes) bytes l 0 u refl, zero-add)
      (ap (plan_from (numbers_bytes l ++ bytes) l) (sym (add-zero (length (numbers_bytes l)))) ∙ plan_later (numbers_bytes l) bytes l 0)

  -- what is no plan of the old form is refused as there
  pub refused_behind : (number place : ℕ) → plan_of 0 bytes ≡ refused number place →
      plan_answer (length l) (numbers_bytes l ++ bytes) ≡ refused number (cond (eqb number 9) (length (numbers_bytes l) + place) place)
  unfolding plan_answer
  refused_behind number place e = rw (settings_before, e)

  -- and a plan is judged by its own numbers on the board that the settings make
  pub judged_behind : (p : Plan) → plan_of 0 bytes ≡ given p →
      plan_answer (length l) (numbers_bytes l ++ bytes) ≡ verdict_for (plan_board (with_settings l p)) (as_owned 0 p.windows) p.tasks
  unfolding plan_answer
  judged_behind p e = rw (settings_before, e)
