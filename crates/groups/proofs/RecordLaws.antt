-- The records of a list of numbers, made one after the other, and what is answered on those that are lent
use mathlib.Core.Path.{◌≡◌, refl, sym, ap, ◌∙◌}
use mathlib.Core.Bool.{Bool, true, false, true≢false}
use Rattle.std.specs.declared.result.Result.{Result}
use Rattle.std.specs.declared.result.Result.TheVariants.{Ok, Err}
use Rattle.std.specs.Result.{is_err}
use mathlib.Core.Logic.{inl, inr}
use mathlib.Core.List.{List, [], ◌∷◌, ◌++◌}
use Prim.Native.Nat.{ℕ, ◌+◌, ◌/◌, ◌%◌, ◌<◌, ◌≤◌}
use native.Mathlib.Omega.{arith}
use native.Mathlib.Numerals.{add-one}
use lib.ListN.{length, get_or, take, set}
use lib.Seq.{length-take-le, take_all, take-suc, take-suc-set}
use Rattle.scope.specs.Numbers.{pieces, bad_count}
use Rattle.scope.specs.Limits.{most_tasks}
use Rattle.scope.specs.Tasks as Tasks
use Rattle.scope.specs.Tasks.{task, tasks_of, task_at}
use Rattle.scope.specs.Answers.{Fault, Fault.fine, Fault.fault, task_list_fault}
use Rattle.theory.specs.Lists.{pieces_length, three_at, count_fine}
use Rattle.theory.specs.Answers.{task_list_legal}
use Rattle.tables.specs.declared.task.Task.{Task}
use Rattle.tables.specs.declared.answer.Refusal.{Refusal}
use Rattle.tables.specs.Told.{task_of, fault_of}
use Rattle.tables.proofs.TaskLaws.{list_by}
use Rattle.records.specs.Numbers.{numbers_of, enough_records}
use Rattle.records.proofs.NumberLaws.{none, numbers_length}
use Rattle.records.proofs.AlikeLaws.{bad_list, over}
use Rattle.records.specs.Alike.{Alike}
use Rattle.groups.specs.Records.{record_of, records_of, made_records, lent_of, lent_records, records_numbers}

records_length : (ns : List ℕ) → length (records_of ns) ≡ length ns / 3
unfolding records_of
records_length ns = pieces_length _ 3 record_of ns

-- the record of a task
abbrev back : Tasks.Task → Task
back x = record_of x.C x.T x.D

record_is : (ns : List ℕ) (i : ℕ) (x : Task) → i < length ns / 3 → task_of x ≡ task_at (tasks_of ns) i →
    take i (records_of ns) ++ (x ∷ []) ≡ take (i + 1) (records_of ns)
unfolding records_of
record_is ns i x l e =
    let is : x ≡ get_or (pieces 3 record_of ns) i none =
    ap back (e ∙ three_at task (task 0 0 0) ns i (omega arith)) ∙ sym (three_at record_of none ns i (omega arith)) in
    rw (add-one i) (ap (λ (y : Task). take i (records_of ns) ++ (y ∷ [])) is
    ∙ sym (take-suc (records_of ns) i none (omega (arith, records_length ns))))

-- one record more is made
pub record_more : (ns : List ℕ) (xs : List Task) (i : ℕ) (x : Task) → i < length ns / 3 → i < length xs → task_of x ≡ task_at (tasks_of ns) i →
    take i xs ≡ take i (records_of ns) → take (i + 1) (set xs i x) ≡ take (i + 1) (records_of ns)
record_more ns xs i x h l e so =
    ap (λ (k : ℕ). take k (set xs i x)) (add-one i) ∙ take-suc-set xs i x l ∙ ap (λ (ys : List Task). ys ++ (x ∷ [])) so ∙ record_is ns i x h e

-- how many are lent, by what the check of the list answers
pub lent_passed : (ns : List ℕ) (r : Result (Unit {0}) Refusal) → fault_of r ≡ task_list_fault ns → is_err r ≡ false → length ns / 3 ≡ lent_records ns
lent_passed ns (Ok u) e z = ap (λ (f : Fault). lent_of f (length ns / 3)) e
lent_passed ns (Err r) e z = absurd (true≢false z)

pub lent_refused : (ns : List ℕ) (r : Result (Unit {0}) Refusal) → fault_of r ≡ task_list_fault ns → is_err r ≡ true → enough_records ≡ lent_records ns
lent_refused ns (Ok u) e z = absurd (true≢false (sym z))
lent_refused ns (Err r) e z = ap (λ (f : Fault). lent_of f (length ns / 3)) e

-- what `Gathered::new` says of the records
abbrev pub Gathered : List ℕ → List Task → Type 0
Gathered ns xs = (length xs ≡ enough_records) × (take (made_records ns) xs ≡ take (made_records ns) (records_of ns))

-- the records that are lent are those of the numbers, or both are refused
pub lent_alike : (ns : List ℕ) (xs : List Task) (k : ℕ) → Gathered ns xs → k ≡ lent_records ns → Alike (numbers_of (take k xs)) ns
lent_alike ns xs k made e = go (bad_count 3 most_tasks ns) refl
  where
    whole : fine ≡ task_list_fault ns → length ns % 3 ≡ 0 → length ns / 3 ≤ most_tasks → numbers_of (take k xs) ≡ ns
    whole f t s =
        let m : k ≡ made_records ns = e ∙ ap (λ (f : Fault). lent_of f (length ns / 3)) (sym f) ∙ omega arith in
        ap (λ (n : ℕ). numbers_of (take n xs)) m
        ∙ ap numbers_of (made.1 ∙ take_all (made_records ns) (records_of ns) (omega (arith, records_length ns)))
        ∙ records_numbers ns t

    refused : fault 4 0 ≡ task_list_fault ns → Alike (numbers_of (take k xs)) ns
    refused f =
        let m : k ≡ enough_records = e ∙ ap (λ (f : Fault). lent_of f (length ns / 3)) (sym f) in
        inr (over (numbers_of (take k xs)) (omega (arith, numbers_length (take k xs), length-take-le k xs (omega (arith, made.0)))), bad_list ns (sym f))

    go : (t : Bool) → bad_count 3 most_tasks ns ≡ t → Alike (numbers_of (take k xs)) ns
    go true bad = refused (list_by ns true bad)
    go false good = let c = count_fine 3 most_tasks ns good in inl (whole (list_by ns false good) c.0 c.1)

pub lent_within : (ns : List ℕ) (k : ℕ) → k ≡ lent_records ns → k ≤ enough_records
lent_within ns k e = go (task_list_fault ns) refl
  where
    go : (f : Fault) → task_list_fault ns ≡ f → k ≤ enough_records
    go fine t = let m : k ≡ length ns / 3 = e ∙ ap (λ (f : Fault). lent_of f (length ns / 3)) t in omega (arith, (task_list_legal ns t).1)
    go (fault n p) t = let m : k ≡ enough_records = e ∙ ap (λ (f : Fault). lent_of f (length ns / 3)) t in omega arith
