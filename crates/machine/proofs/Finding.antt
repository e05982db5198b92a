-- The late job that the code finds is the lowest late one of the machine
use mathlib.Core.Path.{◌≡◌, refl, sym, ap, ◌∙◌, subst}
use mathlib.Core.Bool.{Bool, true, false, ◌&&◌, cond, false≢true}
use mathlib.Core.Logic.{inl, inr}
use mathlib.Core.Option.{none, some}
use mathlib.Core.List.{List}
use Prim.Native.Nat.{ℕ, zero, suc, ◌≤◌, ◌<◌}
use native.Mathlib.Omega.{arith}
use native.Mathlib.Decide.{dec_lt}
use lib.Dec.{leb}
use lib.ListN.{length, get_or}
use borrow.Author.Tests.{ltb-true, ltb-false, leb-true, le-leb}
use Rattle.std.specs.declared.option.Option as opt
use Rattle.std.specs.declared.option.Option.TheVariants.{Some, None}
use Rattle.scope.specs.Limits.{most_tasks}
use Rattle.scope.specs.Numbers.{first}
use Rattle.scope.specs.Tasks.{Task, task_at}
use Rattle.scope.specs.Jobs.{Job, task_of, deadline}
use Rattle.scope.specs.Run.{late}
use Rattle.theory.specs.Numbers.{below_suc, and_both, both_and, bool_cases, fits_true, true_fits, none_first, some_first}
use Rattle.jobs.specs.Legal.{Tasks, Jobs}
use Rattle.machine.specs.declared.places.Place.{Place}
use Rattle.machine.specs.Bits.{mem}
use Rattle.machine.specs.Places.{due_at, held_at, lower_than, lower_in, late_to}
use Rattle.machine.specs.Relation.{Holds, Sound, Split}

-- ---- the lowest late job of the tasks below n

module _ (pending : ℕ) (places : List Place) (t : ℕ) where
  -- task i is pending, and its job is due at instant t or before
  abbrev late_task : ℕ → Bool
  late_task i = mem pending i && leb (due_at places i) t

  -- r is the lowest job of the late tasks below n
  record Lowest (n r : ℕ) : Type 0 where
    at : ℕ
    bound : at < n
    is : late_task at ≡ true
    job : held_at places at ≡ r
    least : (i : ℕ) → i < n → late_task i ≡ true → r ≤ held_at places i

  -- r is it, or none of them is late
  abbrev Found : ℕ → opt.Option ℕ → Type 0
  Found n None = (i : ℕ) → i < n → late_task i ≡ true → ⊥
  Found n (Some r) = Lowest n r

  -- a task more that is not late, or not lower
  lowest_keep : (n r : ℕ) → (late_task n ≡ true → r ≤ held_at places n) → Lowest n r → Lowest (suc n) r
  lowest_keep n r h q = record {
    at = q.at;
    bound = omega (arith, q.bound);
    is = q.is;
    job = q.job;
    least = below_suc (λ i. late_task i ≡ true → r ≤ held_at places i) n q.least h;
  }

  -- a task more that is late and lower
  lowest_take : (n : ℕ) → late_task n ≡ true → ((i : ℕ) → i < n → late_task i ≡ true → held_at places n ≤ held_at places i) → Lowest (suc n) (held_at places n)
  lowest_take n e h = record {
    at = n;
    bound = omega arith;
    is = e;
    job = refl;
    least = below_suc (λ i. late_task i ≡ true → held_at places n ≤ held_at places i) n h (λ z. omega arith);
  }

  late_found : (n : ℕ) → Found n (late_to pending places t n)
  unfolding late_to lower_in
  late_found zero = λ i a e. absurd (omega arith)
  late_found (suc n) = go (late_to pending places t n) (late_found n) (late_task n) refl
    where
      two : (best : opt.Option ℕ) → Found n best → late_task n ≡ true → (b : Bool) → lower_than best (held_at places n) ≡ b →
          Found (suc n) (cond b (Some (held_at places n)) best)
      two None f e true q = lowest_take n e (λ i a z. absurd (f i a z))
      two None f e false q = absurd (false≢true (sym q))
      two (Some r) f e true q = lowest_take n e (λ i a z. omega (arith, f.least i a z, ltb-true (held_at places n) r q))
      two (Some r) f e false q = lowest_keep n r (λ z. ltb-false (held_at places n) r q) f

      go : (best : opt.Option ℕ) → Found n best → (b : Bool) → late_task n ≡ b → Found (suc n) (cond (b && lower_than best (held_at places n)) (Some (held_at places n)) best)
      go best f true e = two best f e (lower_than best (held_at places n)) refl
      go None f false e = below_suc (λ i. late_task i ≡ true → ⊥) n f (λ z. false≢true (sym e ∙ z))
      go (Some r) f false e = lowest_keep n r (λ z. absurd (false≢true (sym e ∙ z))) f

-- ---- it is the machine's, in a state that shows the work left at instant t

module _ (ts : List Task) (js : List Job) (tasks : Tasks ts) (legal : Jobs ts js) (work : List ℕ) (t pending next : ℕ) (places : List Place)
    (h : Holds ts js work pending next places) (sp : Split js t t next) where
  -- the job of a late task is late
  task_late : (i : ℕ) → i < most_tasks → late_task pending places t i ≡ true →
      (held_at places i < length js) × (late ts js t work (held_at places i) ≡ true)
  unfolding late
  task_late i l e =
      let p = and_both (mem pending i) (leb (due_at places i) t) e in
      let z = h.place i l p.0 in
      let c : ℕ = held_at places i in (
        omega (arith, z.known, sp.bound),
        true_fits (deadline ts js c) t 1 (get_or work c 0) (omega (arith, z.due, leb-true (due_at places i) t p.1)) (omega (arith, z.left, z.some)),
      )

  -- a late job is that of a late task: it is released, for its deadline is after its release
  late_task_lem : (j : ℕ) → j < length js → late ts js t work j ≡ true →
      (task_of js j < most_tasks) × (late_task pending places t (task_of js j) ≡ true) × (held_at places (task_of js j) ≡ j)
  unfolding late
  late_task_lem j l e =
      let p = fits_true (deadline ts js j) t 1 (get_or work j 0) e in
      let i : ℕ = task_of js j in
      let due : 1 ≤ (task_at ts i).D = (tasks.rules i (legal.known j l)).due in
      let low : i < most_tasks = omega (arith, legal.known j l, tasks.few) in
      let a : j < next = elim (dec_lt j next) [ yes a ↦ a | no a ↦ absurd (omega (arith, sp.later j (omega arith) l, p.0)) ] in
      let y = h.held j a p.1 in
      let z = h.place i low y.0 in
      let d : deadline ts js (held_at places i) ≡ deadline ts js j = ap (deadline ts js) y.1 in
      (low, both_and {a = mem pending i} y.0 (le-leb (due_at places i) t (omega (arith, z.due, d, p.0))), y.1)

  found : Found pending places t most_tasks (late_to pending places t most_tasks)
  found = late_found pending places t most_tasks

  pub none_late : late_to pending places t most_tasks ≡ None → first (late ts js t work) (length js) ≡ none
  none_late e = none_first (late ts js t work) (length js) (λ j a. elim (bool_cases (late ts js t work j)) [
    | inl q ↦ let y = late_task_lem j a q in absurd (none (task_of js j) y.0 y.1)
    | inr q ↦ q
  ])
    where
      none : (i : ℕ) → i < most_tasks → late_task pending places t i ≡ true → ⊥
      none = subst (Found pending places t most_tasks) e found

  pub one_late : (r : ℕ) → late_to pending places t most_tasks ≡ Some r → first (late ts js t work) (length js) ≡ some r
  one_late r e =
      some_first (late ts js t work) (length js) r (omega (arith, q.job, y.0)) (ap (late ts js t work) (sym q.job) ∙ y.1)
      (λ j a. elim (bool_cases (late ts js t work j)) [
        | inl e ↦
            let z = late_task_lem j (omega (arith, q.job, y.0)) e in
            absurd (omega (arith, q.least (task_of js j) z.0 z.1, z.2))
        | inr e ↦ e
      ])
    where
      q : Lowest pending places t most_tasks r
      q = subst (Found pending places t most_tasks) e found

      y : (held_at places q.at < length js) × (late ts js t work (held_at places q.at) ≡ true)
      y = task_late q.at q.bound q.is

  -- before every pending deadline the code finds none
  pub early_none : (soon : ℕ) → Sound pending places soon → t < soon → late_to pending places t most_tasks ≡ None
  early_none soon ok l = go (late_to pending places t most_tasks) found
    where
      go : (r : opt.Option ℕ) → Found pending places t most_tasks r → r ≡ None
      go None f = refl
      go (Some r) q =
          let y = and_both (mem pending q.at) (leb (due_at places q.at) t) q.is in
          absurd (omega (arith, ok q.at q.bound y.0, leb-true (due_at places q.at) t y.1))
