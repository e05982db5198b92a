-- The places of the tasks: what stands where after a job is put and after one is served
use mathlib.Core.Path.{◌≡◌, ap}
use mathlib.Core.Logic.{◌≢◌}
use mathlib.Core.List.{List}
use Prim.Native.Nat.{ℕ, ◌-◌, ◌<◌}
use native.Mathlib.Omega.{arith}
use lib.ListN.{length, get_or, set, length-set}
use lib.Seq.{get_or-set_same, get_or-set_other}
use borrow.Author.Tests.{eq-eqb, ne_eqb}
use Rattle.std.specs.declared.option.Option.TheVariants.{Some, None}
use Rattle.scope.specs.Limits.{most_tasks}
use Rattle.machine.specs.declared.places.Place.{Place}
use Rattle.machine.specs.Places.{all_places, nowhere, left_at, due_at, held_at, put_at, served_at, ended_at}

-- what stands at task x, in places q as in places p
abbrev pub Same : List Place → List Place → ℕ → Type 0
Same q p x = (left_at q x ≡ left_at p x) × (due_at q x ≡ due_at p x) × (held_at q x ≡ held_at p x)

same_place : (q p : List Place) (x : ℕ) → get_or q x nowhere ≡ get_or p x nowhere → Same q p x
same_place q p x e = (ap (λ (y : Place). y.left) e, ap (λ (y : Place). y.due) e, ap (λ (y : Place). y.job) e)

-- what a place that is taken anew has
own_place : (p : List Place) (i : ℕ) (v : Place) → i < length p →
    (left_at (set p i v) i ≡ v.left) × (due_at (set p i v) i ≡ v.due) × (held_at (set p i v) i ≡ v.job)
own_place p i v l =
    let e = get_or-set_same p i v nowhere l in
    (ap (λ (y : Place). y.left) e, ap (λ (y : Place). y.due) e, ap (λ (y : Place). y.job) e)

module _ (p : List Place) (i : ℕ) where
  -- ---- a job is put

  module _ (w d j : ℕ) where
    pub put_length : length (put_at p i w d j) ≡ length p
    unfolding put_at
    put_length = length-set p i _

    pub put_other : (x : ℕ) → x ≢ i → Same (put_at p i w d j) p x
    unfolding put_at
    put_other x u = same_place _ p x (get_or-set_other p i x _ nowhere u)

    pub put_own : length p ≡ all_places → i < most_tasks → (left_at (put_at p i w d j) i ≡ w) × (due_at (put_at p i w d j) i ≡ d) × (held_at (put_at p i w d j) i ≡ j)
    unfolding put_at
    put_own e l = own_place p i _ (omega arith)

  -- ---- a job is served

  pub served_length : length (served_at (Some i) p) ≡ length p
  unfolding served_at
  served_length = length-set p i _

  pub served_other : (x : ℕ) → x ≢ i → Same (served_at (Some i) p) p x
  unfolding served_at
  served_other x u = same_place _ p x (get_or-set_other p i x _ nowhere u)

  pub served_own : length p ≡ all_places → i < most_tasks →
      (left_at (served_at (Some i) p) i ≡ left_at p i - 1) × (due_at (served_at (Some i) p) i ≡ due_at p i) × (held_at (served_at (Some i) p) i ≡ held_at p i)
  unfolding served_at
  served_own e l = own_place p i _ (omega arith)

  pub ended_last : left_at p i ≡ 1 → ended_at (Some i) p ≡ Some (held_at p i)
  unfolding ended_at
  ended_last e = rw (eq-eqb (left_at p i) 1 e)

  pub ended_more : left_at p i ≢ 1 → ended_at (Some i) p ≡ None
  unfolding ended_at
  ended_more u = rw (ne_eqb (left_at p i) 1 u)
