-- The machine's next completion, found among the counts
use Rattle.std.proofs.Common.{◌≡◌, ℕ, suc, ◌+◌, ◌<◌, ◌≤◌, Bool, true, false, cond, ◌&&◌, ltb, leb, List, get_or, refl, arith, ltb-false, ltb-true, le-ltb, lt-ltb, le-leb, leb-true}
use mathlib.Core.Option.{Option, none, some}
use borrow.Author.Tests.{lt-leb}
use Rattle.scope.specs.Numbers.{sooner, first_by, IsFirst}
use Rattle.scope.specs.Jobs.{Job, release_of, task_of}
use Rattle.scope.specs.Trace.{Completion, completion}
use Rattle.theory.specs.Numbers.{and_both, By, first_is, first_passes}
use Rattle.replay.specs.Ending.{finish, ends_within, next_end, sooner_than, nearer_of, completion_in}

-- ---- one job

module _ (b : Option Completion) (i c f after last : ℕ) where
  pub nearer_none : c ≡ 0 → b ≡ nearer_of b i c f after last
  unfolding nearer_of
  nearer_none h = rw (lt-leb 1 c (omega arith))

  pub nearer_before : (c ≡ 0 → ⊥) → f ≤ after → b ≡ nearer_of b i c f after last
  unfolding nearer_of
  nearer_before u h = rw (le-leb 1 c (omega arith), le-ltb after f h)

  pub nearer_late : (c ≡ 0 → ⊥) → after < f → sooner_than b f last ≡ false → b ≡ nearer_of b i c f after last
  unfolding nearer_of
  nearer_late u h l = rw (le-leb 1 c (omega arith), lt-ltb after f h, l)

  pub nearer_is : (c ≡ 0 → ⊥) → after < f → sooner_than b f last ≡ true → some (completion f i) ≡ nearer_of b i c f after last
  unfolding nearer_of
  nearer_is u h l = rw (le-leb 1 c (omega arith), lt-ltb after f h, l)

-- ---- all jobs

module _ (js : List Job) (cs : List ℕ) (after last : ℕ) where
  abbrev f : ℕ → ℕ
  f = finish js cs

  abbrev inside : ℕ → Bool
  inside = ends_within js cs after last

  abbrev sooner_one : ℕ → ℕ → Bool
  sooner_one a b = ltb (f a) (f b)

  pub is_inside : (j : ℕ) → 1 ≤ get_or cs j 0 → after < f j → f j ≤ last → inside j ≡ true
  is_inside j h k l = rw (le-leb 1 (get_or cs j 0) h, lt-ltb after (f j) k, le-leb (f j) last l)

  pub inside_is : (j : ℕ) → inside j ≡ true → (1 ≤ get_or cs j 0) × (after < f j) × (f j ≤ last)
  inside_is j e =
      let p = and_both (leb 1 (get_or cs j 0) && ltb after (f j)) (leb (f j) last) e in
      let q = and_both (leb 1 (get_or cs j 0)) (ltb after (f j)) p.0 in
      (leb-true 1 (get_or cs j 0) q.0, ltb-true after (f j) q.1, leb-true (f j) last p.1)

  -- a job more
  abbrev best : Option ℕ → Option Completion
  best = completion_in js cs

  best_next : (j : ℕ) → nearer_of (best (next_end js cs after last j)) (task_of js j) (get_or cs j 0) (f j) after last ≡ best (next_end js cs after last (suc j))
  unfolding next_end first_by nearer_of
  best_next j = go (first_by sooner_one inside j) refl
    where
      pair : ℕ → Completion
      pair k = completion (f k) (task_of js k)

      early : Bool
      early = leb 1 (get_or cs j 0) && ltb after (f j)

      one : (t : Bool) → cond t (some (pair j)) none ≡ best (cond t (some j) none)
      one true = refl
      one false = refl

      two : (b : ℕ) (t u v : Bool) → (u ≡ true → v ≡ true) →
          cond (t && u) (some (pair j)) (some (pair b)) ≡ best (cond (t && v) (cond u (some j) (some b)) (some b))
      two b false u v h = refl
      two b true true v h = rw (h refl)
      two b true false true h = refl
      two b true false false h = refl

      known : (b : ℕ) → first_by sooner_one inside j ≡ some b → f b ≤ last
      known b e = (inside_is b (first_passes inside sooner_one j b e).1).2

      go : (o : Option ℕ) → first_by sooner_one inside j ≡ o →
          cond (leb 1 (get_or cs j 0) && ltb after (f j) && sooner_than (best o) (f j) last) (some (pair j)) (best o)
          ≡ best (cond (inside j) (sooner sooner_one j o) o)
      go none e = one (inside j)
      go (some b) e = rest (leb 1 (get_or cs j 0)) (ltb after (f j)) (ltb (f j) (f b)) (leb (f j) last) (λ h. le-leb (f j) last (omega (arith, known b e, ltb-true (f j) (f b) h)))
        where
          rest : (t s u v : Bool) → (u ≡ true → v ≡ true) →
              cond (t && s && u) (some (pair j)) (some (pair b)) ≡ best (cond (t && s && v) (cond u (some j) (some b)) (some b))
          rest true s u v h = two b s u v h
          rest false s u v h = refl

  -- ---- what is found

  by_finish : By sooner_one f
  by_finish = record { ahead = λ a b e. omega (arith, ltb-true (f a) (f b) e); behind = λ a b e. ltb-false (f a) (f b) e }

  pub found_is : (m : ℕ) → IsFirst inside f m (next_end js cs after last m)
  unfolding next_end
  found_is m = first_is inside sooner_one f by_finish m

  -- the loop's step: what was found so far, and the next job as it is read
  pub best_step : (j i c r g : ℕ) (b : Option Completion) → b ≡ best (next_end js cs after last j) → i ≡ task_of js j → c ≡ get_or cs j 0 → r ≡ release_of js j →
      g ≡ r + c → nearer_of b i c g after last ≡ best (next_end js cs after last (j + 1))
  best_step j i c r g b e p h k l = let z : j + 1 ≡ suc j = omega arith in rw (e, l, k, p, h, z) (best_next j)
