-- What is found among a run's counts is what the machine completes
use Rattle.std.proofs.Common.{◌≡◌, ℕ, zero, suc, ◌+◌, ◌-◌, ◌<◌, ◌≤◌, min, Bool, true, List, ◌∷◌, length, get_or, sym, refl, ap, ◌∙◌, arith}
use mathlib.Core.Option.{Option, none, some}
use Rattle.scope.specs.Numbers.{IsFirst}
use Rattle.scope.specs.Jobs.{Job, task_of, work_of}
use Rattle.scope.specs.Run.{count}
use Rattle.scope.specs.Trace.{Completion, completion}
use Rattle.scope.specs.Replay.{ends, ended_from}
use Rattle.theory.specs.Ended.{ended_none, ended_one, ends_count, count_ends, ended_skip}
use Rattle.replay.specs.Ending.{finish, ends_within, next_end}
use Rattle.replay.specs.Compared.{endings_from, and_endings}
use Rattle.replay.proofs.EndingLaws.{is_inside, inside_is, found_is}

module _ (σ : ℕ → Bool) (before : ℕ → ℕ → Bool) (js : List Job) (n : ℕ) (cs : List ℕ)
    (is : (j : ℕ) → j < length js → get_or cs j 0 ≡ count σ before js n j) (works : (j : ℕ) → j < length js → 1 ≤ work_of js j) (last : ℕ) where
  abbrev f : ℕ → ℕ
  f = finish js cs

  -- a job that ends in a tick is among those that are looked at
  looked_at : (after k j : ℕ) → after ≤ k → k < min last n → j < length js → ends σ before js k j ≡ true →
      (f j ≡ suc k) × (ends_within js cs after last j ≡ true)
  looked_at after k j a h l e =
      let c = ends_count σ before js n j l (works j l) k (omega arith) e in
      let z : f j ≡ suc k = omega (arith, is j l, c.1) in
      (z, is_inside js cs after last j (omega (arith, is j l, c.0)) (omega arith) (omega arith))

  ended_by : (after : ℕ) (o : Option ℕ) → IsFirst (ends_within js cs after last) f (length js) o →
      ended_from σ before js after (min last n - after) ≡ and_endings js cs o (λ k. ended_from σ before js k (min last n - k))
  unfolding ended_from
  ended_by after none i =
      let z : min last n - after ≡ (min last n - after) + 0 = omega arith in
      ap (ended_from σ before js after) z
      ∙ ended_skip σ before js (min last n - after) after 0 (λ k a h. ended_none σ before js k (λ j l e.
      i j l (looked_at after k j a (omega arith) l e).1))
  ended_by after (some j) i =
      let p = inside_is js cs after last j i.1 in
      let c = count_ends σ before js n j i.0 (works j i.0) (omega (arith, p.0, is j i.0)) in
      let k : ℕ = c.0 in
      let z : f j ≡ suc k = omega (arith, c.2, is j i.0) in
      let y : min last n - after ≡ (k - after) + suc (min last n - suc k) = omega (arith, c.1, p.1, p.2) in
      let x : after + (k - after) ≡ k = omega (arith, p.1) in
      ap (ended_from σ before js after) y
      ∙ ended_skip σ before js (k - after) after (suc (min last n - suc k)) (λ u a h. ended_none σ before js u (λ v l e.
      let q = looked_at after u v a (omega (arith, c.1, p.2)) l e in
      omega (arith, q.0, i.2 v l q.1)))
      ∙ ap (λ (u : ℕ). ended_from σ before js u (suc (min last n - suc k))) x
      ∙ rw (ended_one σ before js k j i.0 c.3, z)

  pub ended_next : (after : ℕ) → ended_from σ before js after (min last n - after)
      ≡ and_endings js cs (next_end js cs after last (length js)) (λ k. ended_from σ before js k (min last n - k))
  ended_next after = ended_by after (next_end js cs after last (length js)) (found_is js cs after last (length js))

  -- one after another they are the machine's completions
  pub endings_are : (fuel after : ℕ) → last ≤ after + fuel → endings_from js cs last fuel after ≡ ended_from σ before js after (min last n - after)
  unfolding endings_from ended_from
  endings_are zero after h = let z : min last n - after ≡ 0 = omega arith in rw z
  endings_are (suc fuel) after h =
      go (endings_are fuel) (next_end js cs after last (length js)) (found_is js cs after last (length js)) ∙ sym (ended_next after)
    where
      go : ((k : ℕ) → last ≤ k + fuel → endings_from js cs last fuel k ≡ ended_from σ before js k (min last n - k)) →
          (o : Option ℕ) → IsFirst (ends_within js cs after last) f (length js) o →
          and_endings js cs o (endings_from js cs last fuel) ≡ and_endings js cs o (λ k. ended_from σ before js k (min last n - k))
      go ih none i = refl
      go ih (some j) i =
          ap (λ (l : List Completion). completion (f j) (task_of js j) ∷ l) (ih (f j) (omega (arith, (inside_is js cs after last j i.1).1)))
