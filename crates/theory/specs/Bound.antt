-- The response bound is the least length that suffices, and there is none exactly where the answer is "no bound"
use Rattle.std.proofs.Math.Path.{◌≡◌, refl, ap}
use Rattle.std.proofs.Common.{sym, ◌∙◌, arith, mul-le-mul_right, div-mul-le_self, le-div_iff_mul-le}
use Rattle.std.specs.Prelude.{Bool, true, false, ◌↔◌, List, ℕ, suc, ◌+◌, ◌-◌, ◌*◌, ◌≤◌, ◌<◌}
use Rattle.std.proofs.lemmas.Bool.{false≢true}
use Rattle.std.proofs.Math.Option.{Option, none, some}
use Rattle.std.proofs.Math.Nat.{div-zero}
use Rattle.std.proofs.Math.Decide.{dec_lt}
use Rattle.scope.specs.Numbers.{first}
use Rattle.scope.specs.Ticks.{least_supply}
use Rattle.scope.specs.Windows.{Board, supplied_by}
use Rattle.scope.specs.Tasks.{Task, tasks_of, task_at}
use Rattle.scope.specs.Bound.{Bound, Bound.bound, Bound.no_bound, ceil, asked, suffices, or_no_bound, response}
use Rattle.scope.specs.Answers.{Answer.given, bound_answer}
use Rattle.theory.specs.Numbers.{sum_le, fits_true, true_fits, first_none, none_first, first_some, some_first}
use Rattle.theory.specs.Answers.{bounded}

-- ---- what is asked

ceil_up : (T t u : ℕ) → t ≤ u → ceil t T ≤ ceil u T
ceil_up T t u h =
    elim (dec_lt 0 T) [
      | yes p ↦
          let less : ceil t T * T ≤ u + (T - 1) = omega (arith, div-mul-le_self (t + (T - 1)) T) in
          (le-div_iff_mul-le p).1 less
      | no p ↦ let e : T ≡ 0 = omega arith in rw (e, div-zero) (omega arith)
    ]

-- it never falls
pub asked_up : (ts : List Task) (i t u : ℕ) → t ≤ u → asked ts i t ≤ asked ts i u
unfolding asked
asked_up ts i t u h =
    omega (
      arith,
      sum_le (λ j. ceil t (task_at ts j).T * (task_at ts j).C) (λ j. ceil u (task_at ts j).T * (task_at ts j).C) i
          (λ j l. mul-le-mul_right (task_at ts j).C (ceil_up (task_at ts j).T t u h)),
    )

-- ---- over any pattern

module _ (σ : ℕ → Bool) (P : ℕ) (ts : List Task) (i : ℕ) where
  abbrev Enough : ℕ → Type 0
  Enough t = asked ts i t ≤ least_supply σ P t

  abbrev due : ℕ
  due = (task_at ts i).D

  abbrev test : ℕ → Bool
  test = suffices σ P ts i

  enough_test : (t : ℕ) → test t ≡ true → (1 ≤ t) × Enough t
  unfolding suffices
  enough_test t e = fits_true 1 t (asked ts i t) (least_supply σ P t) e

  pub test_enough : (t : ℕ) → 1 ≤ t → Enough t → test t ≡ true
  unfolding suffices
  test_enough t l h = true_fits 1 t (asked ts i t) (least_supply σ P t) l h

  -- a test that fails at t says that t does not suffice; and the other way
  no_test : (t : ℕ) → test t ≡ false → 1 ≤ t → Enough t → ⊥
  no_test t e l h = false≢true (sym e ∙ test_enough t l h)

  pub test_no : (t : ℕ) → (1 ≤ t → Enough t → ⊥) → test t ≡ false
  test_no t h = go (test t) refl
    where
      go : (c : Bool) → test t ≡ c → test t ≡ false
      go true e = let p = enough_test t e in absurd (h p.0 p.1)
      go false e = e

  pub least_bound : (t : ℕ) → (response σ P ts i ≡ bound t) ↔ ((1 ≤ t) × (t ≤ due) × Enough t × ((u : ℕ) → 1 ≤ u → u < t → Enough u → ⊥))
  unfolding response
  least_bound t = (
    λ e. go (first test (suc due)) refl e,
    λ w. ap or_no_bound (some_first test (suc due) t (omega (arith, w.1)) (test_enough t w.0 w.2) (λ u l. test_no u (λ a. w.3 u a l))),
  )
    where
      go : (o : Option ℕ) → first test (suc due) ≡ o → or_no_bound o ≡ bound t → (1 ≤ t) × (t ≤ due) × Enough t × ((u : ℕ) → 1 ≤ u → u < t → Enough u → ⊥)
      go none f q = let z : ◌≡◌ {A = ℕ} 0 1 = cc in absurd (omega arith)
      go (some a) f q =
          let e : a ≡ t = cc in
          let w = first_some test (suc due) a f in
          let p = enough_test a w.1 in
          (omega (arith, p.0), omega (arith, w.0), rw (← e) p.1, λ u l h. no_test u (w.2 u (omega arith)) l)

  pub none_bound : (response σ P ts i ≡ no_bound) ↔ ((t : ℕ) → 1 ≤ t → t ≤ due → Enough t → ⊥)
  unfolding response
  none_bound = (λ e. go (first test (suc due)) refl e, λ h. ap or_no_bound (none_first test (suc due) (λ t l. test_no t (λ a. h t a (omega arith)))))
    where
      go : (o : Option ℕ) → first test (suc due) ≡ o → or_no_bound o ≡ no_bound → (t : ℕ) → 1 ≤ t → t ≤ due → Enough t → ⊥
      go none f q = λ t l h. no_test t (first_none test (suc due) f t (omega arith)) l
      go (some a) f q = let z : ◌≡◌ {A = ℕ} 0 1 = cc in absurd (omega arith)

-- ---- the entry

module _ (b : Board) (ws ts : List ℕ) (i : ℕ) (r : Bound) (answered : bound_answer b ws ts i ≡ given r) where
  abbrev D : ℕ
  D = (task_at (tasks_of ts) i).D

  abbrev least_of : ℕ → ℕ
  least_of = least_supply (supplied_by b ws) b.frame

  -- the least t in 1 to D with least supply of t at least what is asked
  pub exact_bound : (t : ℕ) → (r ≡ bound t)
      ↔ ((1 ≤ t) × (t ≤ D) × (asked (tasks_of ts) i t ≤ least_of t) × ((u : ℕ) → 1 ≤ u → u < t → asked (tasks_of ts) i u ≤ least_of u → ⊥))
  exact_bound t =
      let e = (bounded b ws ts i r answered).is in
      let w = least_bound (supplied_by b ws) b.frame (tasks_of ts) i t in
      (λ q. w.0 (e ∙ q), λ h. sym e ∙ w.1 h)

  pub exact_no_bound : (r ≡ no_bound) ↔ ((t : ℕ) → 1 ≤ t → t ≤ D → asked (tasks_of ts) i t ≤ least_of t → ⊥)
  exact_no_bound =
      let e = (bounded b ws ts i r answered).is in
      let w = none_bound (supplied_by b ws) b.frame (tasks_of ts) i in
      (λ q. w.0 (e ∙ q), λ h. sym e ∙ w.1 h)
