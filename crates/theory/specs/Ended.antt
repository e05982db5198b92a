-- Laws of the machine's completions, over any pattern σ and any rule: at most one a tick, and each job's count says when
use Rattle.std.specs.Prelude.{◌≡◌, true, cond, List, [], ◌∷◌, eqb, length, get_or}
use Rattle.std.proofs.Math.Path.{refl, ap}
use Rattle.std.proofs.Common.{sym, ◌∙◌, true≢false, le_trans}
use Rattle.std.proofs.Math.Bool.{Bool, false}
use Rattle.std.proofs.Math.Logic.{inl, inr}
use Rattle.std.proofs.Math.Option.{Option, none, some}
use Prim.Native.Nat.{ℕ, zero, suc, ◌+◌, ◌-◌, ◌≤◌, ◌<◌}
use native.Mathlib.Omega.{arith}
use Rattle.std.proofs.Math.Decide.{ℕ_discrete, dec_le}
use Rattle.std.proofs.Math.Dec.{leb}
use borrow.Author.Tests.{leb-true, eqb-true, le-leb, eq-eqb, ne_eqb}
use Rattle.scope.specs.Numbers.{first}
use Rattle.scope.specs.Jobs.{Job, release_of, task_of, work_of}
use Rattle.scope.specs.Machine.{chosen, worked, tick, work_left}
use Rattle.scope.specs.Run.{done_at, count_of, count}
use Rattle.scope.specs.Trace.{completion}
use Rattle.scope.specs.Replay.{ends, ended_in, ended_from}
use Rattle.theory.specs.Numbers.{and_both, both_and, bool_cases, first_some, some_first}
use Rattle.theory.specs.Lists.{keep_none, keep_alone}
use Rattle.theory.specs.Machine.{worked_other, work_left_falls, work_left_before}

-- only the chosen job's work changes
worked_only : (t : Bool) (o : Option ℕ) (l : List ℕ) (j : ℕ) → get_or (cond t (worked o l) l) j 0 < get_or l j 0 → o ≡ some j
worked_only t none l j h = absurd (omega (arith, worked_other t none l j (λ on e. let z : ◌≡◌ {A = ℕ} 0 1 = cc in omega arith)))
worked_only t (some c) l j h =
    elim (ℕ_discrete c j) [
      | yes e ↦ ap some e
      | no u ↦ absurd (omega (arith, worked_other t (some c) l j (λ on e. u (let z : c ≡ j = cc in z))))
    ]

module _ (σ : ℕ → Bool) (before : ℕ → ℕ → Bool) (js : List Job) where
  abbrev left : ℕ → ℕ → ℕ
  left k j = get_or (work_left σ before js k) j 0

  -- work is left before the tick and none after it
  pub ends_left : (k j : ℕ) → ends σ before js k j ≡ true → (1 ≤ left k j) × (left (suc k) j ≡ 0)
  unfolding ends
  ends_left k j e =
      let p = and_both (leb 1 (left k j)) (eqb (left (suc k) j) 0) e in
      (leb-true 1 (left k j) p.0, eqb-true (left (suc k) j) 0 p.1)

  left_ends : (k j : ℕ) → 1 ≤ left k j → left (suc k) j ≡ 0 → ends σ before js k j ≡ true
  unfolding ends
  left_ends k j h e = both_and {a = leb 1 (left k j)} (le-leb 1 (left k j) h) (eq-eqb (left (suc k) j) 0 e)

  ends_chosen : (k j : ℕ) → ends σ before js k j ≡ true → chosen before js k (work_left σ before js k) ≡ some j
  unfolding work_left tick
  ends_chosen k j e =
      worked_only (σ k) (chosen before js k (work_left σ before js k)) (work_left σ before js k) j (omega (arith, ends_left k j e))

  -- one processor: at most one job's last work is done in a tick
  pub ends_one : (k i j : ℕ) → ends σ before js k i ≡ true → ends σ before js k j ≡ true → i ≡ j
  ends_one k i j e f = let z : some i ≡ some j = sym (ends_chosen k i e) ∙ ends_chosen k j f in cc

  -- ---- the completions of a tick

  pub ended_none : (k : ℕ) → ((j : ℕ) → j < length js → ends σ before js k j ≡ true → ⊥) → ended_in σ before js k ≡ []
  unfolding ended_in
  ended_none k h =
      rw (keep_none (ends σ before js k) (length js) (λ j l. elim (bool_cases (ends σ before js k j)) [ inl q ↦ absurd (h j l q) | inr q ↦ q ]))

  pub ended_one : (k j : ℕ) → j < length js → ends σ before js k j ≡ true → ended_in σ before js k ≡ completion (suc k) (task_of js j) ∷ []
  unfolding ended_in
  ended_one k j l e = rw (keep_alone (ends σ before js k) j (length js) l e (λ i q. ends_one k i j q e))

  -- ---- counts

  -- work that is left at an instant was left at every instant before
  left_back : (i d j : ℕ) → j < length js → left (i + d) j ≤ left i j
  left_back i zero j l = let z : i + 0 ≡ i = omega arith in rw z (omega arith)
  left_back i (suc d) j l =
      let z : i + suc d ≡ suc (i + d) = omega arith in
      rw z (le_trans (work_left_falls σ before js (i + d) j l) (left_back i d j l))

  module _ (n j : ℕ) (inside : j < length js) (some-work : 1 ≤ work_of js j) where
    abbrev c : ℕ
    c = count σ before js n j

    -- the count of a job whose last work is done in a tick of the run
    pub ends_count : (k : ℕ) → k < n → ends σ before js k j ≡ true → (1 ≤ c) × (release_of js j + c ≡ suc k)
    unfolding count_of
    ends_count k h e =
        let p = ends_left k j e in
        let done : ℕ → Bool = done_at (work_left σ before js) j in
        let undone : (i : ℕ) → i < suc k → done i ≡ false =
        λ i m. let z : i + (k - i) ≡ k = omega arith in
        ne_eqb (left i j) 0 (λ q. omega (arith, p.0, ap (λ (u : ℕ). left u j) z, left_back i (k - i) j inside, q)) in
        let f : first done (suc n) ≡ some (suc k) = some_first done (suc n) (suc k) (omega arith) (eq-eqb (left (suc k) j) 0 p.1) undone in
        let r : release_of js j < suc k =
        elim (dec_le (suc k) (release_of js j)) [
          | yes m ↦ absurd (omega (arith, p.1, work_left_before σ before js (suc k) j m))
          | no m ↦ omega arith
        ] in
        let z : c ≡ suc k - release_of js j = rw f in
        (omega arith, omega arith)

    -- and where a job is counted, its last work is done then
    pub count_ends : 1 ≤ c → (k : ℕ) × (k < n) × (suc k ≡ release_of js j + c) × (ends σ before js k j ≡ true)
    unfolding count_of
    count_ends h = go (first done (suc n)) refl
      where
        done : ℕ → Bool
        done = done_at (work_left σ before js) j

        go : (o : Option ℕ) → first done (suc n) ≡ o → (k : ℕ) × (k < n) × (suc k ≡ release_of js j + c) × (ends σ before js k j ≡ true)
        go none e = let z : c ≡ 0 = rw e in absurd (omega arith)
        go (some zero) e = let z : c ≡ 0 - release_of js j = rw e in absurd (omega arith)
        go (some (suc k)) e =
            let f = first_some done (suc n) (suc k) e in
            let z : c ≡ suc k - release_of js j = rw e in
            let w : 1 ≤ left k j =
            elim (ℕ_discrete (left k j) 0) [ yes q ↦ absurd (true≢false (sym (eq-eqb (left k j) 0 q) ∙ f.2 k (omega arith))) | no q ↦ omega arith ] in
            (k, omega (arith, f.0), omega arith, left_ends k j w (eqb-true (left (suc k) j) 0 f.1))

  -- ---- the completions of some ticks

  -- ticks without a completion are passed over
  pub ended_skip : (d k m : ℕ) → ((i : ℕ) → k ≤ i → i < k + d → ended_in σ before js i ≡ []) →
      ended_from σ before js k (d + m) ≡ ended_from σ before js (k + d) m
  unfolding ended_from
  ended_skip zero k m h = let z : k + 0 ≡ k = omega arith in let y : 0 + m ≡ m = omega arith in rw (z, y)
  ended_skip (suc d) k m h =
      let z : suc d + m ≡ suc (d + m) = omega arith in
      let y : suc k + d ≡ k + suc d = omega arith in
      rw (z, h k (omega arith) (omega arith)) (ended_skip d (suc k) m (λ i a b. h i (omega arith) (omega arith)) ∙ ap (λ (u : ℕ). ended_from σ before js u m) y)
