-- Laws of a run's outcome and counts, over any pattern σ and any rule
use Rattle.std.specs.Prelude.{◌≡◌, true, List, [], ◌∷◌, length, get_or}
use Rattle.std.proofs.Math.Path.{refl}
use Rattle.std.proofs.Common.{sym, ap, ◌∙◌, length-append, eqb-true, eq-eqb}
use Rattle.std.proofs.Math.Bool.{Bool}
use Rattle.std.proofs.lemmas.Bool.{false≢true}
use Rattle.std.proofs.Math.Option.{Option, none, some}
use Prim.Native.Nat.{ℕ, zero, suc, ◌+◌, ◌≤◌, ◌<◌, min}
use native.Mathlib.Omega.{arith}
use Rattle.std.proofs.Math.Decide.{ℕ_discrete, dec_le}
use Rattle.std.proofs.Math.ListN.{get_or-append}
use Rattle.std.proofs.lemmas.List.{get_or_at}
use Rattle.scope.specs.Numbers.{first, listed}
use Rattle.scope.specs.Tasks.{Task}
use Rattle.scope.specs.Jobs.{Job, release_of, work_of, deadline}
use Rattle.scope.specs.Machine.{work_left}
use Rattle.scope.specs.Run.{Outcome, Outcome.met, Outcome.missed, late, judged, then_at, outcome, ticks_done, done_at, since, count_of}
use Rattle.scope.specs.Demands.{Under}
use Rattle.theory.specs.Numbers.{fits_true, first_none, first_some}
use Rattle.theory.specs.Machine.{left_before}

-- ---- lists of counts

pub listed_length : (f : ℕ → ℕ) (n : ℕ) → length (listed f n) ≡ n
unfolding listed
listed_length f zero = refl
listed_length f (suc n) = length-append (listed f n) (f n ∷ []) ∙ omega (arith, listed_length f n)

pub listed_at : (f : ℕ → ℕ) (n j : ℕ) → j < n → get_or (listed f n) j 0 ≡ f j
unfolding listed
listed_at f zero j l = absurd (omega arith)
listed_at f (suc n) j l =
    elim (ℕ_discrete n j) [
      | yes e ↦ get_or_at (listed f n) (f n) [] 0 j (listed_length f n ∙ e) ∙ ap f e
      | no u ↦ get_or-append (listed f n) (f n ∷ []) 0 j (omega (arith, listed_length f n)) ∙ listed_at f n j (omega arith)
    ]

-- ---- runs

module _ (σ : ℕ → Bool) (before : ℕ → ℕ → Bool) (js : List Job) where
  -- where no job is unfinished at its deadline or later, every run is met
  pub all_met : (ts : List Task) → ((j k : ℕ) → j < length js → deadline ts js j ≤ k → get_or (work_left σ before js k) j 0 ≡ 0) →
      (n : ℕ) → outcome σ before ts js n ≡ met
  unfolding outcome late
  all_met ts h zero = refl
  all_met ts h (suc k) = rw (all_met ts h k) (go (first lates (length js)) refl)
    where
      lates : ℕ → Bool
      lates = late ts js (suc k) (work_left σ before js (suc k))

      go : (o : Option ℕ) → first lates (length js) ≡ o → judged (suc k) o ≡ met
      go none e = refl
      go (some j) e =
          let f = first_some lates (length js) j e in
          let p = fits_true (deadline ts js j) (suc k) 1 (get_or (work_left σ before js (suc k)) j 0) f.1 in
          absurd (omega (arith, h j (suc k) f.0 p.0, p.1))

  -- ---- a run's front: of a run of n ticks, the run of m of them

  module _ (ts : List Task) where
    abbrev first_late : ℕ → Option ℕ
    first_late k = first (late ts js k (work_left σ before js k)) (length js)

    -- a run that is met was met before
    pub met_before : (m n : ℕ) → m ≤ n → outcome σ before ts js n ≡ met → outcome σ before ts js m ≡ met
    unfolding outcome
    met_before m zero h e = let z : m ≡ 0 = omega arith in rw z
    met_before m (suc n) h e =
        elim (ℕ_discrete m (suc n)) [
          | yes z ↦ rw z e
          | no u ↦ met_before m n (omega arith) (front (outcome σ before ts js n) (judged (suc n) (first_late (suc n))) e)
        ]
      where
        front : (o p : Outcome) → then_at o p ≡ met → o ≡ met
        front met p q = refl
        front (missed k j) p q = q

    -- no more ticks are done than the run has
    pub done_within : (n : ℕ) → ticks_done (outcome σ before ts js n) n ≤ n
    unfolding outcome
    done_within zero = omega arith
    done_within (suc n) = go (outcome σ before ts js n) (first_late (suc n)) (done_within n)
      where
        late_now : (o : Option ℕ) → ticks_done (judged (suc n) o) (suc n) ≤ suc n
        late_now none = omega arith
        late_now (some j) = omega arith

        go : (o : Outcome) (f : Option ℕ) → ticks_done o n ≤ n → ticks_done (then_at o (judged (suc n) f)) (suc n) ≤ suc n
        go met f h = late_now f
        go (missed k j) f h = omega arith

    -- of m ticks as many are done as of n, up to m
    pub done_before : (m n : ℕ) → m ≤ n → ticks_done (outcome σ before ts js m) m ≡ min m (ticks_done (outcome σ before ts js n) n)
    unfolding outcome
    done_before m zero h = let z : m ≡ 0 = omega arith in rw z
    done_before m (suc n) h =
        elim (ℕ_discrete m (suc n)) [
          | yes z ↦ rw z (omega (arith, done_within (suc n)))
          | no u ↦ omega (arith, done_before m n (omega arith), go (outcome σ before ts js n) (first_late (suc n)) (done_within n))
        ]
      where
        late_now : (o : Option ℕ) → min n (ticks_done (judged (suc n) o) (suc n)) ≡ n
        late_now none = omega arith
        late_now (some j) = omega arith

        go : (o : Outcome) (f : Option ℕ) → ticks_done o n ≤ n → min n (ticks_done (then_at o (judged (suc n) f)) (suc n)) ≡ ticks_done o n
        go met f q = late_now f
        go (missed k j) f q = omega arith

-- in any run a job that has no work left at instant k is counted by then, where the run ends no earlier
module _ (σ : ℕ → Bool) (js : List Job) (m : ℕ → ℕ) (left : ℕ → List ℕ) (run : Under σ js m left) where
  pub count_by : (n k j : ℕ) → k ≤ n → 1 ≤ work_of js j → get_or (left k) j 0 ≡ 0 →
      (1 ≤ count_of left js n j) × (release_of js j + count_of left js n j ≤ k)
  unfolding count_of
  count_by n k j l w e = go (first done (suc n)) refl
    where
      done : ℕ → Bool
      done = done_at left j

      done_k : done k ≡ true
      done_k = eq-eqb (get_or (left k) j 0) 0 e

      go : (o : Option ℕ) → first done (suc n) ≡ o → (1 ≤ since (release_of js j) o) × (release_of js j + since (release_of js j) o ≤ k)
      go none q = absurd (false≢true (sym (first_none done (suc n) q k (omega arith)) ∙ done_k))
      go (some i) q =
          let f = first_some done (suc n) i q in
          let z : get_or (left i) j 0 ≡ 0 = eqb-true (get_or (left i) j 0) 0 f.1 in
          let late-enough : release_of js j < i =
          elim (dec_le i (release_of js j)) [ yes h ↦ absurd (omega (arith, z, left_before σ js m left run i j h)) | no h ↦ omega arith ] in
          let soon-enough : i ≤ k =
          elim (dec_le i k) [ yes h ↦ h | no h ↦ absurd (false≢true (sym (f.2 k (omega arith)) ∙ done_k)) ] in
          (omega arith, omega arith)
