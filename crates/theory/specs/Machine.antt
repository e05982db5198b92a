-- Laws of every run under a rule that goes first by a number, over any pattern σ; the tick machine's is one, whatever its order
use Rattle.std.specs.Prelude.{◌≡◌, Bool, cond, ◌&&◌, leb, length, set}
use Rattle.std.proofs.Math.Path.{refl, ap, subst}
use Rattle.std.proofs.Common.{sym, ◌∙◌, le_trans, length-set, get_or-set_other, leb-true, le-leb}
use Rattle.std.proofs.Math.Bool.{true, false}
use Rattle.std.proofs.Math.Option.{Option, none, some}
use mathlib.Core.List.{List}
use Prim.Native.Nat.{ℕ, zero, suc, ◌+◌, ◌-◌, ◌≤◌, ◌<◌}
use native.Mathlib.Omega.{arith}
use Rattle.std.proofs.Math.Decide.{ℕ_discrete}
use Rattle.std.proofs.Math.ListN.{get_or, get_or-map}
use Rattle.std.proofs.lemmas.List.{length-map}
use Rattle.std.proofs.Math.Seq.{get_or-set_same}
use Rattle.scope.specs.Numbers.{when, bit, sum, IsFirst}
use Rattle.scope.specs.Jobs.{Job, job, release_of, work_of}
use Rattle.scope.specs.Machine.{pending, chosen, worked, tick, work_left}
use Rattle.scope.specs.Demands.{Under}
use Rattle.theory.specs.Numbers.{both_and, fits_true, true_fits, sum_but, By, first_is, by_nothing}
use Rattle.theory.specs.Quiet.{Serves, work_in}

-- ---- one tick

length_worked : (t : Bool) (o : Option ℕ) (l : List ℕ) → length (cond t (worked o l) l) ≡ length l
length_worked true none l = refl
length_worked true (some c) l = length-set l c (get_or l c 0 - 1)
length_worked false o l = refl

-- a job that is not chosen keeps its work
pub worked_other : (t : Bool) (o : Option ℕ) (l : List ℕ) (j : ℕ) → (t ≡ true → o ≡ some j → ⊥) → get_or (cond t (worked o l) l) j 0 ≡ get_or l j 0
worked_other true none l j u = refl
worked_other true (some c) l j u = get_or-set_other l c j (get_or l c 0 - 1) 0 (λ e. u refl (ap some (sym e)))
worked_other false o l j u = refl

worked_falls : (t : Bool) (o : Option ℕ) (l : List ℕ) (j : ℕ) → j < length l → get_or (cond t (worked o l) l) j 0 ≤ get_or l j 0
worked_falls true none l j h = omega arith
worked_falls true (some c) l j h =
    elim (ℕ_discrete c j) [
      | yes e ↦ rw e (rw (get_or-set_same l j (get_or l j 0 - 1) 0 h) (omega arith))
      | no u ↦ rw (get_or-set_other l c j (get_or l c 0 - 1) 0 (λ e. u (sym e))) (omega arith)
    ]
worked_falls false o l j h = omega arith

-- ---- any run

module _ (σ : ℕ → Bool) (js : List Job) (m : ℕ → ℕ) (left : ℕ → List ℕ) (run : Under σ js m left) where
  -- one number per job
  pub left_length : (k : ℕ) → length (left k) ≡ length js
  left_length zero = ap length run.start ∙ length-map js (λ x. x.work)
  left_length (suc k) = ap length (run.next k) ∙ length_worked (σ k) (run.goes k) (left k) ∙ left_length k

  pub left_first : (j : ℕ) → get_or (left 0) j 0 ≡ work_of js j
  left_first j = ap (λ (l : List ℕ). get_or l j 0) run.start ∙ get_or-map (λ (x : Job). x.work) js j (job 0 0 0)

  -- work left never grows
  pub left_falls : (k j : ℕ) → j < length js → get_or (left (suc k)) j 0 ≤ get_or (left k) j 0
  left_falls k j l =
      omega (arith, ap (λ (w : List ℕ). get_or w j 0) (run.next k), worked_falls (σ k) (run.goes k) (left k) j (omega (arith, left_length k)))

  -- up to its release a job has all its work left
  pub left_before : (k j : ℕ) → k ≤ release_of js j → get_or (left k) j 0 ≡ work_of js j
  unfolding pending
  left_before zero j h = left_first j
  left_before (suc k) j h =
      ap (λ (w : List ℕ). get_or w j 0) (run.next k)
      ∙ worked_other (σ k) (run.goes k) (left k) j (λ on e.
      let f : IsFirst (pending js k (left k)) m (length js) (some j) = subst (IsFirst (pending js k (left k)) m (length js)) e (run.first k on) in
      let p = fits_true (release_of js j) k 1 (get_or (left k) j 0) f.1 in
      omega (arith, p.0))
      ∙ left_before k j (omega arith)

  -- While a job with m at most e is pending, each supplied tick takes one from the work left in these jobs
  module _ (e : ℕ) where
    abbrev pub S : ℕ → Bool
    S j = leb (m j) e

    abbrev upto : ℕ → ℕ → Bool
    upto u i = S i && leb (suc (release_of js i)) u

    tick_busy : (t : Bool) (l : List ℕ) (k u j : ℕ) (o : Option ℕ) → length l ≡ length js → (t ≡ true → IsFirst (pending js k l) m (length js) o) →
        j < length js → k < u → pending js k l j ≡ true → m j ≤ e →
        sum (λ i. when (upto u i) (get_or (cond t (worked o l) l) i 0)) (length js) + bit t ≡ sum (λ i. when (upto u i) (get_or l i 0)) (length js)
    unfolding pending
    tick_busy false l k u j o s f h b q g = omega arith
    tick_busy true l k u j none s f h b q g = absurd (f refl j h q)
    tick_busy true l k u j (some c) s f h b q g =
        let first = f refl in
        let v : ℕ = get_or l c 0 - 1 in
        let p = fits_true (release_of js c) k 1 (get_or l c 0) first.1 in
        let in-set : upto u c ≡ true =
        both_and {a = S c} (le-leb (m c) e (le_trans (first.2 j h q) g)) (le-leb (suc (release_of js c)) u (omega (arith, p.0))) in
        sum_but (λ i. when (upto u i) (get_or l i 0)) (λ i. when (upto u i) (get_or (set l c v) i 0)) 1 (length js) c first.0
        (rw (in-set, get_or-set_same l c v 0 (omega (arith, first.0))) (omega (arith, p.1)))
        (λ i z. ap (when (upto u i)) (get_or-set_other l c i v 0 z))

    pub serves : Serves σ (length js) (release_of js) (work_of js) S (λ k j. get_or (left k) j 0)
    unfolding work_in pending
    serves = record {
      start = λ j l. omega (arith, left_first j);
      falls = left_falls;
      busy = λ k u j l b h q p.
          ap (λ (w : List ℕ). sum (λ i. when (upto u i) (get_or w i 0)) (length js) + bit (σ k)) (run.next k)
          ∙ tick_busy (σ k) (left k) k u j (run.goes k) (left_length k) (run.first k) l b
          (true_fits (release_of js j) k 1 (get_or (left k) j 0) h p) (leb-true (m j) e q);
    }

-- ---- the tick machine

module _ (σ : ℕ → Bool) (before : ℕ → ℕ → Bool) (js : List Job) where
  -- its order goes first by m
  pub machine_under : (m : ℕ → ℕ) → By before m → Under σ js m (work_left σ before js)
  unfolding work_left tick
  machine_under m by = record {
    goes = λ k. chosen before js k (work_left σ before js k);
    start = refl;
    next = λ k. refl;
    first = λ k on. first_is (pending js k (work_left σ before js k)) before m by (length js);
  }

  -- so what holds of any run holds of it
  abbrev any : Under σ js (λ i. 0) (work_left σ before js)
  any = machine_under (λ i. 0) (by_nothing before)

  pub work_left_length : (k : ℕ) → length (work_left σ before js k) ≡ length js
  work_left_length = left_length σ js (λ i. 0) (work_left σ before js) any

  pub work_left_first : (j : ℕ) → get_or (work_left σ before js 0) j 0 ≡ work_of js j
  work_left_first = left_first σ js (λ i. 0) (work_left σ before js) any

  pub work_left_falls : (k j : ℕ) → j < length js → get_or (work_left σ before js (suc k)) j 0 ≤ get_or (work_left σ before js k) j 0
  work_left_falls = left_falls σ js (λ i. 0) (work_left σ before js) any

  pub work_left_before : (k j : ℕ) → k ≤ release_of js j → get_or (work_left σ before js k) j 0 ≡ work_of js j
  work_left_before = left_before σ js (λ i. 0) (work_left σ before js) any
