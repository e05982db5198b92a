-- The counts instant by instant, under any rule of choice, and the lent buffer that has them at its front
use mathlib.Core.Path.{◌≡◌, refl, sym, ap, ◌∙◌}
use mathlib.Core.Bool.{Bool, true, false, cond}
use mathlib.Core.Logic.{◌≢◌}
use mathlib.Core.Option.{Option, none, some}
use mathlib.Core.List.{List}
use Prim.Native.Nat.{ℕ, suc, ◌+◌, ◌-◌, ◌≤◌, ◌<◌}
use native.Mathlib.Omega.{arith}
use native.Mathlib.Numerals.{add-one}
use native.Mathlib.Decide.{ℕ_discrete, dec_lt, le_ind}
use lib.Dec.{ltb}
use lib.ListN.{length, get_or, drop, length-set, get_or-append}
use lib.Seq.{get_or-set_same, get_or-set_other, get_or-append-add, get_or-drop, ext_get_or}
use borrow.Author.Tests.{le-ltb, eq-eqb, ne_eqb}
use Rattle.std.specs.declared.option.Option as opt
use Rattle.std.specs.declared.option.Option.TheVariants.{Some, None}
use Rattle.scope.specs.Numbers.{sooner, first_by, IsFirst, first, listed, written}
use Rattle.scope.specs.Jobs.{Job, release_of, work_of}
use Rattle.scope.specs.Machine.{work_left}
use Rattle.scope.specs.Run.{done_at, since, count_of, count}
use Rattle.theory.specs.Numbers.{least_is, none_first, some_first}
use Rattle.theory.specs.Machine.{work_left_first, work_left_falls}
use Rattle.theory.specs.Run.{listed_length, listed_at}
use Rattle.theory.specs.Buffers.{length_written}
use Rattle.machine.specs.Relation.{Ends, Kept, noted}

pub none_some : {j : ℕ} → None ≡ Some j → ⊥
none_some e = cc

pub some_same : {i j : ℕ} → Some i ≡ Some j → i ≡ j
some_same e = cc

-- ---- the least that passes, one number further

module _ (p : ℕ → Bool) (n : ℕ) where
  first_skip : p n ≡ false → first p (suc n) ≡ first p n
  unfolding first_by
  first_skip e = rw e

  first_stays : (j : ℕ) → j < n → p j ≡ true → first p (suc n) ≡ first p n
  unfolding first_by
  first_stays j l e = go (p n) (first p n) (least_is p n)
    where
      go : (t : Bool) (o : Option ℕ) → IsFirst p (λ i. i) n o → cond t (sooner ltb n o) o ≡ o
      go false o f = refl
      go true none f = absurd (f j l e)
      go true (some c) f = rw (le-ltb n c (omega (arith, f.0)))

-- ---- the counts

module _ (σ : ℕ → Bool) (before : ℕ → ℕ → Bool) (js : List Job) where
  abbrev left : ℕ → ℕ → ℕ
  left k j = get_or (work_left σ before js k) j 0

  -- work left never grows
  falls : (j : ℕ) → j < length js → (x k : ℕ) → x ≤ k → left k j ≤ left x j
  falls j l x k h = le_ind (λ (m : ℕ). left m j ≤ left x j) (omega arith) (λ m a ih. omega (arith, work_left_falls σ before js m j l)) k h

  -- before the first tick none is counted
  pub count_first : (j : ℕ) → 1 ≤ work_of js j → count σ before js 0 j ≡ 0
  unfolding count_of
  count_first j w =
      ap (since (release_of js j)) (none_first (done_at (work_left σ before js) j) 1 (λ x a.
      let z : x ≡ 0 = omega arith in
      ne_eqb (left x j) 0 (λ e. absurd (omega (arith, work_left_first σ before js j, ap (λ (y : ℕ). left y j) z)))))

  -- a job that goes on, or had ended before, keeps its count
  count_goes : (k j : ℕ) → 0 < left (k + 1) j → count σ before js (k + 1) j ≡ count σ before js k j
  unfolding count_of
  count_goes k j h =
      rw (add-one k)
      (ap (since (release_of js j))
      (first_skip (done_at (work_left σ before js) j) (suc k) (ne_eqb (left (suc k) j) 0 (λ e. absurd (omega (arith, rw (add-one k) at h))))))

  count_ended : (k j : ℕ) → left k j ≡ 0 → count σ before js (k + 1) j ≡ count σ before js k j
  unfolding count_of
  count_ended k j h =
      rw (add-one k) (ap (since (release_of js j)) (first_stays (done_at (work_left σ before js) j) (suc k) k (omega arith) (eq-eqb (left k j) 0 h)))

  -- a job that ends in tick k
  count_ends : (k j : ℕ) → j < length js → 0 < left k j → left (k + 1) j ≡ 0 → count σ before js (k + 1) j ≡ k + 1 - release_of js j
  unfolding count_of
  count_ends k j l h e =
      rw (add-one k)
      (ap (since (release_of js j))
      (some_first (done_at (work_left σ before js) j) (suc (suc k)) (suc k) (omega arith) (eq-eqb (left (suc k) j) 0 (rw (add-one k) at e))
      (λ x a. ne_eqb (left x j) 0 (λ q. absurd (omega (arith, falls j l x k (omega arith)))))))

  -- the count of a job that does not end in tick k
  still : (k : ℕ) (e : opt.Option ℕ) → Ends (work_left σ before js k) (work_left σ before js (k + 1)) (length js) e →
      (j : ℕ) → j < length js → e ≢ Some j → count σ before js (k + 1) j ≡ count σ before js k j
  still k e en j a u = elim (dec_lt 0 (left k j)) [ yes q ↦ count_goes k j (en.other j a u q) | no q ↦ count_ended k j (omega arith) ]

  -- noting the job that ended in tick k makes the counts of instant k those of k + 1
  pub kept_noted : (k : ℕ) (e : opt.Option ℕ) (d l : List ℕ) → length js ≤ length d →
      Ends (work_left σ before js k) (work_left σ before js (k + 1)) (length js) e →
      Kept (count σ before js k) (length js) d l → Kept (count σ before js (k + 1)) (length js) d (noted js (k + 1) e l)
  unfolding noted
  kept_noted k None d l room en kp =
      record { same = kp.same; low = λ j a. kp.low j a ∙ sym (still k None en j a (λ g. absurd (none_some g))); high = kp.high }
  kept_noted k (Some e) d l room en kp =
      let p = en.this e refl in
      let c : ℕ = k + 1 - release_of js e in
      record {
        same = length-set l e c ∙ kp.same;
        low = λ j a. elim (ℕ_discrete j e) [
          | yes g ↦ rw g (get_or-set_same l e c 0 (omega (arith, p.0, kp.same)) ∙ sym (count_ends k e p.0 p.1 p.2))
          | no g ↦ get_or-set_other l e j c 0 g ∙ kp.low j a ∙ sym (still k (Some e) en j a (λ h. g (some_same (sym h))))
        ];
        high = λ j a. get_or-set_other l e j c 0 (omega (arith, p.0)) ∙ kp.high j a;
      }

-- ---- the buffer as a list

pub kept_written : (f : ℕ → ℕ) (m : ℕ) (d l : List ℕ) → m ≤ length d → Kept f m d l → l ≡ written (listed f m) d
unfolding written
kept_written f m d l h kp =
    ext_get_or 0 l (written (listed f m) d) (kp.same ∙ sym (length_written (listed f m) d (omega (arith, size)))) (λ i a. elim (dec_lt i m) [
      | yes b ↦ kp.low i b ∙ sym (listed_at f m i b) ∙ sym (get_or-append (listed f m) (drop n d) 0 i (omega (arith, size)))
      | no b ↦ kp.high i (omega arith) ∙ sym (past i (omega arith))
    ])
  where
    n : ℕ
    n = length (listed f m)

    size : n ≡ m
    size = listed_length f m

    past : (i : ℕ) → m ≤ i → get_or (written (listed f m) d) i 0 ≡ get_or d i 0
    past i a =
        let q : i ≡ n + (i - n) = omega (arith, size) in
        ap (λ (x : ℕ). get_or (written (listed f m) d) x 0) q ∙ get_or-append-add (listed f m) (drop n d) (i - n) 0
        ∙ get_or-drop n d (i - n) 0 ∙ ap (λ (x : ℕ). get_or d x 0) (sym q)
