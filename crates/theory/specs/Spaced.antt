-- Jobs of one task are T apart: those within a stretch have no more work than the demand counts
use Rattle.std.specs.Prelude.{◌≡◌, Bool, ◌&&◌, eqb}
use Rattle.std.proofs.Math.Path.{refl}
use Rattle.std.proofs.Common.{sym, ap, ◌∙◌, le_of_eq, le-div_iff_mul-le, div-mul-le_self, mul-le-mul_right, eqb-true, eq-eqb}
use Rattle.std.proofs.Math.Bool.{true, false}
use Prim.Native.Nat.{ℕ, zero, suc, ◌+◌, ◌-◌, ◌*◌, ◌/◌, ◌≤◌, ◌<◌}
use native.Mathlib.Omega.{arith}
use Rattle.std.proofs.Math.Nat.{add-div_right}
use Rattle.std.proofs.Math.Decide.{dec_lt}
use Rattle.scope.specs.Numbers.{sum, bit, when}
use Rattle.theory.specs.Numbers.{fits, fits_true, true_fits, at, sum_le, sum_zero, sum_sorted, sum_when_same, when_le, when_none, when_pos, when_when}
use Rattle.theory.specs.Numbers.{and_both, both_and}
use Rattle.theory.specs.Tasks.{jobs_in, jobs_in_long}

-- n jobs of m tasks: job j is of task c j, is released at r j, and has work w j
pub record Legal (m : ℕ) (C T : ℕ → ℕ) (n : ℕ) (c r w : ℕ → ℕ) : Type 0 where
  pub known : (j : ℕ) → j < n → c j < m
  pub works : (j : ℕ) → j < n → w j ≤ C (c j)
  pub apart : (i j : ℕ) → i < j → j < n → c i ≡ c j → r i + T (c j) ≤ r j

div_step : (u v : ℕ) {T : ℕ} → 0 < T → v + T ≤ u → suc (v / T) ≤ u / T
div_step u v {T} p h = (le-div_iff_mul-le p).1 (omega (arith, div-mul-le_self v T))

module _ (n i T b : ℕ) (c r : ℕ → ℕ) (pos : 0 < T) (apart : (j k : ℕ) → j < k → k < n → c j ≡ i → c k ≡ i → r j + T ≤ r k) where
  -- job j is of task i, and its period lies in the u ticks from b
  abbrev inside : ℕ → ℕ → Bool
  inside u j = eqb (c j) i && fits b (r j) (r j + T) (b + u)

  inside_true : (u j : ℕ) → inside u j ≡ true → (c j ≡ i) × (b ≤ r j) × (r j + T ≤ b + u)
  inside_true u j e =
      let p = and_both (eqb (c j) i) (fits b (r j) (r j + T) (b + u)) e in
      let q = fits_true b (r j) (r j + T) (b + u) p.1 in
      (eqb-true (c j) i p.0, q.0, q.1)

  pub true_inside : (u j : ℕ) → c j ≡ i → b ≤ r j → r j + T ≤ b + u → inside u j ≡ true
  true_inside u j p q s = both_and {a = eqb (c j) i} (eq-eqb (c j) i p) (true_fits b (r j) (r j + T) (b + u) q s)

  -- of the first m jobs; the last of those inside ends the stretch for the others
  count_le : (m u : ℕ) → m ≤ n → sum (λ j. bit (inside u j)) m ≤ u / T
  unfolding sum
  count_le zero u l = omega arith
  count_le (suc m) u l = go (λ v. count_le m v (omega arith)) (inside u m) refl
    where
      go : ((v : ℕ) → sum (λ j. bit (inside v j)) m ≤ v / T) → (t : Bool) → inside u m ≡ t → sum (λ j. bit (inside u j)) m + bit t ≤ u / T
      go ih false e = omega (arith, ih u)
      go ih true e =
          let p = inside_true u m e in
          let v : ℕ = r m - b in
          let earlier : sum (λ j. bit (inside u j)) m ≤ sum (λ j. bit (inside v j)) m = sum_le _ _ m (λ j h.
          when_le (inside u j) (inside v j) 1 1 (λ q.
          let q' = inside_true u j q in
          let a : r j + T ≤ r m = apart j m h l q'.0 p.0 in
          (true_inside v j q'.0 q'.1 (omega arith), omega arith))) in
          omega (arith, ih v, div_step u v pos (omega arith))

-- Jobs of a set S, of tasks below k, that are released at b or later and whose release is g or more ticks before b + t
module _ (m : ℕ) (C T : ℕ → ℕ) (n : ℕ) (c r w : ℕ → ℕ) (legal : Legal m C T n c r w) (k : ℕ) (pos : (i : ℕ) → i < k → 0 < T i)
    (g : ℕ → ℕ) (S : ℕ → Bool) (low : (j : ℕ) → j < n → S j ≡ true → c j < k) (b t : ℕ) where
  abbrev test : ℕ → Bool
  test j = S j && fits b (r j) (r j + g (c j)) (b + t)

  one_task : (i : ℕ) → i < k → sum (λ j. at (c j) (when (test j) (w j)) i) n ≤ jobs_in (T i) (g i) t * C i
  one_task i l = go (dec_lt t (g i))
    where
      -- what the test tells of a job of task i
      told : (j : ℕ) → eqb (c j) i && test j ≡ true → (c j ≡ i) × (b ≤ r j) × (r j + g i ≤ b + t)
      told j e =
          let p = and_both (eqb (c j) i) (test j) e in
          let q : c j ≡ i = eqb-true (c j) i p.0 in
          let f = fits_true b (r j) (r j + g (c j)) (b + t) (and_both (S j) (fits b (r j) (r j + g (c j)) (b + t)) p.1).1 in
          (q, f.0, omega (arith, f.1, ap g q))

      go : Dec (t < g i) → sum (λ j. at (c j) (when (test j) (w j)) i) n ≤ jobs_in (T i) (g i) t * C i
      go (yes h) =
          omega (
            arith,
            sum_zero n,
            sum_le (λ j. at (c j) (when (test j) (w j)) i) (λ j. 0) n (λ j m.
                rw (when_when (eqb (c j) i) (test j) (w j)) (le_of_eq (when_none (eqb (c j) i && test j) (w j) (λ e. absurd (omega (arith, told j e)))))),
          )
      go (no h) =
          let u : ℕ = t - g i + T i in
          let apart : (j k : ℕ) → j < k → k < n → c j ≡ i → c k ≡ i → r j + T i ≤ r k =
          λ j k h m p q. rw q at (legal.apart j k h m (p ∙ sym q)) in
          let within : ℕ → Bool = λ j. eqb (c j) i && fits b (r j) (r j + T i) (b + u) in
          omega (
            arith,
            sum_le (λ j. at (c j) (when (test j) (w j)) i) (λ j. when (within j) (C i)) n (λ j m.
                rw (when_when (eqb (c j) i) (test j) (w j)) (when_le (eqb (c j) i && test j) (within j) (w j) (C i) (λ e. (
                  true_inside n i (T i) b c r (pos i l) apart u j (told j e).0 (told j e).1 (omega (arith, told j e)),
                  omega (arith, legal.works j m, ap C (told j e).0),
                )))),
            sum_when_same within (C i) n,
            mul-le-mul_right (C i) (count_le n i (T i) b c r (pos i l) apart n u (omega arith)),
            ap (λ (q : ℕ). q * C i) (add-div_right (t - g i) (pos i l)),
            ap (λ (q : ℕ). q * C i) (jobs_in_long (T i) (g i) t (omega arith)),
          )

  pub work_le : sum (λ j. when (test j) (w j)) n ≤ sum (λ i. jobs_in (T i) (g i) t * C i) k
  work_le =
      omega (
        arith,
        sum_sorted (λ j. when (test j) (w j)) c k n
            (λ j l p. low j l (and_both (S j) (fits b (r j) (r j + g (c j)) (b + t)) (when_pos (test j) (w j) p).0).0),
        sum_le (λ i. sum (λ j. at (c j) (when (test j) (w j)) i) n) (λ i. jobs_in (T i) (g i) t * C i) k one_task,
      )
