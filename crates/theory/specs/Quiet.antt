-- Quiet instants: none of the jobs of a set S that were released before it has work left. What every rule of choice shares:
-- from a quiet instant b, t ticks that supply the work that S releases in them bring another
use Rattle.std.specs.Prelude.{◌≡◌, true, ◌&&◌, ◌⊎◌}
use Rattle.std.proofs.Common.{ap, inl, add-zero, add-suc}
use Rattle.std.proofs.Math.Bool.{Bool}
use Rattle.std.proofs.Math.Logic.{inr}
use Prim.Native.Nat.{ℕ, zero, suc, pred, ◌+◌, ◌-◌, ◌≤◌, ◌<◌}
use native.Mathlib.Omega.{arith}
use Rattle.std.proofs.Math.Nat.{le_of_eq}
use Rattle.std.proofs.Math.Decide.{dec_le, dec_lt, ℕ_discrete}
use Rattle.std.proofs.Math.Dec.{leb}
use borrow.Author.Tests.{leb-true, le-leb}
use Rattle.scope.specs.Numbers.{sum, bit, when}
use Rattle.scope.specs.Ticks.{supply}
use Rattle.theory.specs.Numbers.{fits, true_fits, sum_le, sum_has, sum_zero, sum_pos, when_le, when_none, when_pos, and_both, both_and}

-- the work left at instant k in the jobs of S released before u
unfoldable pub work_in : (n : ℕ) (r : ℕ → ℕ) (S : ℕ → Bool) (rem : ℕ → ℕ → ℕ) → ℕ → ℕ → ℕ
work_in n r S rem u k = sum (λ j. when (S j && leb (suc (r j)) u) (rem k j)) n

-- A run: rem k j is the work left of job j, of n, at instant k. `busy`: while a job of S is pending, each supplied tick goes to a job of S that is released
pub record Serves (σ : ℕ → Bool) (n : ℕ) (r w : ℕ → ℕ) (S : ℕ → Bool) (rem : ℕ → ℕ → ℕ) : Type 0 where
  pub start : (j : ℕ) → j < n → rem 0 j ≤ w j
  pub falls : (k j : ℕ) → j < n → rem (suc k) j ≤ rem k j
  pub busy : (k u j : ℕ) → j < n → k < u → r j ≤ k → S j ≡ true → 0 < rem k j → work_in n r S rem u (suc k) + bit (σ k) ≡ work_in n r S rem u k

module _ (σ : ℕ → Bool) (n : ℕ) (r w : ℕ → ℕ) (S : ℕ → Bool) (rem : ℕ → ℕ → ℕ) (run : Serves σ n r w S rem) where
  pub rem_le : (k j : ℕ) → j < n → rem k j ≤ w j
  rem_le zero j l = run.start j l
  rem_le (suc k) j l = omega (arith, rem_le k j l, run.falls k j l)

  pub falls_by : (t k j : ℕ) → j < n → rem (k + t) j ≤ rem k j
  falls_by zero k j l = rw (add-zero k) (omega arith)
  falls_by (suc t) k j l = rw (add-suc k t) (omega (arith, falls_by t k j l, run.falls (k + t) j l))

  pub falls_to : (k e j : ℕ) → j < n → k ≤ e → rem e j ≤ rem k j
  falls_to k e j l h = let q : k + (e - k) ≡ e = omega arith in omega (arith, ap (λ (t : ℕ). rem t j) q, falls_by (e - k) k j l)

  abbrev pub Quiet : ℕ → Type 0
  Quiet x = work_in n r S rem x x ≡ 0

  pub quiet_done : (x j : ℕ) → Quiet x → j < n → S j ≡ true → r j < x → rem x j ≡ 0
  unfolding work_in
  quiet_done x j q l s h =
      let z = rw (both_and {a = S j} s (le-leb (suc (r j)) x h)) at (sum_has (λ i. when (S i && leb (suc (r i)) x) (rem x i)) n j l) in
      omega (arith, z)

  pub quiet_zero : Quiet 0
  unfolding work_in
  quiet_zero =
      omega (
        arith,
        sum_zero n,
        sum_le (λ j. when (S j && leb (suc (r j)) 0) (rem 0 j)) (λ j. 0) n (λ j l.
            le_of_eq (when_none (S j && leb (suc (r j)) 0) (rem 0 j)
            (λ e. absurd (omega (arith, leb-true (suc (r j)) 0 (and_both (S j) (leb (suc (r j)) 0) e).1))))),
      )

  -- a quiet instant after b and no later than e
  pub record Next (b e : ℕ) : Type 0 where
    pub at : ℕ
    pub after : b < at
    pub by : at ≤ e
    pub quiet : Quiet at

  -- from b on: another quiet instant, or every supplied tick so far went to S
  forward : (b u t : ℕ) → b + t ≤ u → Next b (b + t) ⊎ (work_in n r S rem u (b + t) + supply σ b t ≡ work_in n r S rem u b)
  unfolding supply work_in
  forward b u zero h = inr (rw (add-zero b) (omega arith))
  forward b u (suc t) h = step (forward b u t (omega arith))
    where
      x : ℕ
      x = suc (b + t)

      paid : work_in n r S rem u (b + t) + supply σ b t ≡ work_in n r S rem u b → Dec (work_in n r S rem x x ≡ 0) →
          Next b (b + suc t) ⊎ (work_in n r S rem u (b + suc t) + supply σ b (suc t) ≡ work_in n r S rem u b)
      paid p (yes q) = inl (record { at = x; after = omega arith; by = omega arith; quiet = q })
      paid p (no q) =
          let f : ℕ → ℕ = λ j. when (S j && leb (suc (r j)) x) (rem x j) in
          let m = sum_pos f n (omega arith) in
          let j : ℕ = m.index in
          let z = when_pos (S j && leb (suc (r j)) x) (rem x j) m.pos in
          let s = and_both (S j) (leb (suc (r j)) x) z.0 in
          inr (rw (add-suc b t) (omega (
            arith,
            p,
            run.busy (b + t) u j m.below (omega arith)
                (omega (arith, leb-true (suc (r j)) x s.1)) s.0 (omega (arith, z.1, run.falls (b + t) j m.below)),
          )))

      step : Next b (b + t) ⊎ (work_in n r S rem u (b + t) + supply σ b t ≡ work_in n r S rem u b) →
          Next b (b + suc t) ⊎ (work_in n r S rem u (b + suc t) + supply σ b (suc t) ≡ work_in n r S rem u b)
      step (inl y) = inl (record { at = y.at; after = y.after; by = omega (arith, y.by); quiet = y.quiet })
      step (inr p) = paid p (ℕ_discrete (work_in n r S rem x x) 0)

  -- work of S released in the t ticks from b
  abbrev pub released : ℕ → ℕ → ℕ
  released b t = sum (λ j. when (S j && fits b (r j) (r j + 1) (b + t)) (w j)) n

  fresh : (b t : ℕ) → Quiet b → work_in n r S rem (b + t) b ≤ released b t
  unfolding work_in
  fresh b t q = sum_le _ _ n (λ j l.
      let a : Bool = leb (suc (r j)) (b + t) in
      elim (dec_lt (r j) b) [
        | yes h ↦ omega (arith, when_none (S j && a) (rem b j) (λ z. quiet_done b j q l (and_both (S j) a z).0 h))
        | no h ↦ when_le (S j && a) (S j && fits b (r j) (r j + 1) (b + t)) (rem b j) (w j) (λ z.
            let s = and_both (S j) a z in
            (both_and {a = S j} s.0 (true_fits b (r j) (r j + 1) (b + t) (omega arith) (omega (arith, leb-true (suc (r j)) (b + t) s.1))), rem_le b j l))
      ])

  pub next_quiet : (b t : ℕ) → 0 < t → Quiet b → released b t ≤ supply σ b t → Next b (b + t)
  next_quiet b t p q h = done (forward b (b + t) t (omega arith))
    where
      done : Next b (b + t) ⊎ (work_in n r S rem (b + t) (b + t) + supply σ b t ≡ work_in n r S rem (b + t) b) → Next b (b + t)
      done (inl y) = y
      done (inr e) = record { at = b + t; after = omega arith; by = omega arith; quiet = omega (arith, fresh b t q) }

  -- quiet instants that lead on past x₀
  pub quiet_past : (x₀ e : ℕ) → ((b : ℕ) → b ≤ x₀ → Quiet b → Next b e) → Next x₀ e
  quiet_past x₀ e on = go (suc x₀) 0 (omega arith) (omega arith) quiet_zero
    where
      go : (k b : ℕ) → x₀ < b + k → b ≤ x₀ → Quiet b → Next x₀ e
      go zero b h l q = absurd (omega arith)
      go (suc k) b h l q =
          let y = on b l q in
          elim (dec_le y.at x₀) [
            | yes m ↦ go k y.at (omega (arith, y.after)) m y.quiet
            | no m ↦ record { at = y.at; after = omega arith; by = y.by; quiet = y.quiet }
          ]

  -- an instant e before which no stretch that ends in it releases more work of S than it supplies is quiet
  pub quiet_at : (e : ℕ) → 0 < e → ((b t : ℕ) → b + t ≡ e → released b t ≤ supply σ b t) → Quiet e
  quiet_at e p enough =
      let y = quiet_past (pred e) e (λ b m q.
      let u : b + (e - b) ≡ e = omega arith in
      rw u at (next_quiet b (e - b) (omega arith) q (enough b (e - b) u))) in
      let u : y.at ≡ e = omega (arith, y.after, y.by) in
      rw u at y.quiet

  -- a job of S that a quiet instant finds released has no work left from then on
  pub done_by : (x e j : ℕ) → Quiet x → j < n → S j ≡ true → r j < x → x ≤ e → rem e j ≡ 0
  done_by x e j q l s h m = omega (arith, quiet_done x j q l s h, falls_to x e j l m)
