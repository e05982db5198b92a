-- A violating length exists at all only if one exists in 1 to H
use Rattle.std.specs.Prelude.{◌≡◌, Bool, List, ℕ, zero, suc, ◌+◌, ◌-◌, ◌*◌, ◌≤◌, ◌<◌}
use Rattle.std.proofs.Common.{ap, arith, le-mul_of_pos_right}
use Rattle.std.specs.Int.{◌∣◌}
use Rattle.std.proofs.Math.Decide.{dec_le, ℕ_discrete}
use Rattle.scope.specs.Ticks.{Periodic, least_supply}
use Rattle.scope.specs.Tasks.{Task, demand}
use Rattle.theory.specs.Ticks.{least_cycle}
use Rattle.theory.specs.Tasks.{TaskRules, Within, Periods, load, demand_none, demand_cycle, demand_whole}

-- ---- any two amounts: where H more adds at most u to f, and adds g H, which is no less, to g

module _ (f g : ℕ → ℕ) (H u : ℕ) (pos : 1 ≤ H) (none : f 0 ≡ 0)
    (f-H : (t : ℕ) → f (t + H) ≤ f t + u) (g-H : (t : ℕ) → g (t + H) ≡ g t + g H) (carries : u ≤ g H) where
  -- a length that k cycles reach
  above_within : (k t : ℕ) → t ≤ k * H → g t < f t → (a : ℕ) × (1 ≤ a) × (a ≤ H) × (g a < f a)
  above_within zero t l h = let e : t ≡ 0 = omega arith in absurd (omega (arith, ap f e))
  above_within (suc k) t l h =
      elim (dec_le t H) [
        | yes m ↦ elim (ℕ_discrete t 0) [ yes e ↦ absurd (omega (arith, ap f e)) | no q ↦ (t, omega arith, m, h) ]
        | no m ↦
            let e : t ≡ t - H + H = omega arith in
            above_within k (t - H) (omega arith) (omega (arith, ap f e, ap g e, f-H (t - H), g-H (t - H)))
      ]

-- ---- demand and least supply

module _ (σ : ℕ → Bool) (P : ℕ) (per : Periodic σ P) (ts : List Task) (ok : TaskRules ts)
    (H : ℕ) (pos : 1 ≤ H) (frame : P ∣ H) (div : Periods ts H) where
  -- where the supply of a cycle carries its load, a violation moves back by a cycle; where it does not, H itself violates
  pub horizon : Within ts → (t : ℕ) → least_supply σ P t < demand ts t → (a : ℕ) × (1 ≤ a) × (a ≤ H) × (least_supply σ P a < demand ts a)
  horizon within t v =
      elim (dec_le (load ts H) (least_supply σ P H)) [
        | yes c ↦
            above_within (demand ts) (least_supply σ P) H (load ts H) pos (demand_none ts ok) (demand_cycle ts H ok div)
            (least_cycle σ P per H frame) c t t (le-mul_of_pos_right t pos) v
        | no c ↦ (H, pos, omega arith, omega (arith, demand_whole ts H ok div within))
      ]
