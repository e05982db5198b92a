-- The critical partition: a legal window table whose supply from tick 0, and whose own least supply, are the least supply that it came from
use Rattle.std.specs.Prelude.{◌≡◌, Bool, length}
use Rattle.std.proofs.Math.Path.{sym, ap, ap₂, fun_ext}
use Rattle.std.proofs.Common.{◌∙◌, zero-add, mod-lt, add-one, lt-ltb, le-ltb}
use Rattle.std.proofs.Math.Option.{none}
use Prim.Native.Nat.{ℕ, zero, suc, ◌+◌, ◌%◌, ◌≤◌}
use native.Mathlib.Omega.{arith}
use Rattle.std.proofs.Math.Decide.{dec_lt}
use Rattle.std.proofs.Math.Dec.{ltb}
use Rattle.scope.specs.Numbers.{bit}
use Rattle.scope.specs.Ticks.{Periodic, supply, per_frame, least_supply}
use Rattle.scope.specs.Windows.{framed, windows_of, supplied, supplied_by, bad_window}
use Rattle.scope.specs.Partition.{rises, critical}
use Rattle.theory.specs.Ticks.{supply_split, same_mod, least_unique, least_none, least_next_frame, least_up, least_up_one, least_superadditive}
use Rattle.theory.specs.MaximalRuns.{within_in, maximal_even, maximal_cover, maximal_rule}

-- ---- the ticks at which the least supply rises

bit_ltb : (a b : ℕ) → a ≤ b → b ≤ a + 1 → b ≡ a + bit (ltb a b)
bit_ltb a b h k = elim (dec_lt a b) [ yes l ↦ rw (lt-ltb a b l) (omega arith) | no l ↦ rw (le-ltb a b (omega arith)) (omega arith) ]

-- the order of two numbers does not see a number added to both
ltb_add : (a b x : ℕ) → ltb (a + x) (b + x) ≡ ltb a b
ltb_add a b x =
    elim (dec_lt a b) [
      | yes l ↦ lt-ltb (a + x) (b + x) (omega arith) ∙ sym (lt-ltb a b l)
      | no l ↦ le-ltb (a + x) (b + x) (omega arith) ∙ sym (le-ltb a b (omega arith))
    ]

module _ (σ : ℕ → Bool) (P : ℕ) (per : Periodic σ P) where
  -- one tick more gives one more exactly where the least supply rises
  pub rise : (t : ℕ) → least_supply σ P (suc t) ≡ least_supply σ P t + bit (rises σ P t)
  unfolding rises
  rise t =
      rw (add-one t)
      (bit_ltb (least_supply σ P t) (least_supply σ P (suc t)) (least_up σ P per t (suc t) (omega arith)) (least_up_one σ P per t))

  pub rises_periodic : Periodic (rises σ P) P
  unfolding rises
  rises_periodic =
      record {
        some = per.some;
        same = λ k.
            let e : k + P + 1 ≡ k + 1 + P = omega arith in
            ap₂ ltb (least_next_frame σ P per k) (ap (least_supply σ P) e ∙ least_next_frame σ P per (k + 1))
            ∙ ltb_add (least_supply σ P k) (least_supply σ P (k + 1)) (per_frame σ P);
      }

  -- supplied at these ticks, the ticks 0 to t − 1 hold the least supply of t
  pub rises_supply : (t : ℕ) → supply (rises σ P) 0 t ≡ least_supply σ P t
  unfolding supply
  rises_supply zero = sym (least_none σ P per)
  rises_supply (suc t) = omega (arith, rises_supply t, rise t, ap (λ (k : ℕ). bit (rises σ P k)) (zero-add t))

  -- and no other t ticks hold less: the least supply is superadditive
  pub rises_least : (t : ℕ) → least_supply (rises σ P) P t ≡ least_supply σ P t
  rises_least t =
      least_unique (rises σ P) P rises_periodic t (least_supply σ P t) 0
      (λ s. omega (
        arith,
        supply_split (rises σ P) 0 s t,
        rises_supply (s + t),
        rises_supply s,
        ap (λ (k : ℕ). supply (rises σ P) k t) (zero-add s),
        least_superadditive σ P per s t,
      ))
      (rises_supply t)

-- ---- the critical partition

module _ (σ : ℕ → Bool) (P : ℕ) where
  -- its windows keep the rule of window tables
  pub critical_rule : bad_window (framed P) (windows_of (critical σ P)) ≡ none
  unfolding critical
  critical_rule = maximal_rule (rises σ P) P

  pub critical_even : length (critical σ P) % 2 ≡ 0
  unfolding critical
  critical_even = maximal_even (rises σ P) P

module _ (σ : ℕ → Bool) (P : ℕ) (per : Periodic σ P) where
  -- it supplies the ticks at which the least supply rises
  pub critical_supplied : supplied_by (framed P) (critical σ P) ≡ rises σ P
  unfolding supplied critical
  critical_supplied =
      fun_ext (λ k.
      maximal_cover (rises σ P) P (k % P) ∙ within_in (rises σ P) P (k % P) (mod-lt k per.some)
      ∙ same_mod (rises σ P) P (rises_periodic σ P per) k)

  pub critical_supply : (t : ℕ) → supply (supplied_by (framed P) (critical σ P)) 0 t ≡ least_supply σ P t
  critical_supply t = ap (λ (κ : ℕ → Bool). supply κ 0 t) critical_supplied ∙ rises_supply σ P per t

  pub critical_least : (t : ℕ) → least_supply (supplied_by (framed P) (critical σ P)) P t ≡ least_supply σ P t
  critical_least t = ap (λ (κ : ℕ → Bool). least_supply κ P t) critical_supplied ∙ rises_least σ P per t
