-- Laws of supply and of the least supply, over any pattern σ of supplied ticks
use Rattle.std.specs.Prelude.{◌≡◌, Bool, eqb}
use Rattle.std.proofs.Math.Path.{refl, ap}
use Rattle.std.proofs.Common.{sym, ◌∙◌, add-zero, zero-add, add_assoc, mod-lt, le_trans, le_antisymm}
use Rattle.std.proofs.Math.Bool.{true, false}
use Rattle.std.proofs.Math.Option.{Option, none, some}
use Prim.Native.Nat.{ℕ, zero, suc, ◌+◌, ◌-◌, ◌*◌, ◌%◌, ◌/◌, ◌≤◌, ◌<◌, ◌∣◌}
use native.Mathlib.Omega.{arith}
use Rattle.std.proofs.Math.Nat.{add-suc, mod-add-div', div-mul_cancel}
use borrow.Author.Tests.{eqb-true, eqb-false}
use Rattle.scope.specs.Numbers.{bit, first, or_zero}
use Rattle.scope.specs.Ticks.{Periodic, supply, per_frame, least_supply, least_start}
use Rattle.theory.specs.Numbers.{bit_le, least_le, least_over, least_met, first_none, first_some}

-- ---- supply

module _ (σ : ℕ → Bool) where
  -- a stretch splits into two
  pub supply_split : (s a b : ℕ) → supply σ s (a + b) ≡ supply σ s a + supply σ (s + a) b
  unfolding supply
  supply_split s a zero = rw (add-zero a) (omega arith)
  supply_split s a (suc b) = rw add-suc (omega (arith, supply_split s a b, ap (λ (k : ℕ). bit (σ k)) (add_assoc s a b)))

  -- no more than there are ticks
  pub supply_le : (s t : ℕ) → supply σ s t ≤ t
  unfolding supply
  supply_le s zero = omega arith
  supply_le s (suc t) = omega (arith, supply_le s t, bit_le (σ (s + t)))

  -- the first tick apart
  pub supply_first : (s t : ℕ) → supply σ s (suc t) ≡ bit (σ s) + supply σ (suc s) t
  unfolding supply
  supply_first s zero = omega (arith, ap (λ (k : ℕ). bit (σ k)) (add-zero s))
  supply_first s (suc t) =
      let e : s + suc t ≡ suc s + t = omega arith in omega (arith, supply_first s t, ap (λ (k : ℕ). bit (σ k)) e)

  -- the start moves on by a tick: the first tick goes out and the next one comes in
  pub supply_slide : (s t : ℕ) → supply σ (suc s) t + bit (σ s) ≡ supply σ s t + bit (σ (s + t))
  unfolding supply
  supply_slide s t = omega (arith, supply_first s t)

  pub supply_up : (s t u : ℕ) → t ≤ u → supply σ s t ≤ supply σ s u
  supply_up s t u h = let e : t + (u - t) ≡ u = omega arith in omega (arith, supply_split s t (u - t), ap (supply σ s) e)

-- ---- two patterns, of which τ supplies every tick that σ does

module _ (σ τ : ℕ → Bool) (more : (k : ℕ) → σ k ≡ true → τ k ≡ true) where
  pub supply_more : (s t : ℕ) → supply σ s t ≤ supply τ s t
  unfolding supply
  supply_more s zero = omega arith
  supply_more s (suc t) = omega (arith, supply_more s t, go (σ (s + t)) (τ (s + t)) (more (s + t)))
    where
      go : (a b : Bool) → (a ≡ true → b ≡ true) → bit a ≤ bit b
      go true b h = omega (arith, ap bit (h refl))
      go false b h = omega arith

  pub least_more : (P t : ℕ) → least_supply σ P t ≤ least_supply τ P t
  unfolding least_supply
  least_more P t = least_over (λ s. supply σ s t) (λ s. supply τ s t) P (λ s. supply_more s t)

-- ---- a pattern that repeats with P

module _ (σ : ℕ → Bool) (P : ℕ) (per : Periodic σ P) where
  -- every stretch of P ticks has A supplied ticks
  pub supply_frame : (s : ℕ) → supply σ s P ≡ per_frame σ P
  supply_frame zero = refl
  supply_frame (suc s) = omega (arith, supply_slide σ s P, ap bit (per.same s), supply_frame s)

  -- a frame later the supply is the same
  pub supply_shift : (s t : ℕ) → supply σ (s + P) t ≡ supply σ s t
  supply_shift s t =
      let e : P + t ≡ t + P = omega arith in
      omega (arith, supply_split σ s P t, supply_split σ s t P, supply_frame s, supply_frame (s + t), ap (supply σ s) e)

  -- whole frames more hold A each, from any start
  pub supply_frames : (q s t : ℕ) → supply σ s (t + q * P) ≡ supply σ s t + q * per_frame σ P
  supply_frames zero s t = let e : t + 0 * P ≡ t = omega arith in omega (arith, ap (supply σ s) e)
  supply_frames (suc q) s t =
      let e : t + suc q * P ≡ t + q * P + P = omega arith in
      omega (arith, ap (supply σ s) e, supply_split σ s (t + q * P) P, supply_frame (s + (t + q * P)), supply_frames q s t)

  pub supply_shifts : (q s t : ℕ) → supply σ (s + q * P) t ≡ supply σ s t
  supply_shifts zero s t = let e : s + 0 * P ≡ s = omega arith in ap (λ (k : ℕ). supply σ k t) e
  supply_shifts (suc q) s t =
      let e : s + suc q * P ≡ s + q * P + P = omega arith in
      ap (λ (k : ℕ). supply σ k t) e ∙ supply_shift (s + q * P) t ∙ supply_shifts q s t

  -- only the start's place in its frame counts
  pub supply_mod : (s t : ℕ) → supply σ (s % P) t ≡ supply σ s t
  supply_mod s t = sym (supply_shifts (s / P) (s % P) t) ∙ ap (λ (k : ℕ). supply σ k t) (mod-add-div' s P)

  pub same_frames : (q k : ℕ) → σ (k + q * P) ≡ σ k
  same_frames zero k = let e : k + 0 * P ≡ k = omega arith in ap σ e
  same_frames (suc q) k =
      let e : k + suc q * P ≡ k + q * P + P = omega arith in ap σ e ∙ per.same (k + q * P) ∙ same_frames q k

  pub same_mod : (k : ℕ) → σ (k % P) ≡ σ k
  same_mod k = sym (same_frames (k / P) (k % P)) ∙ ap σ (mod-add-div' k P)

  -- ---- the least supply

  -- no start, however late, has less
  pub least_over_all_starts : (s t : ℕ) → least_supply σ P t ≤ supply σ s t
  unfolding least_supply
  least_over_all_starts s t =
      omega (arith, least_le (λ k. supply σ k t) P (s % P) (mod-lt s per.some), supply_mod s t)

  -- and some start below P has no more
  pub least_is_met : (t : ℕ) → (s : ℕ) × (s < P) × (supply σ s t ≡ least_supply σ P t)
  unfolding least_supply
  least_is_met t = least_met (λ s. supply σ s t) P per.some

  -- it is the number that every start has at least and some start has
  pub least_from_lem : (t p : ℕ) → ((s : ℕ) → p ≤ supply σ s t) → p ≤ least_supply σ P t
  least_from_lem t p h = let m = least_is_met t in omega (arith, m.2, h m.0)

  pub least_unique : (t p s : ℕ) → ((r : ℕ) → p ≤ supply σ r t) → supply σ s t ≡ p → least_supply σ P t ≡ p
  least_unique t p s h e = omega (arith, least_from_lem t p h, least_over_all_starts s t)

  pub least_none : least_supply σ P 0 ≡ 0
  unfolding supply
  least_none = omega (arith, least_over_all_starts 0 0)

  -- a frame more gives exactly A more
  pub least_next_frame : (t : ℕ) → least_supply σ P (t + P) ≡ least_supply σ P t + per_frame σ P
  least_next_frame t =
      let m = least_is_met t in
      least_unique (t + P) (least_supply σ P t + per_frame σ P) m.0
      (λ s. omega (arith, supply_split σ s t P, supply_frame (s + t), least_over_all_starts s t))
      (omega (arith, supply_split σ m.0 t P, supply_frame (m.0 + t), m.2))

  pub least_frames : (q t : ℕ) → least_supply σ P (t + q * P) ≡ least_supply σ P t + q * per_frame σ P
  least_frames zero t = let e : t + 0 * P ≡ t = omega arith in omega (arith, ap (least_supply σ P) e)
  least_frames (suc q) t =
      let e : t + suc q * P ≡ t + q * P + P = omega arith in
      omega (arith, ap (least_supply σ P) e, least_next_frame (t + q * P), least_frames q t)

  -- a longer stretch has no less
  pub least_up : (t u : ℕ) → t ≤ u → least_supply σ P t ≤ least_supply σ P u
  least_up t u h = least_from_lem u (least_supply σ P t) (λ s. le_trans (least_over_all_starts s t) (supply_up σ s t u h))

  -- one tick more gives at most one more
  pub least_up_one : (t : ℕ) → least_supply σ P (suc t) ≤ least_supply σ P t + 1
  unfolding supply
  least_up_one t =
      let m = least_is_met t in omega (arith, m.2, least_over_all_starts m.0 (suc t), bit_le (σ (m.0 + t)))

  -- and so on
  pub least_up_by : (t n : ℕ) → least_supply σ P (t + n) ≤ least_supply σ P t + n
  least_up_by t zero = omega (arith, ap (least_supply σ P) (add-zero t))
  least_up_by t (suc n) = omega (arith, ap (least_supply σ P) (add-suc t n), least_up_one (t + n), least_up_by t n)

  -- two stretches together have no less than the two alone
  pub least_superadditive : (a b : ℕ) → least_supply σ P a + least_supply σ P b ≤ least_supply σ P (a + b)
  least_superadditive a b =
      least_from_lem (a + b) (least_supply σ P a + least_supply σ P b)
      (λ s. omega (arith, supply_split σ s a b, least_over_all_starts s a, least_over_all_starts (s + a) b))

  -- over whole frames the least supply adds up
  pub least_cycle : (H : ℕ) → P ∣ H → (t : ℕ) → least_supply σ P (t + H) ≡ least_supply σ P t + least_supply σ P H
  least_cycle H d t =
      let e : H / P * P ≡ H = div-mul_cancel P d in
      let a : least_supply σ P (t + H) ≡ least_supply σ P t + H / P * per_frame σ P = ap (λ (k : ℕ). least_supply σ P (t + k)) (sym e) ∙ least_frames (H / P) t in
      let b : least_supply σ P H ≡ least_supply σ P 0 + H / P * per_frame σ P = ap (least_supply σ P) (sym (zero-add (H / P * P) ∙ e)) ∙ least_frames (H / P) 0 in
      omega (arith, a, b, least_none)

  -- ---- the least start

  holds : ℕ → ℕ → Bool
  holds t s = eqb (supply σ s t) (least_supply σ P t)

  -- it is below P, holds the least supply, and no lower start does
  pub least_start_lem : (t : ℕ) → (least_start σ P t < P) × (supply σ (least_start σ P t) t ≡ least_supply σ P t)
      × ((r : ℕ) → r < least_start σ P t → least_supply σ P t < supply σ r t)
  unfolding least_start holds
  least_start_lem t = go (first (holds t) P) refl
    where
      go : (o : Option ℕ) → first (holds t) P ≡ o → (or_zero o < P) × (supply σ (or_zero o) t ≡ least_supply σ P t)
          × ((r : ℕ) → r < or_zero o → least_supply σ P t < supply σ r t)
      go none e =
          let m = least_is_met t in
          absurd (eqb-false (supply σ m.0 t) (least_supply σ P t) (first_none (holds t) P e m.0 m.1) m.2)
      go (some s) e =
          let f = first_some (holds t) P s e in (
            f.0,
            eqb-true (supply σ s t) (least_supply σ P t) f.1,
            λ r l. let u = eqb-false (supply σ r t) (least_supply σ P t) (f.2 r l) in omega (arith, least_over_all_starts r t, u),
          )

  -- a start that holds it, with none lower, is the least start
  pub least_start_unique : (t s : ℕ) → supply σ s t ≡ least_supply σ P t → ((r : ℕ) → r < s → least_supply σ P t < supply σ r t) → s ≡ least_start σ P t
  least_start_unique t s e h =
      let f = least_start_lem t in
      le_antisymm (no_less s (least_start σ P t) (λ l. omega (arith, f.1, h (least_start σ P t) l)))
      (no_less (least_start σ P t) s (λ l. omega (arith, e, f.2 s l)))
    where
      no_less : (a b : ℕ) → (b < a → ⊥) → a ≤ b
      no_less a b q = omega arith

  -- whole frames give every start as much: the least start of a length is that of the rest
  pub least_start_rest : (t : ℕ) → least_start σ P (t % P) ≡ least_start σ P t
  least_start_rest t =
      let f = least_start_lem (t % P) in
      least_start_unique t (least_start σ P (t % P)) (omega (arith, f.1, whole (least_start σ P (t % P)), all))
      (λ r l. omega (arith, f.2 r l, whole r, all))
    where
      whole : (s : ℕ) → supply σ s t ≡ supply σ s (t % P) + t / P * per_frame σ P
      whole s = ap (supply σ s) (sym (mod-add-div' t P)) ∙ supply_frames (t / P) s (t % P)

      all : least_supply σ P t ≡ least_supply σ P (t % P) + t / P * per_frame σ P
      all = ap (least_supply σ P) (sym (mod-add-div' t P)) ∙ least_frames (t / P) (t % P)
