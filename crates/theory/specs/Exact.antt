-- Demand 2: the verdict is exact. The only premise is that the entry gave a verdict on the lists of numbers lent to it
use Rattle.std.specs.Prelude.{◌≡◌, Bool, false, ◌↔◌, List}
use Rattle.std.proofs.Math.Path.{refl, ap}
use Rattle.std.proofs.Common.{sym, ◌∙◌}
use Rattle.std.proofs.Math.Option.{Option, none, some}
use Prim.Native.Nat.{ℕ, suc, ◌≤◌, ◌<◌}
use native.Mathlib.Omega.{arith}
use Rattle.std.proofs.Math.Decide.{dec_lt}
use borrow.Author.Tests.{ltb-true, ltb-false, lt-ltb, le-ltb}
use Rattle.scope.specs.Numbers.{first}
use Rattle.scope.specs.Ticks.{Periodic, least_supply, least_start}
use Rattle.scope.specs.Windows.{Board, windows_of, supplied_by}
use Rattle.scope.specs.Tasks.{Task, tasks_of, demand}
use Rattle.scope.specs.Cycle.{cycle}
use Rattle.scope.specs.Verdict.{Verdict, Verdict.meets, Verdict.miss, violates, shown, verdict}
use Rattle.scope.specs.Answers.{Answer.given, verdict_answer}
use Rattle.scope.specs.Demands.{LeastMiss}
use Rattle.theory.specs.Numbers.{first_none, none_first, first_some, some_first}
use Rattle.theory.specs.Ticks.{least_start_lem, least_start_unique}
use Rattle.theory.specs.Windows.{supplied_periodic}
use Rattle.theory.specs.Cycle.{cycle_pos, cycle_frame, cycle_periods}
use Rattle.theory.specs.Horizon.{horizon}
use Rattle.theory.specs.Answers.{Judged, judged, table_frame}

-- ---- over any pattern σ that repeats with P, and any cycle H for which the horizon holds

pub meets_not_miss : {h t s d p : ℕ} → meets h ≡ miss t s d p → ⊥
meets_not_miss e = let z : ◌≡◌ {A = ℕ} 0 1 = cc in omega arith

module _ (σ : ℕ → Bool) (P : ℕ) (ts : List Task) where
  violates_not : (t : ℕ) → violates σ P ts t ≡ false → demand ts t ≤ least_supply σ P t
  unfolding violates
  violates_not t e = ltb-false (least_supply σ P t) (demand ts t) e

  not_violates : (t : ℕ) → demand ts t ≤ least_supply σ P t → violates σ P ts t ≡ false
  unfolding violates
  not_violates t h = le-ltb (least_supply σ P t) (demand ts t) h

  module _ (per : Periodic σ P) (H : ℕ)
      (reach : (t : ℕ) → least_supply σ P t < demand ts t → (a : ℕ) × (1 ≤ a) × (a ≤ H) × (least_supply σ P a < demand ts a)) where
    meets_all : (h : ℕ) → verdict σ P ts H ≡ meets h → (h ≡ H) × ((t : ℕ) → demand ts t ≤ least_supply σ P t)
    unfolding verdict
    meets_all h e = go (first (violates σ P ts) (suc H)) refl e
      where
        go : (o : Option ℕ) → first (violates σ P ts) (suc H) ≡ o → shown σ P ts H o ≡ meets h →
            (h ≡ H) × ((t : ℕ) → demand ts t ≤ least_supply σ P t)
        go none f q = (
          cc,
          λ t. elim (dec_lt (least_supply σ P t) (demand ts t)) [
            | yes l ↦
                let a = reach t l in
                absurd (omega (arith, violates_not a.0 (first_none (violates σ P ts) (suc H) f a.0 (omega (arith, a.2))), a.3))
            | no l ↦ omega arith
          ],
        )
        go (some t) f q = absurd (meets_not_miss (sym q))

    all_meets : ((t : ℕ) → demand ts t ≤ least_supply σ P t) → verdict σ P ts H ≡ meets H
    unfolding verdict
    all_meets h = ap (shown σ P ts H) (none_first (violates σ P ts) (suc H) (λ t l. not_violates t (h t)))

    miss_least : (t s d p : ℕ) → verdict σ P ts H ≡ miss t s d p → LeastMiss σ P ts t s d p
    unfolding verdict violates
    miss_least t s d p e = go (first (violates σ P ts) (suc H)) refl e
      where
        go : (o : Option ℕ) → first (violates σ P ts) (suc H) ≡ o → shown σ P ts H o ≡ miss t s d p → LeastMiss σ P ts t s d p
        go none f q = absurd (meets_not_miss q)
        go (some a) f q =
            let w = first_some (violates σ P ts) (suc H) a f in
            let m = least_start_lem σ P per a in
            let e₁ : a ≡ t = cc in
            let e₂ : least_start σ P a ≡ s = cc in
            let e₃ : demand ts a ≡ d = cc in
            let e₄ : least_supply σ P a ≡ p = cc in
            record {
              demanded = rw (← e₁) (sym e₃);
              supplied = rw (← e₁) (sym e₄);
              above = omega (arith, ltb-true (least_supply σ P a) (demand ts a) w.1);
              least_length = λ u l. violates_not u (w.2 u (omega arith));
              holds = rw (← e₁, ← e₂, ← e₄) m.1;
              least_start = λ r l. rw (← e₁, ← e₄) (m.2 r (omega arith));
            }

    least_miss : (t s d p : ℕ) → LeastMiss σ P ts t s d p → verdict σ P ts H ≡ miss t s d p
    unfolding verdict violates
    least_miss t s d p m =
        let v : least_supply σ P t < demand ts t = omega (arith, m.demanded, m.supplied, m.above) in
        let a = reach t v in
        let l : t < suc H =
        elim (dec_lt H t) [ yes h ↦ absurd (omega (arith, m.least_length a.0 (omega (arith, a.2)), a.3)) | no h ↦ omega arith ] in
        let f = some_first (violates σ P ts) (suc H) t l (lt-ltb (least_supply σ P t) (demand ts t) v) (λ u h. not_violates u (m.least_length u h)) in
        let e : s ≡ least_start σ P t =
        least_start_unique σ P per t s (m.holds ∙ m.supplied) (λ r h. rw (← m.supplied) (m.least_start r h)) in
        ap (shown σ P ts H) f ∙ rw (← e, ← m.demanded, ← m.supplied)

-- ---- the entry

module _ (b : Board) (ws ts : List ℕ) (v : Verdict) (answered : verdict_answer b ws ts ≡ given v) where
  abbrev σ : ℕ → Bool
  σ = supplied_by b ws

  facts : Judged b ws ts v
  facts = judged b ws ts v answered

  per : Periodic σ b.frame
  per = supplied_periodic b (windows_of ws) (table_frame b ws facts.table)

  abbrev H : ℕ
  H = cycle b.frame (tasks_of ts)

  -- a violating length exists at all only if one exists in 1 to H
  pub within_cycle : (t : ℕ) → least_supply σ b.frame t < demand (tasks_of ts) t →
      (a : ℕ) × (1 ≤ a) × (a ≤ H) × (least_supply σ b.frame a < demand (tasks_of ts) a)
  within_cycle =
      let g = facts.group in
      horizon σ b.frame per (tasks_of ts) g.rules H (cycle_pos b.frame (tasks_of ts) (table_frame b ws facts.table) g.rules)
      (cycle_frame b.frame (tasks_of ts)) (cycle_periods b.frame (tasks_of ts)) g.within

  -- "meets" with H exactly when H is the cycle and, for every length without limit, the demand is at most the least supply
  pub exact_meets : (h : ℕ) → (v ≡ meets h) ↔ ((h ≡ H) × ((t : ℕ) → demand (tasks_of ts) t ≤ least_supply σ b.frame t))
  exact_meets h = (
    λ e. meets_all σ b.frame (tasks_of ts) per H within_cycle h (facts.is ∙ e),
    λ w. sym facts.is ∙ all_meets σ b.frame (tasks_of ts) per H within_cycle w.1 ∙ ap meets (sym w.0),
  )

  -- a miss exactly when t is the least violating length, s the least of all starts that hold its least supply, d and p the two amounts
  pub exact_miss : (t s d p : ℕ) → (v ≡ miss t s d p) ↔ LeastMiss σ b.frame (tasks_of ts) t s d p
  exact_miss t s d p = (
    λ e. miss_least σ b.frame (tasks_of ts) per H within_cycle t s d p (facts.is ∙ e),
    λ m. sym facts.is ∙ least_miss σ b.frame (tasks_of ts) per H within_cycle t s d p m,
  )
