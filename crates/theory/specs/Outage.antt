-- The longest outage: no run of unsupplied ticks anywhere is longer; it is the greatest length whose least supply is 0, and the start of the first
-- critical window
use Rattle.std.specs.Prelude.{◌≡◌, Bool, true, ◌↔◌, List, [], ◌∷◌}
use Rattle.std.proofs.Math.Path.{refl, sym, ap}
use Rattle.std.proofs.Common.{◌∙◌, true≢false, mod-lt}
use Rattle.std.proofs.Math.Logic.{inl, inr}
use Prim.Native.Nat.{ℕ, zero, suc, ◌+◌, ◌-◌, ◌%◌, ◌≤◌, ◌<◌}
use native.Mathlib.Omega.{arith}
use Rattle.std.proofs.Math.Nat.{zero-div, dvd_refl, le_of_dvd}
use Rattle.std.proofs.Math.Numerals.{add-one}
use Rattle.std.proofs.Math.Decide.{dec_lt}
use borrow.Author.Tests.{lt-ltb, le-ltb, le-leb}
use Rattle.scope.specs.Numbers.{bit, first_by, pieces_from, pieces, bad_count}
use Rattle.scope.specs.Limits.{most_frame, most_of_task, most_cycle, most_length}
use Rattle.scope.specs.Ticks.{Periodic, supply, least_supply, least_start}
use Rattle.scope.specs.Windows.{Board, windows_of, supplied_by}
use Rattle.scope.specs.Partition.{rises, critical, outage_from, outage}
use Rattle.scope.specs.Tasks.{Task, task, task_legal, bad_task, task_demand, demand}
use Rattle.scope.specs.Cycle.{lcm, cycle}
use Rattle.scope.specs.Verdict.{Verdict.miss, verdict}
use Rattle.scope.specs.Answers.{Fault.fine, Answer.given, table_fault, length_fault, group_fault, task_list_fault, task_fault, cycle_fault}
use Rattle.scope.specs.Answers.{least_supply_answer, critical_of, outage_answer, verdict_answer}
use Rattle.scope.specs.Demands.{Silent}
use Rattle.theory.specs.Numbers.{bool_cases, greatest_ge, greatest_met}
use Rattle.theory.specs.Ticks.{supply_first, supply_up, supply_mod, supply_frame, least_over_all_starts, least_is_met, least_up, least_start_lem}
use Rattle.theory.specs.MaximalRuns.{maximal_first}
use Rattle.theory.specs.Cycle.{lcm_least}
use Rattle.theory.specs.Answers.{frame_legal, table_framed, unless_given}
use Rattle.theory.specs.Exact.{exact_miss}
use Rattle.theory.specs.Windows.{supplied_periodic}

-- ---- unsupplied ticks, and the supply of that length

module _ (σ : ℕ → Bool) where
  silent_supply : (s n : ℕ) → Silent σ s n → supply σ s n ≡ 0
  unfolding supply
  silent_supply s zero h = refl
  silent_supply s (suc n) h = omega (arith, silent_supply s n (λ k l. h k (omega arith)), ap bit (h n (omega arith)))

  supply_silent : (s n : ℕ) → supply σ s n ≡ 0 → Silent σ s n
  unfolding supply
  supply_silent s n e k l =
      elim (bool_cases (σ (s + k))) [
        | inl on ↦ absurd (omega (arith, supply_up σ s (suc k) n (omega arith), ap bit on))
        | inr off ↦ off
      ]

  -- the run that starts at s is unsupplied
  run_supply : (s n : ℕ) → supply σ s (outage_from σ s n) ≡ 0
  unfolding supply outage_from
  run_supply s zero = refl
  run_supply s (suc n) =
      elim (bool_cases (σ s)) [
        | inl on ↦ rw on
        | inr off ↦
            let m : ℕ = outage_from σ (s + 1) n in
            rw (off, add-one m) (omega (arith, supply_first σ s m, ap bit off, run_supply (s + 1) n, ap (λ (k : ℕ). supply σ k m) (add-one s)))
      ]

  -- and has all unsupplied ticks from s on, as far as it is looked at
  run_longest : (s n m : ℕ) → m ≤ n → supply σ s m ≡ 0 → m ≤ outage_from σ s n
  unfolding outage_from
  run_longest s n zero h e = omega arith
  run_longest s zero (suc m) h e = absurd (omega arith)
  run_longest s (suc n) (suc m) h e =
      elim (bool_cases (σ s)) [
        | inl on ↦ absurd (omega (arith, supply_first σ s m, ap bit on))
        | inr off ↦
            let rest : supply σ (s + 1) m ≡ 0 = rw (add-one s) (omega (arith, supply_first σ s m)) in
            rw off (omega (arith, run_longest (s + 1) n m (omega arith) rest))
      ]

-- ---- over any pattern that repeats with P

module _ (σ : ℕ → Bool) (P : ℕ) (per : Periodic σ P) where
  -- there are so many unsupplied ticks in a row
  outage_met : (s : ℕ) × (s < P) × (supply σ s (outage σ P) ≡ 0)
  unfolding outage
  outage_met =
      let m = greatest_met (λ s. outage_from σ s P) P per.some in
      (m.0, m.1, ap (supply σ m.0) (sym m.2) ∙ run_supply σ m.0 P)

  pub outage_there : (s : ℕ) × (s < P) × Silent σ s (outage σ P)
  outage_there = let m = outage_met in (m.0, m.1, supply_silent σ m.0 (outage σ P) m.2)

  -- up to a frame's length no run anywhere is longer
  outage_most : (s n : ℕ) → n ≤ P → supply σ s n ≡ 0 → n ≤ outage σ P
  unfolding outage
  outage_most s n h e =
      omega (
        arith,
        run_longest σ (s % P) P n h (supply_mod σ P per s n ∙ e),
        greatest_ge (λ r. outage_from σ r P) P (s % P) (mod-lt s per.some),
      )

  -- 0 exactly if every tick is supplied
  pub outage_none : (outage σ P ≡ 0) ↔ ((k : ℕ) → σ k ≡ true)
  outage_none = (
    λ e k. elim (bool_cases (σ k)) [
      | inl on ↦ on
      | inr off ↦
          let alone : Silent σ k 1 = λ j l. let z : k + j ≡ k = omega arith in ap σ z ∙ off in
          absurd (omega (arith, outage_most k 1 per.some (silent_supply σ k 1 alone)))
    ],
    λ on. elim (dec_lt 0 (outage σ P)) [
      | yes l ↦ absurd (true≢false (sym (on (outage_there.0 + 0)) ∙ outage_there.2 0 l))
      | no l ↦ omega arith
    ],
  )

  -- the least supply of that length is 0
  pub outage_least : least_supply σ P (outage σ P) ≡ 0
  outage_least = let m = outage_met in omega (arith, m.2, least_over_all_starts σ P per m.0 (outage σ P))

  -- where any tick at all is supplied
  module _ (a : ℕ) (on : σ a ≡ true) where
    outage_short : (s n : ℕ) → supply σ s n ≡ 0 → n < P
    outage_short s n e =
        elim (dec_lt n P) [
          | yes l ↦ l
          | no l ↦
              let one = supply_first σ a (P - 1) in
              let whole : suc (P - 1) ≡ P = omega (arith, per.some) in
              absurd (omega (
                arith,
                one,
                ap bit on,
                ap (supply σ a) whole,
                supply_frame σ P per a,
                supply_frame σ P per s,
                supply_up σ s P n (omega arith),
              ))
        ]

    -- no run of unsupplied ticks, in whatever frame and however long, is longer
    pub outage_longest : (s n : ℕ) → Silent σ s n → n ≤ outage σ P
    outage_longest s n h =
        let e = silent_supply σ s n h in
        outage_most s n (omega (arith, outage_short s n e)) e

    pub outage_below : outage σ P < P
    outage_below = let m = outage_met in outage_short m.0 (outage σ P) m.2

    -- it is the greatest length whose least supply is 0
    pub outage_greatest : (n : ℕ) → least_supply σ P n ≡ 0 → n ≤ outage σ P
    outage_greatest n e = let m = least_is_met σ P per n in outage_longest m.0 n (supply_silent σ m.0 n (m.2 ∙ e))

    pub outage_more : 0 < least_supply σ P (outage σ P + 1)
    outage_more =
        elim (dec_lt 0 (least_supply σ P (outage σ P + 1))) [
          | yes l ↦ l
          | no l ↦ absurd (omega (arith, outage_greatest (outage σ P + 1) (omega arith)))
        ]

    -- so the least supply first rises there, and the first critical window starts there
    pub outage_first : (rest : List ℕ) × (critical σ P ≡ outage σ P ∷ rest)
    unfolding critical rises
    outage_first =
        maximal_first (rises σ P) P (outage σ P) outage_below
        (lt-ltb (least_supply σ P (outage σ P)) (least_supply σ P (outage σ P + 1)) (omega (arith, outage_least, outage_more)))
        (λ j l. le-ltb (least_supply σ P j) (least_supply σ P (j + 1)) (omega (arith, outage_least, least_up σ P per (j + 1) (outage σ P) (omega arith))))

-- ---- the entry

module _ (b : Board) (ws : List ℕ) (n : ℕ) (answered : outage_answer b ws ≡ given n) where
  abbrev P : ℕ
  P = b.frame

  abbrev τ : ℕ → Bool
  τ = supplied_by b ws

  fine_table : table_fault b ws ≡ fine
  unfolding outage_answer
  fine_table = (unless_given (table_fault b ws) (outage τ P) n answered).0

  is : outage τ P ≡ n
  unfolding outage_answer
  is = (unless_given (table_fault b ws) (outage τ P) n answered).1

  frame : (0 < P) × (P ≤ most_frame)
  frame = frame_legal b (table_framed b ws fine_table)

  per : Periodic τ P
  per = supplied_periodic b (windows_of ws) frame.0

  -- the least supply of a length of at most a frame is answered
  least_given : (t : ℕ) → t ≤ P → least_supply_answer b ws t ≡ given (least_supply τ P t)
  unfolding least_supply_answer length_fault
  least_given t h = rw (fine_table, le-ltb most_length t (omega (arith, frame.1)))

  -- so many unsupplied ticks in a row there are
  pub outage_run : (s : ℕ) × (s < P) × Silent τ s n
  outage_run = rw (← is) (outage_there τ P per)

  -- it is 0 exactly if every tick is supplied
  pub outage_zero : (n ≡ 0) ↔ ((k : ℕ) → τ k ≡ true)
  outage_zero = let z = outage_none τ P per in (λ e. z.0 (is ∙ e), λ h. sym is ∙ z.1 h)

  -- where any tick is supplied
  module _ (k : ℕ) (on : τ k ≡ true) where
    -- (i) no run anywhere, in any frame, has more
    pub outage_no_longer : (s m : ℕ) → Silent τ s m → m ≤ n
    outage_no_longer s m h = omega (arith, is, outage_longest τ P per k on s m h)

    -- (ii) its least supply is 0 and that of one tick more is not; and no greater length, however long, has least supply 0
    pub outage_supply : (least_supply_answer b ws n ≡ given 0) × (p : ℕ) × (least_supply_answer b ws (n + 1) ≡ given p) × (0 < p)
    outage_supply =
        let below = outage_below τ P per k on in (
          least_given n (omega (arith, is)) ∙ ap given (rw is at (outage_least τ P per)),
          least_supply τ P (n + 1),
          least_given (n + 1) (omega (arith, is)),
          rw is at (outage_more τ P per k on),
        )

    pub outage_greatest_length : (t : ℕ) → least_supply τ P t ≡ 0 → t ≤ n
    outage_greatest_length t e = omega (arith, is, outage_greatest τ P per k on t e)

    -- (iii) it is the start of the first critical window
    pub outage_critical : (rest : List ℕ) × (critical_of b ws ≡ n ∷ rest)
    outage_critical = let c = outage_first τ P per k on in (c.0, rw is at c.1)

    -- ---- where it starts is found by asking for one tick of work each frame, due in n

    abbrev one : Task
    one = task 1 P n

    module _ (pos : 0 < n) where
      short : n < P
      short = omega (arith, is, outage_below τ P per k on)

      one_legal : task_legal one ≡ true
      unfolding task_legal
      one_legal =
          let f = frame.1 in
          let l = short in
          rw (le-leb 1 P (omega arith), le-leb P most_of_task (omega arith), le-leb 1 n pos, le-leb n most_of_task (omega arith), le-leb n P (omega arith))

      one_group : group_fault (1 ∷ P ∷ n ∷ []) ≡ fine
      unfolding group_fault task_list_fault bad_count task_fault bad_task first_by pieces_from pieces
      one_group = rw one_legal

      one_cycle : cycle_fault b (one ∷ []) ≡ fine
      unfolding cycle_fault cycle
      one_cycle =
          let l : lcm P P ≤ P = le_of_dvd frame.0 (lcm_least P P P frame.0 (dvd_refl P) (dvd_refl P)) in
          rw (le-ltb most_cycle (lcm P P) (omega (arith, frame.1)))

      one_demand : (t : ℕ) → t < n → demand (one ∷ []) t ≡ 0
      unfolding demand task_demand
      one_demand t l = rw (lt-ltb t n l)

      one_due : demand (one ∷ []) n ≡ 1
      unfolding demand task_demand
      one_due =
          let z : n - n ≡ 0 = omega arith in
          rw (le-ltb n n (omega arith), z, zero-div P) (omega arith)

      -- the miss shows the least of all starts of n unsupplied ticks
      pub outage_asked : (s : ℕ) × (verdict_answer b ws (1 ∷ P ∷ n ∷ []) ≡ given (miss n s 1 0)) × Silent τ s n × ((r : ℕ) → r < s → Silent τ r n → ⊥)
      unfolding verdict_answer pieces_from pieces
      outage_asked =
          let H : ℕ = cycle P (one ∷ []) in
          let s = least_start_lem τ P per n in
          let nothing : least_supply τ P n ≡ 0 = rw is at (outage_least τ P per) in
          let v = (exact_miss b ws (1 ∷ P ∷ n ∷ []) (verdict τ P (one ∷ []) H) asked n (least_start τ P n) 1 0).1
          (record {
            demanded = sym one_due;
            supplied = sym nothing;
            above = omega arith;
            least_length = λ u l. omega (arith, one_demand u l);
            holds = s.1 ∙ nothing;
            least_start = λ r l. omega (arith, s.2 r l, nothing);
          }) in (
            least_start τ P n,
            asked ∙ ap given v,
            supply_silent τ (least_start τ P n) n (s.1 ∙ nothing),
            λ r l h. omega (arith, s.2 r l, silent_supply τ r n h),
          )
        where
          asked : verdict_answer b ws (1 ∷ P ∷ n ∷ []) ≡ given (verdict τ P (one ∷ []) (cycle P (one ∷ [])))
          asked = rw (fine_table, one_group, one_cycle)
