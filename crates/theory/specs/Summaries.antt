-- Document 02, request 6: a summary that is kept beside a table. Memory that begins with a table's summary answers as the table does, at every length; what
-- does not is refused by 14; and what is made for a table belongs to it
use Rattle.std.specs.Prelude.{◌≡◌, refl, Bool, not, ◌||◌, ℤ, ◌-ℤ◌}
use Rattle.std.proofs.Math.Path.{sym, ap, fun_ext}
use Rattle.std.proofs.Common.{◌∙◌, zero-add, mod-eq_of_lt}
use Rattle.std.proofs.Math.Bool.{true, false}
use mathlib.Core.List.{List, [], ◌∷◌, ◌++◌, map}
use Prim.Native.Nat.{ℕ, zero, suc, ◌+◌, ◌-◌, ◌*◌, ◌/◌, ◌%◌, ◌≤◌, ◌<◌, min}
use native.Mathlib.Omega.{arith}
use Rattle.std.proofs.Math.Nat.{mod-lt, mod-add-div'}
use Rattle.std.proofs.Math.Decide.{dec_lt}
use Rattle.std.proofs.Math.IntN.{pos}
use Rattle.std.proofs.Math.ListN.{length, get_or, take, drop, get_or-append}
use Rattle.std.proofs.lemmas.List.{length-map}
use Rattle.std.proofs.Math.Seq.{take-append_seam}
use borrow.Author.Tests.{le-leb, lt-leb, not-false}
use Rattle.scope.specs.Numbers.{bit, pieces_from, pieces, written}
use Rattle.scope.specs.Limits.{teams}
use Rattle.scope.specs.Ticks.{Periodic, supply, per_frame, least_supply}
use Rattle.scope.specs.Windows.{Board, framed, Window, window, windows_of, gives, covers, supplied, supplied_by}
use Rattle.scope.specs.Partition.{critical, maximal_runs, rises, edge, within}
use Rattle.scope.specs.Tasks.{Task, tasks_of, demand, margin}
use Rattle.scope.specs.Answers.{Fault, Fault.fine, Fault.fault, Answer, Answer.given, Answer.refused, fault_if, ◌or_else◌, unless, table_fault, group_fault, length_fault}
use Rattle.scope.specs.Answers.{room_fault, critical_of, least_supply_answer, margin_answer}
use Rattle.scope.specs.Shared.{own, shared_fault, unless_refused, asked_for, kept, least_supply_for, margin_for}
use Rattle.scope.specs.Summary.{summary_of, make_fault, make_answer, make_out, begins, summary_fault, windows_in, ticks_before, least_from, least_from_answer, margin_from}
use Rattle.scope.specs.Summary.{lengths_fault, margins_fault, margins_answer, margins_out, make_for, make_out_for, least_from_for, margins_for, margins_out_for}
use Rattle.theory.specs.Lists.{Rising, keep_rising, keep_most, rising_rest, rising_above}
use Rattle.theory.specs.Buffers.{begins_front, begins_at, written_begins}
use Rattle.theory.specs.Ticks.{least_frames}
use Rattle.theory.specs.Windows.{gives_in, gives_when, gives_before, gives_after, supplied_periodic}
use Rattle.theory.specs.Partition.{critical_even, critical_supply}
use Rattle.theory.specs.Answers.{fault_not_fine, fault_if_fine, or_else_fine, unless_given, unless_refused_lem, lengths_each, fine_room, table_frame}
use Rattle.theory.specs.Shared.{own_fine, asked_fine, asked_same, asked_given}
use Rattle.theory.specs.Shortest.{base_else, table_base, group_base, room_base, length_base, lengths_base, Never, base_never, shared_most}

-- ---- the ticks of windows before a tick, counted window by window, are the supply from tick 0 on

-- before the first number nothing is counted, and nothing is covered
ticks_none : (l : List ℕ) (r : ℕ) → ((i : ℕ) → i < length l → r ≤ get_or l i 0) → ticks_before (windows_of l) r ≡ 0
unfolding ticks_before pieces pieces_from
ticks_none [] r h = refl
ticks_none (s ∷ []) r h = refl
ticks_none (s ∷ e ∷ l) r h = rw (le-leb r s (h 0 (omega arith)))

covers_none : (l : List ℕ) (k : ℕ) → ((i : ℕ) → i < length l → k < get_or l i 0) → covers 0 (windows_of l) k ≡ false
unfolding covers pieces pieces_from
covers_none [] k h = refl
covers_none (s ∷ []) k h = refl
covers_none (s ∷ e ∷ l) k h = rw (gives_before 0 (window s e) k (omega (arith, h 0 (omega arith)))) (covers_none l k (λ i u. h (suc (suc i)) (omega arith)))

-- a window's ticks before r, one tick later, where none are lost
window_ticks : (s e r : ℕ) → s < e → min (suc r) e - s ≡ min r e - s + bit (gives 0 (window s e) r)
window_ticks s e r h =
    elim (dec_lt r s) [
      | yes u ↦ rw (gives_before 0 (window s e) r (omega (arith, u))) (omega arith)
      | no u ↦ elim (dec_lt r e) [
        | yes v ↦ rw (gives_in 0 (window s e) r (omega arith) v) (omega arith)
        | no v ↦ rw (gives_after 0 (window s e) r (omega arith)) (omega arith)
      ]
    ]

-- a tick that two tests do not share counts for one of them
bit_apart : (x y : Bool) → (x ≡ true → y ≡ false) → bit (x || y) ≡ bit x + bit y
bit_apart true y h = rw (h refl)
bit_apart false y h = omega arith

module _ (s e : ℕ) (l : List ℕ) (n : ℕ) (up : Rising (s ∷ e ∷ l) n) where
  ordered : s < e
  ordered = rising_above s (e ∷ l) n up 0 (omega arith)

  later : (i : ℕ) → i < length l → e < get_or l i 0
  later = rising_above e l n (rising_rest s (e ∷ l) n up)

  -- where the count ends early, the later windows have no such tick
  ticks_first : (r : ℕ) → ticks_before (windows_of (s ∷ e ∷ l)) r ≡ min r e - s + ticks_before (windows_of l) r
  unfolding ticks_before pieces pieces_from
  ticks_first r =
      elim (dec_lt s r) [
        | yes u ↦ rw (lt-leb r s u)
        | no u ↦ rw (le-leb r s (omega arith)) (omega (arith, ordered, ticks_none l r (λ i h. omega (arith, ordered, later i h))))
      ]

  covers_first : (k : ℕ) → bit (covers 0 (windows_of (s ∷ e ∷ l)) k) ≡ bit (gives 0 (window s e) k) + bit (covers 0 (windows_of l) k)
  unfolding covers pieces pieces_from
  covers_first k = bit_apart (gives 0 (window s e) k) (covers 0 (windows_of l) k) apart
    where
      apart : gives 0 (window s e) k ≡ true → covers 0 (windows_of l) k ≡ false
      apart g =
          covers_none l k (λ i h. omega (arith, later i h, gives_when 0 (window s e) k g))

no_windows : (r : ℕ) → ticks_before [] (suc r) ≡ ticks_before [] r + bit (covers 0 [] r)
unfolding ticks_before covers
no_windows r = refl

-- one tick later
ticks_step : (l : List ℕ) (n : ℕ) → Rising l n → (r : ℕ) →
    ticks_before (windows_of l) (suc r) ≡ ticks_before (windows_of l) r + bit (covers 0 (windows_of l) r)
unfolding pieces pieces_from
ticks_step [] n up r = no_windows r
ticks_step (s ∷ []) n up r = no_windows r
ticks_step (s ∷ e ∷ l) n up r =
    let rest = rising_rest e l n (rising_rest s (e ∷ l) n up) in
    omega (
      arith,
      ticks_first s e l n up (suc r),
      ticks_first s e l n up r,
      window_ticks s e r (ordered s e l n up),
      covers_first s e l n up r,
      ticks_step l n rest r,
    )

-- of any rising numbers: a number left over at the end makes no window
pub ticks_before_lem : (l : List ℕ) (n : ℕ) → Rising l n → (r : ℕ) → ticks_before (windows_of l) r ≡ supply (covers 0 (windows_of l)) 0 r
unfolding supply
ticks_before_lem l n up zero = ticks_none l 0 (λ i h. omega arith)
ticks_before_lem l n up (suc r) =
    omega (arith, ticks_step l n up r, ticks_before_lem l n up r, ap (λ (k : ℕ). bit (covers 0 (windows_of l) k)) (zero-add r))

-- ---- the least supply from a summary

-- patterns that agree below r
supply_below : (σ τ : ℕ → Bool) (r : ℕ) → ((k : ℕ) → k < r → σ k ≡ τ k) → supply σ 0 r ≡ supply τ 0 r
unfolding supply
supply_below σ τ zero h = refl
supply_below σ τ (suc r) h =
    omega (arith, supply_below σ τ r (λ k l. h k (omega arith)), ap bit (h (0 + r) (omega arith)))

module _ (σ : ℕ → Bool) (P : ℕ) where
  pub critical_rising : Rising (critical σ P) (P + 1)
  unfolding critical maximal_runs
  critical_rising = keep_rising (edge (within (rises σ P) P)) (P + 1)

  -- within a frame the ticks of the critical windows before tick r are the least supply of r
  pub critical_ticks : Periodic σ P → (r : ℕ) → r ≤ P → ticks_before (windows_of (critical σ P)) r ≡ least_supply σ P r
  unfolding supplied
  critical_ticks per r h =
      let l = critical σ P in
      ticks_before_lem l (P + 1) critical_rising r
      ∙ supply_below (covers 0 (windows_of l)) (supplied_by (framed P) l) r
      (λ k u. let in_frame : k < P = omega arith in ap (covers 0 (windows_of l)) (sym (mod-eq_of_lt in_frame)))
      ∙ critical_supply σ P per r

module _ (b : Board) (ws s : List ℕ) where
  -- what stands in memory that begins with a summary: A at its front, and the critical windows
  pub summary_a : begins (summary_of b ws) s ≡ true → get_or s 0 0 ≡ per_frame (supplied_by b ws) b.frame
  unfolding summary_of
  summary_a e = begins_at (summary_of b ws) s e 0 (omega arith)

  pub summary_windows : begins (summary_of b ws) s ≡ true → windows_in s ≡ windows_of (critical_of b ws)
  unfolding summary_of
  summary_windows e =
      let l = critical_of b ws in
      let rest = drop (length (summary_of b ws)) s in
      let even = critical_even (supplied_by b ws) b.frame in
      let whole : 2 * (length l / 2) ≡ length l = omega arith in
      ap windows_in (begins_front (summary_of b ws) s e)
      ∙ ap windows_of (ap (λ (n : ℕ). take n (l ++ rest)) whole ∙ take-append_seam l rest)

  -- the least supply from a summary is the table's, of every length: no limit on t, and only that there is a frame
  pub least_from_exact : 0 < b.frame → begins (summary_of b ws) s ≡ true → (t : ℕ) →
      least_from b.frame s t ≡ least_supply (supplied_by b ws) b.frame t
  unfolding least_from
  least_from_exact some e t =
      let σ = supplied_by b ws in
      let P = b.frame in
      let per : Periodic σ P = supplied_periodic b (windows_of ws) some in
      let r : ℕ = t % P in
      let short : r < P = mod-lt t some in
      let rest : ticks_before (windows_in s) r ≡ least_supply σ P r =
      ap (λ (vs : List Window). ticks_before vs r) (summary_windows e) ∙ critical_ticks σ P per r (omega arith) in
      let whole : t / P * get_or s 0 0 ≡ t / P * per_frame σ P = ap (λ (a : ℕ). t / P * a) (summary_a e) in
      omega (arith, rest, whole, ap (least_supply σ P) (mod-add-div' t P), least_frames σ P per (t / P) r)

  -- and so are the margins
  pub margin_from_exact : 0 < b.frame → begins (summary_of b ws) s ≡ true → (ts : List Task) (t : ℕ) →
      margin_from b.frame s ts t ≡ margin (supplied_by b ws) b.frame ts t
  unfolding margin_from margin
  margin_from_exact some e ts t = ap (λ (x : ℕ). pos x -ℤ pos (demand ts t)) (least_from_exact some e t)

-- room for as many numbers as the frame has ticks, and four more, is always enough
pub summary_most : (b : Board) (ws : List ℕ) → length (summary_of b ws) ≤ b.frame + 4
unfolding summary_of critical maximal_runs
summary_most b ws = omega (arith, keep_most (edge (within (rises (supplied_by b ws) b.frame) b.frame)) (b.frame + 1))

-- ---- a summary that belongs, and one that does not

module _ (b : Board) (ws s : List ℕ) where
  pub fine_begins : summary_fault b ws s ≡ fine → begins (summary_of b ws) s ≡ true
  unfolding summary_fault
  fine_begins e = not-false _ (fault_if_fine _ 14 0 e)

  pub begins_fine : begins (summary_of b ws) s ≡ true → summary_fault b ws s ≡ fine
  unfolding summary_fault
  begins_fine e = rw e

  pub begins_not : begins (summary_of b ws) s ≡ false → summary_fault b ws s ≡ fault 14 0
  unfolding summary_fault
  begins_not e = rw e

  -- only what does not begin with the summary is at fault, and at place 0
  summary_fourteen : (p : ℕ) → summary_fault b ws s ≡ fault 14 p → (begins (summary_of b ws) s ≡ false) × (p ≡ 0)
  unfolding summary_fault
  summary_fourteen p = go (begins (summary_of b ws) s)
    where
      go : (t : Bool) → fault_if (not t) 14 0 ≡ fault 14 p → (t ≡ false) × (p ≡ 0)
      go true e = absurd (fault_not_fine (sym e))
      go false e = (refl, cc)

-- ---- the least supply that an owner is answered from a summary

-- with a summary that belongs, pairs are answered as without it, refusals too
least_from_agrees : (b : Board) (ws s : List ℕ) (t : ℕ) → summary_fault b ws s ≡ fine → least_from_answer b ws s t ≡ least_supply_answer b ws t
unfolding least_from_answer least_supply_answer
least_from_agrees b ws s t e = rw e (go (table_fault b ws) refl)
  where
    go : (f : Fault) → table_fault b ws ≡ f →
        unless (f or_else length_fault t) (least_from b.frame s t) ≡ unless (f or_else length_fault t) (least_supply (supplied_by b ws) b.frame t)
    go (fault n p) z = refl
    go fine z = ap (unless (length_fault t)) (least_from_exact b ws s (table_frame b ws z) (fine_begins b ws s e) t)

-- 14 among faults that are never 14
else_later : (m p : ℕ) (f g : Fault) → Never m f → (f or_else g) ≡ fault m p → (f ≡ fine) × (g ≡ fault m p)
else_later m p fine g never e = (refl, e)
else_later m p (fault n q) g never e = absurd (never p e)

else_here : (m p : ℕ) (f g : Fault) → Never m g → (f or_else g) ≡ fault m p → f ≡ fault m p
else_here m p fine g never e = absurd (never p e)
else_here m p (fault n q) g never e = e

-- what is refused by 14 is refused so by the entry on the owner's windows, in a list of windows without a fault
asked_fourteen : {A : Type 0} (b : Board) (ws : List ℕ) (entry : List ℕ → Answer A) (p : ℕ) → asked_for teams b ws refused entry ≡ refused 14 p →
    (shared_fault teams b ws ≡ fine) × (entry (own b ws) ≡ refused 14 p)
unfolding asked_for
asked_fourteen b ws entry p = go (shared_fault teams b ws) refl
  where
    go : (f : Fault) → shared_fault teams b ws ≡ f → unless_refused f refused (entry (own b ws)) ≡ refused 14 p → (f ≡ fine) × (entry (own b ws) ≡ refused 14 p)
    go fine z e = (refl, e)
    go (fault n q) z e = let x : n ≡ 14 = cc in absurd (omega (arith, shared_most teams b ws n q z))

module _ (b : Board) (ws s : List ℕ) (t : ℕ) where
  -- with a summary that belongs, every length is answered as without it, refusals too
  pub summary_agrees : summary_fault b (own b ws) s ≡ fine → least_from_for b ws s t ≡ least_supply_for b ws t
  unfolding least_from_for least_supply_for
  summary_agrees e =
      asked_same teams b ws refused (λ l. least_from_answer b l s t) (λ l. least_supply_answer b l t) (least_from_agrees b (own b ws) s t e)

  -- so whatever is answered from any summary at all is the least supply
  pub summary_answers : (v : ℕ) → least_from_for b ws s t ≡ given v → least_supply_for b ws t ≡ given v
  unfolding least_from_for least_from_answer
  summary_answers v e =
      let a = asked_given teams b ws (λ l. least_from_answer b l s t) v e in
      let f : Fault = summary_fault b (own b ws) s or_else length_fault t in
      let u = unless_given (table_fault b (own b ws) or_else f) _ v a.1 in
      let later = (or_else_fine (table_fault b (own b ws)) f u.0).1 in
      sym (summary_agrees (or_else_fine (summary_fault b (own b ws) s) (length_fault t) later).0) ∙ e

  -- 14 exactly when: the list of windows has no fault, and the summary is not its owner's
  pub not_belonging : shared_fault teams b ws ≡ fine → begins (summary_of b (own b ws)) s ≡ false → least_from_for b ws s t ≡ refused 14 0
  unfolding least_from_for least_from_answer
  not_belonging e f =
      asked_fine teams b ws refused (λ l. least_from_answer b l s t) e ∙ rw (own_fine teams b ws e, begins_not b (own b ws) s f)

  pub fourteen : (p : ℕ) → least_from_for b ws s t ≡ refused 14 p → (begins (summary_of b (own b ws)) s ≡ false) × (shared_fault teams b ws ≡ fine) × (p ≡ 0)
  unfolding least_from_for least_from_answer
  fourteen p e =
      let a = asked_fourteen b ws (λ l. least_from_answer b l s t) p e in
      let table = table_fault b (own b ws) in
      let belongs = summary_fault b (own b ws) s in
      let f = unless_refused_lem (table or_else belongs or_else length_fault t) _ 14 p a.1 in
      let g = else_later 14 p table (belongs or_else length_fault t) (base_never 14 table (omega arith) (table_base b (own b ws))) f in
      let h = else_here 14 p belongs (length_fault t) (base_never 14 (length_fault t) (omega arith) (length_base t)) g.1 in
      let z = summary_fourteen b (own b ws) s p h in
      (z.0, a.0, z.1)

-- ---- many margins at once

-- one that is at fault
length_at_fault : (lengths : List ℕ) (n p : ℕ) → lengths_fault lengths ≡ fault n p → (j : ℕ) × (j < length lengths) × (length_fault (get_or lengths j 0) ≡ fault n p)
unfolding lengths_fault
length_at_fault [] n p e = absurd (fault_not_fine (sym e))
length_at_fault (t ∷ lengths) n p e = go (length_at_fault lengths n p) (length_fault t) refl e
  where
    One : List ℕ → Type 0
    One l = (j : ℕ) × (j < length l) × (length_fault (get_or l j 0) ≡ fault n p)

    go : (lengths_fault lengths ≡ fault n p → One lengths) → (f : Fault) → length_fault t ≡ f → (f or_else lengths_fault lengths) ≡ fault n p → One (t ∷ lengths)
    go rest (fault m q) z e = (0, omega arith, z ∙ e)
    go rest fine z e = let r = rest e in (suc r.0, omega (arith, r.1), r.2)

-- a list of values written at the front of a buffer, by place
mapped_at : (f : ℕ → ℤ) (l : List ℕ) (j : ℕ) → j < length l → get_or (map f l) j (pos 0) ≡ f (get_or l j 0)
mapped_at f [] j h = absurd (omega arith)
mapped_at f (t ∷ l) zero h = refl
mapped_at f (t ∷ l) (suc j) h = mapped_at f l j (omega arith)

written_mapped : (f : ℕ → ℤ) (l : List ℕ) (out : List ℤ) (j : ℕ) → j < length l → get_or (written (map f l) out) j (pos 0) ≡ f (get_or l j 0)
unfolding written
written_mapped f l out j h =
    let e : length (map f l) ≡ length l = length-map l f in
    get_or-append (map f l) (drop (length (map f l)) out) (pos 0) j (omega arith) ∙ mapped_at f l j h

-- what has been checked where margins are given
record Margins (b : Board) (ws s ts lengths : List ℕ) : Type 0 where
  table : table_fault b ws ≡ fine
  group : group_fault ts ≡ fine
  belongs : begins (summary_of b ws) s ≡ true
  asked : lengths_fault lengths ≡ fine

margins_checked : (b : Board) (ws s ts lengths : List ℕ) (room : ℕ) → margins_fault b ws s ts lengths room ≡ fine → Margins b ws s ts lengths
unfolding margins_fault
margins_checked b ws s ts lengths room e =
    let output = room_fault (length lengths) room in
    let p₁ = or_else_fine (table_fault b ws) (group_fault ts or_else summary_fault b ws s or_else lengths_fault lengths or_else output) e in
    let p₂ = or_else_fine (group_fault ts) (summary_fault b ws s or_else lengths_fault lengths or_else output) p₁.1 in
    let p₃ = or_else_fine (summary_fault b ws s) (lengths_fault lengths or_else output) p₂.1 in
    let p₄ = or_else_fine (lengths_fault lengths) output p₃.1 in
    record { table = p₁.0; group = p₂.0; belongs = fine_begins b ws s p₃.0; asked = p₄.0 }

module _ (b : Board) (ws s ts lengths : List ℕ) where
  abbrev mine : List ℕ
  mine = own b ws

  -- the table's margin at a length
  abbrev margin_at : ℕ → ℤ
  margin_at = margin (supplied_by b mine) b.frame (tasks_of ts)

  module _ (out : List ℤ) (n : ℕ) (e : margins_for b ws s ts lengths (length out) ≡ given n) where
    shared : shared_fault teams b ws ≡ fine
    unfolding margins_for
    shared = (asked_given teams b ws (λ l. margins_answer b l s ts lengths (length out)) n e).0

    answered : (margins_fault b mine s ts lengths (length out) ≡ fine) × (length lengths ≡ n)
    unfolding margins_for margins_answer
    answered =
        unless_given (margins_fault b mine s ts lengths (length out)) (length lengths) n
        (asked_given teams b ws (λ l. margins_answer b l s ts lengths (length out)) n e).1

    checked : Margins b mine s ts lengths
    checked = margins_checked b mine s ts lengths (length out) answered.0

    -- the margins at the lengths, one after another, at the front of the buffer
    pub margins_agree : (n ≡ length lengths) × (margins_out_for b ws s ts lengths out ≡ written (map (margin (supplied_by b (own b ws)) b.frame (tasks_of ts)) lengths) out)
    unfolding margins_out_for margins_out
    margins_agree =
        let exact : margin_from b.frame s (tasks_of ts) ≡ margin_at =
        fun_ext (margin_from_exact b mine s (table_frame b mine checked.table) checked.belongs (tasks_of ts)) in (
          sym answered.1,
          asked_fine teams b ws (kept out) (λ l. margins_out b l s ts lengths out) shared
              ∙ rw answered.0 (ap (λ (f : ℕ → ℤ). written (map f lengths) out) exact),
        )

    -- each is what the margin of its length is answered without a summary
    pub margins_each : (j : ℕ) → j < length lengths → margin_for b ws ts (get_or lengths j 0) ≡ given (get_or (margins_out_for b ws s ts lengths out) j (pos 0))
    unfolding margin_for margin_answer
    margins_each j h =
        let t = get_or lengths j 0 in
        let there : get_or (margins_out_for b ws s ts lengths out) j (pos 0) ≡ margin_at t =
        ap (λ (l : List ℤ). get_or l j (pos 0)) margins_agree.1 ∙ written_mapped margin_at lengths out j h in
        asked_fine teams b ws refused (λ l. margin_answer b l ts t) shared
        ∙ rw (checked.table, checked.group, lengths_each lengths checked.asked j h) (ap given (sym there))

  -- with a summary that belongs and room, what refuses them refuses one of them without it
  pub one_refused : (room n p : ℕ) → summary_fault b (own b ws) s ≡ fine → length lengths ≤ room → 0 < length lengths → margins_for b ws s ts lengths room ≡ refused n p →
      (j : ℕ) × (j < length lengths) × (margin_for b ws ts (get_or lengths j 0) ≡ refused n p)
  unfolding margins_for margins_answer margins_fault margin_for margin_answer asked_for
  one_refused room n p belongs fits some = shared_by (shared_fault teams b ws)
    where
      One : (ℕ → Answer ℤ) → Type 0
      One entry = (j : ℕ) × (j < length lengths) × (entry (get_or lengths j 0) ≡ refused n p)

      checked_by : (f g : Fault) → (f or_else g or_else lengths_fault lengths or_else fine) ≡ fault n p → One (λ t. unless (f or_else g or_else length_fault t) (margin_at t))
      checked_by (fault m q) g e = (0, some, ap (λ (f : Fault). unless f (margin_at (get_or lengths 0 0))) e)
      checked_by fine (fault m q) e = (0, some, ap (λ (f : Fault). unless f (margin_at (get_or lengths 0 0))) e)
      checked_by fine fine e =
          let one = length_at_fault lengths n p (else_here n p (lengths_fault lengths) fine (λ q z. fault_not_fine (sym z)) e) in
          (one.0, one.1, rw one.2)

      shared_by : (f : Fault) → unless_refused f refused (unless (margins_fault b mine s ts lengths room) (length lengths)) ≡ refused n p →
          One (λ t. unless_refused f refused (unless (table_fault b mine or_else group_fault ts or_else length_fault t) (margin_at t)))
      shared_by (fault m q) e = let x : m ≡ n = cc in let y : q ≡ p = cc in (0, some, rw (x, y))
      shared_by fine e =
          checked_by (table_fault b mine) (group_fault ts)
          (rw (belongs, fine_room (length lengths) room fits) at (unless_refused_lem (margins_fault b mine s ts lengths room) (length lengths) n p e))

  -- 14 exactly when: the list of windows and the group have no fault, and the summary is not the owner's
  pub margins_not_belonging : (room : ℕ) → shared_fault teams b ws ≡ fine → group_fault ts ≡ fine → begins (summary_of b (own b ws)) s ≡ false →
      margins_for b ws s ts lengths room ≡ refused 14 0
  unfolding margins_for margins_answer margins_fault
  margins_not_belonging room e g f =
      asked_fine teams b ws refused (λ l. margins_answer b l s ts lengths room) e ∙ rw (own_fine teams b ws e, g, begins_not b mine s f)

  pub margins_fourteen : (room p : ℕ) → margins_for b ws s ts lengths room ≡ refused 14 p →
      (begins (summary_of b (own b ws)) s ≡ false) × (shared_fault teams b ws ≡ fine) × (group_fault ts ≡ fine) × (p ≡ 0)
  unfolding margins_for margins_answer margins_fault
  margins_fourteen room p e =
      let a = asked_fourteen b ws (λ l. margins_answer b l s ts lengths room) p e in
      let table = table_fault b mine in
      let belongs = summary_fault b mine s in
      let output = room_fault (length lengths) room in
      let asked = lengths_fault lengths or_else output in
      let f = unless_refused_lem (margins_fault b mine s ts lengths room) _ 14 p a.1 in
      let g = else_later 14 p table (group_fault ts or_else belongs or_else asked) (base_never 14 table (omega arith) (table_base b mine)) f in
      let h = else_later 14 p (group_fault ts) (belongs or_else asked) (base_never 14 (group_fault ts) (omega arith) (group_base ts)) g.1 in
      let last = base_else (lengths_fault lengths) output (lengths_base lengths) (room_base (length lengths) room) in
      let z = summary_fourteen b mine s p (else_here 14 p belongs asked (base_never 14 asked (omega arith) last) h.1) in
      (z.0, a.0, h.0, z.1)

-- ---- a summary that is made belongs

pub made_belongs : (b : Board) (ws out : List ℕ) (n : ℕ) → make_for b ws (length out) ≡ given n →
    (summary_fault b (own b ws) (make_out_for b ws out) ≡ fine) × (n ≡ length (summary_of b (own b ws)))
unfolding make_for make_answer make_out_for make_out
made_belongs b ws out n e =
    let mine = own b ws in
    let a = asked_given teams b ws (λ l. make_answer b l (length out)) n e in
    let u = unless_given (make_fault b mine (length out)) (length (summary_of b mine)) n a.1 in
    let made : make_out_for b ws out ≡ written (summary_of b mine) out = asked_fine teams b ws (kept out) (λ l. make_out b l out) a.0 ∙ rw u.0 in
    (begins_fine b mine (make_out_for b ws out) (ap (begins (summary_of b mine)) made ∙ written_begins (summary_of b mine) out), sym u.1)
