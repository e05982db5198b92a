-- Document 02, request 7: more lost ticks never supply more, so what is met at a loss is met at every smaller one, and what is not refused by 13 at a loss is
-- not at a smaller one
use Rattle.std.specs.Prelude.{◌≡◌, true, ℕ, ◌-◌, ◌%◌, ◌≤◌, ◌<◌}
use Rattle.std.proofs.Math.Path.{refl, ap}
use Rattle.std.proofs.Common.{sym, ◌∙◌, arith}
use Rattle.std.proofs.Math.Bool.{or-true}
use Rattle.std.proofs.Math.Logic.{inl, inr}
use mathlib.Core.List.{List, [], ◌∷◌}
use Rattle.std.proofs.Math.Decide.{dec_lt}
use Rattle.std.proofs.Math.ListN.{length}
use Rattle.scope.specs.Limits.{teams}
use Rattle.scope.specs.Ticks.{supply, per_frame, least_supply}
use Rattle.scope.specs.Windows.{Board, Window, windows_of, gives, covers, supplied, supplied_by}
use Rattle.scope.specs.Tasks.{tasks_of}
use Rattle.scope.specs.Cycle.{cycle}
use Rattle.scope.specs.Verdict.{Verdict.meets, verdict}
use Rattle.scope.specs.Answers.{Fault.fine, Answer, Answer.given, Answer.refused, ◌or_else◌, table_fault, group_fault, rule_fault, length_fault, cycle_fault, least_supply_answer, verdict_answer}
use Rattle.scope.specs.Shared.{own, left_of, lost_fault, shared_fault, asked_for, least_supply_for, verdict_for}
use Rattle.theory.specs.Numbers.{bool_cases}
use Rattle.theory.specs.Ticks.{supply_more, least_more}
use Rattle.theory.specs.Windows.{gives_in, gives_when}
use Rattle.theory.specs.Answers.{or_else_fine, unless_given}
use Rattle.theory.specs.Exact.{exact_meets}
use Rattle.theory.specs.Shared.{shared_parts, own_fine, asked_fine, asked_given}
use Rattle.theory.specs.Left.{left_kept, left_out, left_some}
use Rattle.theory.specs.Losses.{Cause, Cause.no_such_rule, Cause.too_many_lost, Cause.lost_under_one, Cause.none_left, less_ruled, lost_fine}
use Rattle.theory.specs.Alone.{own_owner, whole_same, sliver_same, absent_same}
use Rattle.theory.specs.Shortest.{Known}
use Rattle.theory.specs.Thirteen.{Thirteen, exactly_thirteen}

-- ---- a group that meets on some ticks meets on more

module _ (b c : Board) (ws vs ts : List ℕ) (framed : b.frame ≡ c.frame) (legal : table_fault b ws ≡ fine)
    (more : (k : ℕ) → supplied_by c vs k ≡ true → supplied_by b ws k ≡ true) where
  pub more_meets : (H : ℕ) → verdict_answer c vs ts ≡ given (meets H) → verdict_answer b ws ts ≡ given (meets H)
  unfolding verdict_answer cycle_fault
  more_meets H e =
      let u = unless_given (table_fault c vs or_else group_fault ts or_else cycle_fault c (tasks_of ts)) _ (meets H) e in
      let p = or_else_fine (table_fault c vs) (group_fault ts or_else cycle_fault c (tasks_of ts)) u.0 in
      let q = or_else_fine (group_fault ts) (cycle_fault c (tasks_of ts)) p.1 in
      let w = (exact_meets c vs ts (meets H) e H).0 refl in
      let answered : verdict_answer b ws ts ≡ given (verdict (supplied_by b ws) b.frame (tasks_of ts) (cycle b.frame (tasks_of ts))) =
      rw (legal, q.0, framed, q.1) in
      let same : cycle c.frame (tasks_of ts) ≡ cycle b.frame (tasks_of ts) = ap (λ (P : ℕ). cycle P (tasks_of ts)) (sym framed) in
      answered ∙ ap given ((exact_meets b ws ts _ answered H).1 (
        w.0 ∙ same,
        λ t.
            omega (arith, w.1 t, least_more (supplied_by c vs) (supplied_by b ws) more b.frame t, ap (λ (P : ℕ). least_supply (supplied_by c vs) P t) framed),
      ))

-- ---- two boards of one frame, of which c loses no fewer ticks than b

module _ (b c : Board) (framed : b.frame ≡ c.frame) (less : b.lost ≤ c.lost) where
  covers_more : (ws : List Window) (k : ℕ) → covers c.lost ws k ≡ true → covers b.lost ws k ≡ true
  unfolding covers
  covers_more [] k e = e
  covers_more (w ∷ ws) k e =
      elim (bool_cases (gives c.lost w k)) [
        | inl t ↦ let m = gives_when c.lost w k t in rw (gives_in b.lost w k (omega (arith, m.0)) m.1)
        | inr f ↦ rw (covers_more ws k (rw f at e)) (or-true (gives b.lost w k))
      ]

  -- a tick that c supplies b supplies
  pub more_lost_tick : (ws : List Window) (k : ℕ) → supplied c ws k ≡ true → supplied b ws k ≡ true
  unfolding supplied
  more_lost_tick ws k e = ap (λ (P : ℕ). covers b.lost ws (k % P)) framed ∙ covers_more ws (k % c.frame) e

  -- so the supply of every start and length is no more on c
  pub more_lost_supply : (ws : List Window) (s t : ℕ) → supply (supplied c ws) s t ≤ supply (supplied b ws) s t
  more_lost_supply ws = supply_more (supplied c ws) (supplied b ws) (more_lost_tick ws)

  -- nor is A
  pub more_lost_frame : (ws : List Window) → per_frame (supplied c ws) c.frame ≤ per_frame (supplied b ws) b.frame
  more_lost_frame ws = omega (arith, more_lost_supply ws 0 c.frame, ap (supply (supplied b ws) 0) framed)

  -- nor the least supply of any length
  pub more_lost_least : (ws : List Window) (t : ℕ) → least_supply (supplied c ws) c.frame t ≤ least_supply (supplied b ws) b.frame t
  more_lost_least ws t =
      omega (arith, least_more (supplied c ws) (supplied b ws) (more_lost_tick ws) c.frame t, ap (λ (P : ℕ). least_supply (supplied b ws) P t) framed)

  -- where b leaves nothing c leaves nothing
  left_none : (ws : List Window) → left_of b.lost ws ≡ [] → left_of c.lost ws ≡ []
  unfolding left_of
  left_none [] e = refl
  left_none (w ∷ ws) e =
      elim (dec_lt b.lost (w.end - w.start)) [
        | yes h ↦ absurd (omega (arith, ap length (left_kept b.lost w ws h), ap length e))
        | no h ↦ left_out c.lost w ws (omega arith) ∙ left_none ws (sym (left_out b.lost w ws (omega arith)) ∙ e)
      ]

  left_some_less : (ws : List Window) → 0 < length (left_of c.lost ws) → 0 < length (left_of b.lost ws)
  left_some_less ws h = go (left_of b.lost ws) refl
    where
      go : (l : List ℕ) → left_of b.lost ws ≡ l → 0 < length l
      go [] e = omega (arith, ap length (left_none ws e))
      go (a ∷ l) e = omega arith

  module _ (owner : b.owner ≡ c.owner) where
    -- so an owner is answered no greater least supply on c
    pub more_lost_amount : (ws : List ℕ) (t p q : ℕ) → least_supply_for c ws t ≡ given p → least_supply_for b ws t ≡ given q → p ≤ q
    unfolding least_supply_for least_supply_answer
    more_lost_amount ws t p q e f =
        let g = asked_given teams c ws (λ l. least_supply_answer c l t) p e in
        let h = asked_given teams b ws (λ l. least_supply_answer b l t) q f in
        let u = unless_given (table_fault c (own c ws) or_else length_fault t) (least_supply (supplied_by c (own c ws)) c.frame t) p g.1 in
        let v = unless_given (table_fault b (own b ws) or_else length_fault t) (least_supply (supplied_by b (own b ws)) b.frame t) q h.1 in
        omega (arith, u.1, v.1, more_lost_least (windows_of (own c ws)) t, ap (λ (l : List ℕ). least_supply (supplied_by b l) b.frame t) (own_owner b c ws owner))

  module _ (owner : b.owner ≡ c.owner) (shortest : b.shortest ≡ c.shortest) where
    -- a list that c does not refuse is not refused by b, if b is a board that can be
    pub more_lost_fine : rule_fault b ≡ fine → (owners : ℕ) (ws : List ℕ) → shared_fault owners c ws ≡ fine → shared_fault owners b ws ≡ fine
    unfolding shared_fault
    more_lost_fine can owners ws e =
        let p = shared_parts owners c ws e in
        let left : 0 < length (left_of b.lost (windows_of (own b ws))) = rw (own_owner b c ws owner) (left_some_less (windows_of (own c ws)) (left_some owners c ws e)) in
        rw (
          whole_same owners b c ws framed ∙ p.0,
          absent_same b c ws ws (own_owner b c ws owner) ∙ p.1,
          sliver_same b c ws shortest ∙ p.2,
          lost_fine b (own b ws) can left,
        )

    -- and a group that meets on c meets on b
    pub more_lost_meets : rule_fault b ≡ fine → (ws ts : List ℕ) (H : ℕ) → verdict_for c ws ts ≡ given (meets H) → verdict_for b ws ts ≡ given (meets H)
    unfolding verdict_for
    more_lost_meets can ws ts H e =
        let g = asked_given teams c ws (λ l. verdict_answer c l ts) (meets H) e in
        let f = more_lost_fine can teams ws g.0 in
        asked_fine teams b ws refused (λ l. verdict_answer b l ts) f
        ∙ more_meets b c (own b ws) (own c ws) ts framed (own_fine teams b ws f) (λ k t. rw (own_owner b c ws owner) (more_lost_tick (windows_of (own c ws)) k t)) H g.1

    -- as b can be where it has c's rule: "meets" at a loss is "meets" at every smaller one
    pub less_lost_meets : b.rule ≡ c.rule → (ws ts : List ℕ) (H : ℕ) → verdict_for c ws ts ≡ given (meets H) → verdict_for b ws ts ≡ given (meets H)
    unfolding verdict_for lost_fault
    less_lost_meets rule ws ts H e =
        let f = (asked_given teams c ws (λ l. verdict_answer c l ts) (meets H) e).0 in
        let can = (or_else_fine (rule_fault c) _ (shared_parts teams c ws f).3).0 in
        more_lost_meets (less_ruled b c rule less can) ws ts H e

    module _ (rule : b.rule ≡ c.rule) (owners : ℕ) (ws : List ℕ) (p : ℕ) where
      -- what b refuses by 13 c does too, where the rule is the same
      pub more_lost_thirteen : Thirteen owners b ws p → Thirteen owners c ws p
      more_lost_thirteen t = record {
        whole = sym (whole_same owners b c ws framed) ∙ t.whole;
        present = sym (absent_same b c ws ws (own_owner b c ws owner)) ∙ t.present;
        long = sym (sliver_same b c ws shortest) ∙ t.long;
        cause = by (rw (own_owner b c ws owner) at t.cause);
        at = t.at;
      }
        where
          by : Cause b (own c ws) → Cause c (own c ws)
          by (no_such_rule r s) = no_such_rule (λ z. r (rule ∙ z)) (λ z. s (rule ∙ z))
          by (too_many_lost h) = too_many_lost (omega arith)
          by (lost_under_one r h) = lost_under_one (sym rule ∙ r) (omega arith)
          by (none_left e) = none_left (left_none (windows_of (own c ws)) e)

      -- so what is not refused by 13 at a loss is not at a smaller one
      pub less_lost_not_thirteen : {A : Type 0} (entry other : List ℕ → Answer A) → Known entry → Known other →
          (asked_for owners c ws refused other ≡ refused 13 p → ⊥) → asked_for owners b ws refused entry ≡ refused 13 p → ⊥
      less_lost_not_thirteen entry other is too spared e =
          spared ((exactly_thirteen owners c ws other too p).1 (more_lost_thirteen ((exactly_thirteen owners b ws entry is p).0 e)))
