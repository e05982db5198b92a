-- The search for a miss, as its loop goes over the lengths
use mathlib.Core.Path.{◌≡◌, sym, ap, ◌∙◌}
use mathlib.Core.Bool.{Bool, false, cond}
use mathlib.Core.List.{List}
use Prim.Native.Nat.{ℕ, suc, ◌+◌, ◌-◌, ◌≤◌, ◌<◌}
use native.Mathlib.Omega.{arith}
use native.Mathlib.Decide.{dec_lt, dec_le}
use borrow.Author.Tests.{lt-ltb, le-ltb, le-leb, lt-leb}
use lib.Dec.{leb}
use lib.ListN.{length}
use Rattle.scope.specs.Ticks.{Periodic, least_supply, least_start}
use Rattle.scope.specs.Tasks.{Task, task_at, demand}
use Rattle.scope.specs.Limits.{most_number}
use Rattle.scope.specs.Verdict.{Verdict.meets, Verdict.miss, violates, shown, verdict}
use Rattle.theory.specs.Numbers.{none_first, some_first}
use Rattle.theory.specs.Ticks.{least_up}
use Rattle.theory.specs.Tasks.{TaskRules, demand_none}
use Rattle.theory.specs.Dues.{due_after, due_same, demand_same, soonest_low, soonest_later, met_until}
use Rattle.checker.specs.declared.rise.Rise.{Rise}
use Rattle.checker.specs.Rises.{Due, Risen}

-- no length below t violates
abbrev pub NoneBelow : (ℕ → Bool) → ℕ → List Task → ℕ → Type 0
NoneBelow σ P ts t = (u : ℕ) → u < t → violates σ P ts u ≡ false

-- the search has come to length t: no shorter one violates, d is the demand of the length before it, `due` has the next deadlines after that, and
-- what is known is no more than the least supply of t
pub record Reached (σ : ℕ → Bool) (P : ℕ) (ts : List Task) (t d known : ℕ) (due : List ℕ) : Type 0 where
  pub past : NoneBelow σ P ts t
  pub demanded : d ≡ demand ts (t - 1)
  pub under : known ≤ least_supply σ P t
  pub dues : Due ts (t - 1) due

-- and it has judged t: d is the demand, r no more than the least supply, and the least supply where it is below the demand
pub record Judged (σ : ℕ → Bool) (P : ℕ) (ts : List Task) (t d r : ℕ) (due : List ℕ) (up : Rise) : Type 0 where
  pub past : NoneBelow σ P ts t
  pub risen : Risen ts t due up
  pub demanded : d ≡ demand ts t
  pub most : r ≤ least_supply σ P t
  pub least : r < d → r ≡ least_supply σ P t

module _ (σ : ℕ → Bool) (P : ℕ) (per : Periodic σ P) (ts : List Task) where
  -- what is known is enough where it carries the demand too
  pub judged : (t d known r : ℕ) (due after : List ℕ) (up : Rise) → Reached σ P ts t d known due → Risen ts t after up →
      r ≡ cond (leb (d + up.by) known) known (least_supply σ P t) → Judged σ P ts t (d + up.by) r after up
  judged t d known r due after up at so e =
      let demand-is : d + up.by ≡ demand ts t = omega (arith, at.demanded, so.by) in
      elim (dec_le (d + up.by) known) [
        | yes u ↦
            let is : r ≡ known = rw (le-leb (d + up.by) known u) at e in
            record { past = at.past; risen = so; demanded = demand-is; most = omega (arith, at.under); least = λ l. absurd (omega arith) }
        | no u ↦
            let less : known < d + up.by = omega arith in
            let is : r ≡ least_supply σ P t = rw (lt-leb (d + up.by) known less) at e in
            record { past = at.past; risen = so; demanded = demand-is; most = omega arith; least = λ l. is }
      ]

  -- the next rise is later
  pub next_later : TaskRules ts → (t : ℕ) (due : List ℕ) (up : Rise) → t < most_number → Risen ts t due up → t < up.next
  next_later ok t due up short so = omega (arith, so.next, soonest_later ts t (length ts) ok (omega arith) short)

  -- from a length that does not violate to the next one at which the demand rises: none between violates, for the demand stays and the supply does not fall
  pub reached_next : TaskRules ts → (t d r : ℕ) (due : List ℕ) (up : Rise) → t < most_number → Judged σ P ts t d r due up → d ≤ r →
      Reached σ P ts up.next d r due
  unfolding violates
  reached_next ok t d r due up short at fits =
      let so = at.risen in
      let later = next_later ok t due up short so in
      let low : (i : ℕ) → i < length ts → up.next ≤ due_after (task_at ts i) t = λ i l. omega (arith, so.next, soonest_low ts t (length ts) i l) in
      let last : ℕ = up.next - 1 in
      let h : t ≤ last = omega arith in
      let until : (i : ℕ) → i < length ts → last < due_after (task_at ts i) t = λ i l. omega (arith, low i l) in
      record {
        past = λ u l. elim (dec_lt u t) [
          | yes v ↦ at.past u v
          | no v ↦
              let met : demand ts t ≤ least_supply σ P t = omega (arith, at.demanded, at.most) in
              le-ltb (least_supply σ P u) (demand ts u) (met_until σ P per ts ok t u (omega arith) (λ i m. omega (arith, low i m)) met)
        ];
        demanded = at.demanded ∙ sym (demand_same ts t last ok h until);
        under = omega (arith, at.most, least_up σ P per t up.next (omega arith));
        dues = record {
          size = so.after.size;
          each = λ i l. so.after.each i l ∙ sym (due_same (task_at ts i) (ok i l) t last h (until i l)).1;
        };
      }

  -- nothing is demanded at length 0
  pub reached_first : TaskRules ts → (due : List ℕ) (up : Rise) → Risen ts 0 due up → Reached σ P ts up.next 0 0 due
  reached_first ok due up so =
      reached_next ok 0 0 0 due up (omega arith)
      (record {
        past = λ u l. absurd (omega arith);
        risen = so;
        demanded = sym (demand_none ts ok);
        most = omega arith;
        least = λ l. absurd (omega arith);
      })
      (omega arith)

  -- the search ran out
  pub search_meets : (H t : ℕ) → H < t → NoneBelow σ P ts t → meets H ≡ verdict σ P ts H
  unfolding verdict
  search_meets H t h low = sym (ap (shown σ P ts H) (none_first (violates σ P ts) (suc H) (λ u l. low u (omega arith))))

  -- the search stops
  pub search_misses : (H t s d r : ℕ) (due : List ℕ) (up : Rise) → t ≤ H → Judged σ P ts t d r due up → r < d → s ≡ least_start σ P t →
      miss t s d r ≡ verdict σ P ts H
  unfolding verdict violates
  search_misses H t s d r due up h at over q =
      let ed = at.demanded in
      let er = at.least over in
      let f = some_first (violates σ P ts) (suc H) t (omega arith) (rw (← ed, ← er) (lt-ltb r d over)) at.past in
      sym (ap (shown σ P ts H) f ∙ rw (← q, ← ed, ← er))
