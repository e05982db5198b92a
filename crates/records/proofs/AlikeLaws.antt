-- Every entry answers two groups alike that are equal, or both refused with 4
use mathlib.Core.Path.{◌≡◌, refl, sym, ap}
use mathlib.Core.Logic.{inl, inr}
use mathlib.Core.List.{List}
use Prim.Native.Nat.{ℕ, ◌/◌, ◌<◌}
use native.Mathlib.Omega.{arith}
use native.Mathlib.Decide.{dec_le}
use lib.ListN.{length, take}
use lib.Seq.{length-take-le, take_all}
use Rattle.scope.specs.Limits.{teams, most_tasks}
use Rattle.scope.specs.Windows.{Board}
use Rattle.scope.specs.Answers.{Fault, Fault.fine, Fault.fault, ◌or_else◌, unless, unless_kept, task_list_fault, table_fault, group_fault, demand_answer, margin_answer}
use Rattle.scope.specs.Answers.{Answer.refused, verdict_answer, bound_answer, run_fault, run_answer, run_out}
use Rattle.scope.specs.Shared.{own, kept, margin_for, verdict_for, bound_for, run_for, run_out_for}
use Rattle.theory.specs.Shared.{asked_same}
use Rattle.tables.specs.declared.task.Task.{Task}
use Rattle.tables.proofs.FaultLaws.{or_fault}
use Rattle.tables.proofs.TaskLaws.{too_many}
use Rattle.records.specs.Numbers.{numbers_of, enough_numbers}
use Rattle.records.specs.Alike.{Alike}
use Rattle.records.proofs.NumberLaws.{numbers_length}

-- ---- every entry answers them alike

-- two groups, both refused: no answer tells them apart
module _ (f g g' h h' : Fault) (e : g ≡ fault 4 0) (e' : g' ≡ fault 4 0) where
  no_value : {A : Type 0} (a a' : A) → unless (f or_else g or_else h) a ≡ unless (f or_else g' or_else h') a'
  no_value a a' = rw (e, e') (go f)
    where
      go : (f : Fault) → unless (f or_else fault 4 0) a ≡ unless (f or_else fault 4 0) a'
      go fine = refl
      go (fault n p) = refl

  no_writing : (l l' old : List ℕ) → unless_kept (f or_else g or_else h) l old ≡ unless_kept (f or_else g' or_else h') l' old
  no_writing l l' old = rw (e, e') (go f)
    where
      go : (f : Fault) → unless_kept (f or_else fault 4 0) l old ≡ unless_kept (f or_else fault 4 0) l' old
      go fine = refl
      go (fault n p) = refl

module _ (ts ts' : List ℕ) (alike : Alike ts ts') where
  by_alike : {A : Type 0} (answer : List ℕ → A) → (group_fault ts ≡ fault 4 0 → group_fault ts' ≡ fault 4 0 → answer ts ≡ answer ts') → answer ts ≡ answer ts'
  by_alike answer both = go alike
    where
      go : Alike ts ts' → answer ts ≡ answer ts'
      go (inl e) = ap answer e
      go (inr e) = both e.0 e.1

  pub alike_demand : (t : ℕ) → demand_answer ts t ≡ demand_answer ts' t
  unfolding demand_answer
  alike_demand t = by_alike (λ l. demand_answer l t) (λ e e'. no_value fine _ _ _ _ e e' _ _)

  module _ (b : Board) (ws : List ℕ) where
    abbrev mine : List ℕ
    mine = own b ws

    pub alike_margin : (t : ℕ) → margin_for b ws ts t ≡ margin_for b ws ts' t
    unfolding margin_for margin_answer
    alike_margin t =
        asked_same teams b ws refused (λ l. margin_answer b l ts t) (λ l. margin_answer b l ts' t)
        (by_alike (λ l. margin_answer b mine l t) (λ e e'. no_value (table_fault b mine) _ _ _ _ e e' _ _))

    pub alike_verdict : verdict_for b ws ts ≡ verdict_for b ws ts'
    unfolding verdict_for verdict_answer
    alike_verdict =
        asked_same teams b ws refused (λ l. verdict_answer b l ts) (λ l. verdict_answer b l ts')
        (by_alike (λ l. verdict_answer b mine l) (λ e e'. no_value (table_fault b mine) _ _ _ _ e e' _ _))

    pub alike_bound : (i : ℕ) → bound_for b ws ts i ≡ bound_for b ws ts' i
    unfolding bound_for bound_answer
    alike_bound i =
        asked_same teams b ws refused (λ l. bound_answer b l ts i) (λ l. bound_answer b l ts' i)
        (by_alike (λ l. bound_answer b mine l i) (λ e e'. no_value (table_fault b mine) _ _ _ _ e e' _ _))

    pub alike_run : (n : ℕ) (js : List ℕ) (room : ℕ) → run_for b ws ts n js room ≡ run_for b ws ts' n js room
    unfolding run_for run_answer run_fault
    alike_run n js room =
        asked_same teams b ws refused (λ l. run_answer b l ts n js room) (λ l. run_answer b l ts' n js room)
        (by_alike (λ l. run_answer b mine l n js room) (λ e e'. no_value (table_fault b mine) _ _ _ _ e e' _ _))

    pub alike_out : (n : ℕ) (js out : List ℕ) → run_out_for b ws ts n js out ≡ run_out_for b ws ts' n js out
    unfolding run_out_for run_out run_fault
    alike_out n js out =
        asked_same teams b ws (kept out) (λ l. run_out b l ts n js out) (λ l. run_out b l ts' n js out)
        (by_alike (λ l. run_out b mine l n js out) (λ e e'. no_writing (table_fault b mine) _ _ _ _ e e' _ _ _))

-- ---- groups that are alike

pub bad_list : (ts : List ℕ) → task_list_fault ts ≡ fault 4 0 → group_fault ts ≡ fault 4 0
unfolding group_fault
bad_list ts e = or_fault _ _ e

pub over : (ts : List ℕ) → most_tasks < length ts / 3 → group_fault ts ≡ fault 4 0
over ts h = bad_list ts (sym (too_many ts h))

-- the numbers of the first records, as many as are enough, and all
pub enough_alike : (ys : List Task) → Alike (take enough_numbers (numbers_of ys)) (numbers_of ys)
enough_alike ys =
    let all = numbers_of ys in
    let e = numbers_length ys in
    elim (dec_le (length all) enough_numbers) [
      | yes l ↦ inl (take_all enough_numbers all l)
      | no l ↦ inr (over (take enough_numbers all) (omega (arith, length-take-le enough_numbers all (omega arith))), over all (omega arith))
    ]
