-- Request 1, of what the entries answer: the outage is the greatest length whose least supply is 0, and the first number that `critical` writes
use Rattle.std.specs.Prelude.{◌≡◌, true, List, ◌∷◌, ◌++◌, ℕ, ◌+◌, ◌≤◌, ◌<◌, length}
use Rattle.std.proofs.Common.{sym, ◌∙◌}
use Rattle.std.proofs.Math.ListN.{drop}
use Rattle.scope.specs.Numbers.{written}
use Rattle.scope.specs.Ticks.{least_supply}
use Rattle.scope.specs.Windows.{supplied_by}
use Rattle.scope.specs.Limits.{teams}
use Rattle.scope.specs.Answers.{Fault.fine, Answer.given, Answer.refused, ◌or_else◌, table_fault, length_fault, least_supply_answer, critical_of, critical_fault, critical_answer, critical_out, outage_answer}
use Rattle.scope.specs.Shared.{own, shared_fault, kept, least_supply_for, critical_for, critical_out_for, outage_for}
use Rattle.theory.specs.Shared.{asked_fine, asked_given}
use Rattle.theory.specs.Left.{some_tick}
use Rattle.theory.specs.Outage.{outage_supply, outage_greatest_length, outage_critical}
use Rattle.theory.specs.Answers.{unless_given}
use Rattle.tables.specs.declared.board.Board.{Board}
use Rattle.std.specs.declared.result.Result.{Result}
use Rattle.std.specs.declared.result.Result.TheVariants.{Ok}
use Rattle.tables.specs.declared.answer.Refusal.{Refusal}
use Rattle.tables.specs.Told.{board_of, told_amount}
use Rattle.tables.specs.Determined.{amount_determined}

module _ (b : Board) (ws : List ℕ) (n : ℕ) (told : told_amount (Ok n) ≡ outage_for (board_of b) ws) where
  abbrev mine : List ℕ
  mine = own (board_of b) ws

  -- the whole list is legal, and the outage is that of the owner's windows
  asked_is : (shared_fault teams (board_of b) ws ≡ fine) × (outage_answer (board_of b) mine ≡ given n)
  unfolding outage_for
  asked_is = asked_given teams (board_of b) ws (outage_answer (board_of b)) n (sym told)

  -- so the owner is left a tick
  tick : (k : ℕ) × (supplied_by (board_of b) mine k ≡ true)
  tick = some_tick teams (board_of b) ws asked_is.0

  least_is : (t : ℕ) → least_supply_for (board_of b) ws t ≡ least_supply_answer (board_of b) mine t
  unfolding least_supply_for
  least_is t = asked_fine teams (board_of b) ws refused (λ l. least_supply_answer (board_of b) l t) asked_is.0

  -- what `least_supply` answers at the outage, and at one tick more
  pub no_supply : (r : Result ℕ Refusal) → told_amount r ≡ least_supply_for (board_of b) ws n → r ≡ Ok 0
  no_supply r e = amount_determined r (Ok 0) (e ∙ least_is n ∙ (outage_supply (board_of b) mine n asked_is.1 tick.0 tick.1).0)

  pub some_supply : (r : Result ℕ Refusal) → told_amount r ≡ least_supply_for (board_of b) ws (n + 1) → (p : ℕ) × (r ≡ Ok p) × (0 < p)
  some_supply r e =
      let s = outage_supply (board_of b) mine n asked_is.1 tick.0 tick.1 in
      (s.1, amount_determined r (Ok s.1) (e ∙ least_is (n + 1) ∙ s.2), s.3)

  -- no greater length is answered 0
  pub no_greater : (t : ℕ) → told_amount (Ok 0) ≡ least_supply_for (board_of b) ws t → t ≤ n
  unfolding least_supply_answer
  no_greater t e =
      let g = unless_given (table_fault (board_of b) mine or_else length_fault t) (least_supply (supplied_by (board_of b) mine) b.frame t) 0 (sym (e ∙ least_is t)) in
      outage_greatest_length (board_of b) mine n asked_is.1 tick.0 tick.1 t g.1

  -- what `critical` leaves in a buffer that is long enough begins with it
  pub starts_partition : (out left : List ℕ) (k : ℕ) → told_amount (Ok k) ≡ critical_for (board_of b) ws (length out) →
      left ≡ critical_out_for (board_of b) ws out → (rest : List ℕ) × (left ≡ n ∷ rest)
  unfolding critical_for critical_out_for critical_answer critical_out written
  starts_partition out left k e wrote =
      let c = asked_given teams (board_of b) ws (λ l. critical_answer (board_of b) l (length out)) k (sym e) in
      let fine_at = (unless_given (critical_fault (board_of b) mine (length out)) _ k c.1).0 in
      let f = outage_critical (board_of b) mine n asked_is.1 tick.0 tick.1 in
      let is = asked_fine teams (board_of b) ws (kept out) (λ l. critical_out (board_of b) l out) c.0 in
      (f.0 ++ drop (length (critical_of (board_of b) mine)) out, wrote ∙ is ∙ rw (fine_at, f.1))
