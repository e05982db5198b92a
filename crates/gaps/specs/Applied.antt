-- Request 1's theorems at its two examples, of what `outage`, `least_supply` and `critical` answer on them
use Rattle.std.specs.Prelude.{◌≡◌, List, [], ◌∷◌, ℕ, ◌≤◌, ◌<◌}
use Rattle.std.proofs.Common.{sym, ◌∙◌}
use Rattle.scope.specs.Answers.{Answer.given}
use Rattle.scope.specs.Shared.{least_supply_for, critical_for, critical_out_for, outage_for}
use Rattle.scope.specs.Examples.{Reply.windows, Reply.amounts, XShared, lab_shared, reply, table, examples, row}
use Rattle.tables.specs.declared.board.Board.{Board}
use Rattle.std.specs.declared.result.Result.{Result}
use Rattle.std.specs.declared.result.Result.TheVariants.{Ok}
use Rattle.tables.specs.declared.answer.Refusal.{Refusal}
use Rattle.tables.specs.Told.{board_of, told_amount}
use Rattle.tables.specs.Determined.{amount_determined}
use Rattle.gaps.specs.Outage.{no_supply, some_supply, no_greater, starts_partition}

-- who asks: owner 0 of X's table, owner 1 of the lab's
abbrev board : ℕ → Board
board o = record { frame = 8; owner = o; shortest = 1; rule = 1; lost = 0 }

x_outage : outage_for (board_of (board 0)) XShared ≡ given 3
unfolding reply table
x_outage = let e : amounts (outage_for (board_of (board 0)) XShared ∷ []) ≡ amounts (given 3 ∷ []) = row table examples "outage of X, shared" in cc

lab_outage : outage_for (board_of (board 1)) lab_shared ≡ given 6
unfolding reply table
lab_outage = let e : amounts (outage_for (board_of (board 1)) lab_shared ∷ []) ≡ amounts (given 6 ∷ []) = row table examples "outage over midnight, shared" in cc

-- the lab's owner is told 6, and X's 3
lab_told : (r : Result ℕ Refusal) → told_amount r ≡ outage_for (board_of (board 1)) lab_shared → r ≡ Ok 6
lab_told r e = amount_determined r (Ok 6) (e ∙ lab_outage)

x_told : (r : Result ℕ Refusal) → told_amount r ≡ outage_for (board_of (board 0)) XShared → r ≡ Ok 3
x_told r e = amount_determined r (Ok 3) (e ∙ x_outage)

-- 6 ticks of the lab's table may hold none, 7 hold one
lab_six : (r : Result ℕ Refusal) → told_amount r ≡ least_supply_for (board_of (board 1)) lab_shared 6 → r ≡ Ok 0
lab_six = no_supply (board 1) lab_shared 6 (sym lab_outage)

lab_seven : (r : Result ℕ Refusal) → told_amount r ≡ least_supply_for (board_of (board 1)) lab_shared 7 → (p : ℕ) × (r ≡ Ok p) × (0 < p)
lab_seven = some_supply (board 1) lab_shared 6 (sym lab_outage)

lab_no_greater : (t : ℕ) → told_amount (Ok 0) ≡ least_supply_for (board_of (board 1)) lab_shared t → t ≤ 6
lab_no_greater = no_greater (board 1) lab_shared 6 (sym lab_outage)

-- W2's buffer begins with X's outage
x_starts : (left : List ℕ) → left ≡ critical_out_for (board_of (board 0)) XShared (9 ∷ 9 ∷ 9 ∷ 9 ∷ 9 ∷ []) → (rest : List ℕ) × (left ≡ 3 ∷ rest)
unfolding reply table
x_starts left wrote =
    let e : windows (critical_for (board_of (board 0)) XShared 5) (critical_out_for (board_of (board 0)) XShared (9 ∷ 9 ∷ 9 ∷ 9 ∷ 9 ∷ []))
    ≡ windows (given 2) (3 ∷ 5 ∷ 6 ∷ 8 ∷ 9 ∷ []) = row table examples "W2, shared" in
    let two : given 2 ≡ critical_for (board_of (board 0)) XShared 5 = cc in
    starts_partition (board 0) XShared 3 (sym x_outage) (9 ∷ 9 ∷ 9 ∷ 9 ∷ 9 ∷ []) left 2 two wrote
