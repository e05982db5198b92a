use mathlib.Core.Path.{◌∙◌}
use native.Mathlib.Omega.{arith}
use Rattle.scope.specs.Limits.{teams}
use Rattle.scope.specs.Shared.{least_supply_for}
use Rattle.theory.specs.Alone.{least_supply_entry}
use Rattle.tables.specs.Told.{board_of}
use Rattle.shared.specs.Lent.{asked_table, asked_no_table}
use Rattle.supply.proofs.supply.least_supply.Goals as goal

pub returns-in_err-table : goal.returns-in_err-table
unfolding least_supply_for
returns-in_err-table c =
    let a = c.args in
    let r = asked_no_table (least_supply_entry a.length) teams (board_of a.board) a.windows.now c.in_err-table.ensures in
    grind (arith, r)

pub returns : goal.returns
unfolding least_supply_for
returns c =
    let a = c.args in c.least_on.ensures ∙ asked_table (least_supply_entry a.length) teams (board_of a.board) a.windows.now c.in_ok-table.ensures
