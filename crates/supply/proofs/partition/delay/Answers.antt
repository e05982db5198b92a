use mathlib.Core.Path.{◌∙◌}
use native.Mathlib.Omega.{arith}
use Rattle.scope.specs.Limits.{teams}
use Rattle.scope.specs.Shared.{delay_for}
use Rattle.theory.specs.Alone.{delay_entry}
use Rattle.tables.specs.Told.{board_of}
use Rattle.shared.specs.Lent.{asked_table, asked_no_table}
use Rattle.supply.proofs.partition.delay.Goals as goal

pub returns-in_err-table : goal.returns-in_err-table
unfolding delay_for
returns-in_err-table c =
    let a = c.args in
    let r = asked_no_table delay_entry teams (board_of a.board) a.windows.now c.in_err-table.ensures in
    grind (arith, r)

pub returns : goal.returns
unfolding delay_for
returns c =
    let a = c.args in c.delay_on.ensures ∙ asked_table delay_entry teams (board_of a.board) a.windows.now c.in_ok-table.ensures
