use mathlib.Core.Path.{ap, ◌∙◌}
use native.Mathlib.Omega.{arith}
use Rattle.scope.specs.Limits.{teams}
use Rattle.scope.specs.Answers.{Answer.given, supplied_answer}
use Rattle.scope.specs.Shared.{supplied_for}
use Rattle.theory.specs.Alone.{supplied_entry}
use Rattle.tables.specs.Told.{board_of}
use Rattle.tables.proofs.FaultLaws.{given_there}
use Rattle.shared.specs.Lent.{asked_table, asked_no_table}
use Rattle.supply.proofs.TableLaws.{table_fine}
use Rattle.supply.proofs.supply.supplied.Goals as goal

pub returns-in_err-table : goal.returns-in_err-table
unfolding supplied_for
returns-in_err-table c =
    let a = c.args in
    let r = asked_no_table (supplied_entry a.tick) teams (board_of a.board) a.windows.now c.in_err-table.ensures in
    grind (arith, r)

pub returns : goal.returns
unfolding supplied_for supplied_answer
returns c =
    let a = c.args in
    ap given (rw c.from.ensures at c.is_on.ensures) ∙ given_there _ (table_fine _ _ c.in_ok-table.table.legal)
    ∙ asked_table (supplied_entry a.tick) teams (board_of a.board) a.windows.now c.in_ok-table.ensures
