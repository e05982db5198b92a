use mathlib.Core.Path.{◌∙◌}
use Rattle.std.proofs.Common.{rules}
use Rattle.scope.specs.Limits.{teams}
use Rattle.scope.specs.Summary.{least_from_for}
use Rattle.theory.specs.Alone.{least_from_entry}
use Rattle.tables.specs.Told.{board_of}
use Rattle.shared.specs.Lent.{asked_table, asked_no_table}
use Rattle.summaries.proofs.summary.least_supply.Goals as goal

pub returns-in_err-table : goal.returns-in_err-table
unfolding least_from_for
returns-in_err-table c =
    let a = c.args in
    search (rules, asked_no_table (least_from_entry a.summary.now a.length) teams (board_of a.board) a.windows.now c.in_err-table.ensures)

pub returns : goal.returns
unfolding least_from_for
returns c = c.least_from_in.ensures ∙ asked_table (least_from_entry _ _) _ _ _ c.in_ok-table.ensures
