use mathlib.Core.Path.{ap, ◌∙◌}
use Rattle.scope.specs.Limits.{teams}
use Rattle.scope.specs.Answers.{Answer.given, outage_answer}
use Rattle.scope.specs.Shared.{outage_for}
use Rattle.theory.specs.Alone.{outage_entry}
use Rattle.tables.specs.Told.{board_of}
use Rattle.tables.proofs.FaultLaws.{given_by}
use Rattle.shared.specs.Lent.{own_table_fine, asked_table, asked_no_table}
use native.Mathlib.Omega.{arith}
use Rattle.gaps.proofs.outage.outage.Goals as goal

pub returns-in_err-table : goal.returns-in_err-table
unfolding outage_for
returns-in_err-table c =
    let a = c.args in
    let r = asked_no_table outage_entry teams (board_of a.board) a.windows.now c.in_err-table.ensures in
    grind (arith, r)

pub returns : goal.returns
unfolding outage_for outage_answer
returns c =
    let a = c.args in
    let e = c.in_ok-table.ensures in
    ap given (c.from.ensures ∙ c.outage_of.ensures) ∙ given_by _ _ (own_table_fine teams (board_of a.board) a.windows.now e)
    ∙ asked_table outage_entry teams (board_of a.board) a.windows.now e
