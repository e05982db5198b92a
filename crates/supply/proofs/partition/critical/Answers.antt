use mathlib.Core.Path.{◌∙◌}
use native.Mathlib.Omega.{arith}
use lib.ListN.{length}
use Rattle.scope.specs.Limits.{teams}
use Rattle.scope.specs.Shared.{critical_for, critical_out_for}
use Rattle.theory.specs.Alone.{critical_entry, critical_out_entry}
use Rattle.tables.specs.Told.{board_of}
use Rattle.shared.specs.Lent.{asked_table, asked_no_table}
use Rattle.supply.proofs.partition.critical.Goals as goal

pub returns-in_err-table-clause-answer : goal.returns-in_err-table-clause-answer
unfolding critical_for
returns-in_err-table-clause-answer c =
    let a = c.args in
    let r = asked_no_table (critical_entry (length a.out.now)) teams (board_of a.board) a.windows.now c.in_err-table.ensures in
    grind (arith, r)

pub returns-in_err-table-clause-buffer : goal.returns-in_err-table-clause-buffer
unfolding critical_out_for
returns-in_err-table-clause-buffer c =
    let a = c.args in asked_no_table (critical_out_entry a.out.now) teams (board_of a.board) a.windows.now c.in_err-table.ensures

pub returns-clause-answer : goal.returns-clause-answer
unfolding critical_for
returns-clause-answer c =
    let a = c.args in
    c.critical_on.ensures.answer ∙ asked_table (critical_entry (length a.out.now)) teams (board_of a.board) a.windows.now c.in_ok-table.ensures

pub returns-clause-buffer : goal.returns-clause-buffer
unfolding critical_out_for
returns-clause-buffer c =
    let a = c.args in
    c.critical_on.ensures.buffer ∙ asked_table (critical_out_entry a.out.now) teams (board_of a.board) a.windows.now c.in_ok-table.ensures
