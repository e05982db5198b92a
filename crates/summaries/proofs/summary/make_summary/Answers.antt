use mathlib.Core.Path.{◌∙◌}
use Rattle.std.proofs.Common.{rules}
use lib.ListN.{length}
use Rattle.scope.specs.Limits.{teams}
use Rattle.scope.specs.Summary.{make_for, make_out_for}
use Rattle.theory.specs.Alone.{make_entry, make_out_entry}
use Rattle.tables.specs.Told.{board_of}
use Rattle.shared.specs.Lent.{asked_table, asked_no_table}
use Rattle.summaries.proofs.summary.make_summary.Goals as goal

pub returns-in_err-table-clause-answer : goal.returns-in_err-table-clause-answer
unfolding make_for
returns-in_err-table-clause-answer c =
    let a = c.args in
    search (rules, asked_no_table (make_entry (length a.out.now)) teams (board_of a.board) a.windows.now c.in_err-table.ensures)

pub returns-in_err-table-clause-buffer : goal.returns-in_err-table-clause-buffer
unfolding make_out_for
returns-in_err-table-clause-buffer c = asked_no_table (make_out_entry _) _ _ _ c.in_err-table.ensures

pub returns : goal.returns
unfolding make_for make_out_for
returns c =
    let m = c.make_of.ensures in
    let t = c.in_ok-table.ensures in
    record { answer = m.answer ∙ asked_table (make_entry _) _ _ _ t; buffer = m.buffer ∙ asked_table (make_out_entry _) _ _ _ t }
