use mathlib.Core.Path.{refl, ap, ◌∙◌}
use native.Mathlib.Omega.{arith}
use Rattle.scope.specs.Answers.{Answer.given}
use Rattle.tables.specs.Told.{board_of}
use Rattle.machine.proofs.RunLaws.{no_table, stopped_run, legal_run, done_run}
use Rattle.machine.proofs.run.run.Goals as goal

pub returns-in_err-table : goal.returns-in_err-table
returns-in_err-table c =
    let a = c.args in
    let r = no_table (board_of a.board) a.windows.now a.tasks.now a.n a.jobs.now a.counts.now c.in_err-table.ensures in
    let e = r.0 in
    record { answer = grind (arith, e); buffer = r.1 }

pub returns-in_err-check_run : goal.returns-in_err-check_run
returns-in_err-check_run c =
    let a = c.args in
    let r = stopped_run (board_of a.board) a.windows.now a.tasks.now a.n a.jobs.now a.counts.now c.in_ok-table.ensures c.in_err-check_run.ensures in
    let e = r.0 in
    record { answer = grind (arith, e); buffer = r.1 }

pub invariant_of-course : goal.invariant_of-course
invariant_of-course c =
    let a = c.args in
    let r = legal_run (board_of a.board) a.windows.now a.tasks.now a.n a.jobs.now a.counts.now c.in_ok-table.ensures c.in_ok-check_run.ensures in
    record { group = r.0; list = r.1; few = r.2 }

pub run_legal-requires : goal.run_legal-requires
run_legal-requires c =
    let a = c.args in
    let r = legal_run (board_of a.board) a.windows.now a.tasks.now a.n a.jobs.now a.counts.now c.in_ok-table.ensures c.in_ok-check_run.ensures in
    (refl, r.3)

pub returns : goal.returns
returns c =
    let a = c.args in
    let r = done_run (board_of a.board) a.windows.now a.tasks.now a.n a.jobs.now a.counts.now c.in_ok-table.ensures c.in_ok-check_run.ensures in
    record { answer = ap given c.run_legal.ensures.answer ∙ r.0; buffer = c.run_legal.ensures.buffer ∙ r.1 }
