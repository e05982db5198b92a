use mathlib.Core.Path.{◌∙◌}
use native.Mathlib.Omega.{arith}
use lib.ListN.{length}
use Rattle.scope.specs.Summary.{margins_for, margins_out_for}
use Rattle.theory.specs.Alone.{margins_entry, margins_out_entry}
use Rattle.shared.specs.Lent.{asked_table, asked_no_table}
use Rattle.checker.proofs.margins.margins.Goals as goal

pub returns-in_err-table : goal.returns-in_err-table
unfolding margins_for margins_out_for
returns-in_err-table c =
    let a = c.args in record {
      answer = grind (arith, asked_no_table (margins_entry a.summary.now a.tasks.now a.lengths.now (length a.out.now)));
      buffer = asked_no_table (margins_out_entry _ _ _ _) _ _ _ c.in_err-table.ensures;
    }

pub returns : goal.returns
unfolding margins_for margins_out_for
returns c =
    let e = c.margins_on.ensures in
    let t = c.in_ok-table.ensures in record {
      answer = e.answer ∙ asked_table (margins_entry _ _ _ _) _ _ _ t;
      buffer = e.buffer ∙ asked_table (margins_out_entry _ _ _ _) _ _ _ t;
    }
