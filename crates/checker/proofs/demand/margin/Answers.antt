use mathlib.Core.Path.{◌∙◌}
use native.Mathlib.Omega.{arith}
use Rattle.scope.specs.Shared.{margin_for}
use Rattle.theory.specs.Alone.{margin_entry}
use Rattle.shared.specs.Lent.{asked_table, asked_no_table}
use Rattle.checker.proofs.demand.margin.Goals as goal

pub returns-in_err-table : goal.returns-in_err-table
unfolding margin_for
returns-in_err-table c = grind (arith, asked_no_table (margin_entry c.args.tasks.now c.args.length))

pub returns : goal.returns
unfolding margin_for
returns c = c.margin_on.ensures ∙ asked_table (margin_entry _ _) _ _ _ c.in_ok-table.ensures
