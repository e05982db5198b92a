use mathlib.Core.Path.{◌∙◌}
use native.Mathlib.Omega.{arith}
use Rattle.scope.specs.Shared.{bound_for}
use Rattle.theory.specs.Alone.{bound_entry}
use Rattle.shared.specs.Lent.{asked_table, asked_no_table}
use Rattle.checker.proofs.bound.bound.Goals as goal

pub returns-in_err-table : goal.returns-in_err-table
unfolding bound_for
returns-in_err-table c = grind (arith, asked_no_table (bound_entry c.args.tasks.now c.args.index))

pub returns : goal.returns
unfolding bound_for
returns c = c.bound_on.ensures ∙ asked_table (bound_entry _ _) _ _ _ c.in_ok-table.ensures
