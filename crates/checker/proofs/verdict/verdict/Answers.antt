use mathlib.Core.Path.{◌∙◌}
use native.Mathlib.Omega.{arith}
use Rattle.scope.specs.Shared.{verdict_for}
use Rattle.theory.specs.Alone.{verdict_entry}
use Rattle.shared.specs.Lent.{asked_table, asked_no_table}
use Rattle.checker.proofs.verdict.verdict.Goals as goal

pub returns-in_err-table : goal.returns-in_err-table
unfolding verdict_for
returns-in_err-table c = grind (arith, asked_no_table (verdict_entry c.args.tasks.now))

pub returns : goal.returns
unfolding verdict_for
returns c = c.verdict_on.ensures ∙ asked_table (verdict_entry _) _ _ _ c.in_ok-table.ensures
