use native.Mathlib.Omega.{arith}
use native.Mathlib.Nat.{mod-lt}
use Rattle.theory.specs.Rows.{table_row}
use Rattle.supply.proofs.SupplyLaws.{least_split}
use Rattle.supply.proofs.supply.least_of.Goals as goal

pub least_at_ends-rest-requires : goal.least_at_ends-rest-requires
least_at_ends-rest-requires c = let a = c.args in omega (arith, mod-lt a.length {m = a.table.frame} a.table.legal.frame)

pub overflow_mul-result : goal.overflow_mul-result
overflow_mul-result c = omega (arith, least_split _ _ (table_row _ _ c.args.table.legal).repeats c.args.length c.least_at_ends-rest.ensures)

pub overflow_add-result : goal.overflow_add-result
overflow_add-result c = omega (arith, least_split _ _ (table_row _ _ c.args.table.legal).repeats c.args.length c.least_at_ends-rest.ensures)

pub returns : goal.returns
returns c = (least_split _ _ (table_row _ _ c.args.table.legal).repeats c.args.length c.least_at_ends-rest.ensures).0
