use native.Mathlib.Omega.{arith}
use Rattle.supply.proofs.PositionLaws.{ends_at, small}
use Rattle.supply.proofs.row.end_at.Goals as goal

pub overflow_add-result : goal.overflow_add-result
overflow_add-result c = omega (arith, small _ _ c.args.position c.requires, ends_at _ _ _ c.window_of.ensures)
