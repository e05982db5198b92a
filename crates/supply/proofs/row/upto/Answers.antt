use native.Mathlib.Omega.{arith}
use Rattle.supply.proofs.PositionLaws.{starts_at, small}
use Rattle.supply.proofs.row.upto.Goals as goal

pub overflow_add-start : goal.overflow_add-start
overflow_add-start c = omega (arith, small _ _ c.args.position c.requires.0, starts_at _ _ _ c.window_of.ensures)

pub overflow_add-result : goal.overflow_add-result
overflow_add-result c = omega (arith, small _ _ c.args.position c.requires.0)
