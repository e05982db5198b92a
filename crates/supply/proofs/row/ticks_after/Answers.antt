use native.Mathlib.Omega.{arith}
use Rattle.supply.proofs.PositionLaws.{starts_at, ends_at, small}
use Rattle.supply.proofs.row.ticks_after.Goals as goal

pub overflow_add-start : goal.overflow_add-start
overflow_add-start c =
    let read = c.window_of-window.ensures in omega (arith, small _ _ c.args.position c.requires.0, starts_at _ _ _ read, ends_at _ _ _ read)

pub overflow_add-end : goal.overflow_add-end
overflow_add-end c = omega (arith, small _ _ c.args.position c.requires.0, ends_at _ _ _ c.window_of-window.ensures)
