use native.Mathlib.Omega.{arith}
use Rattle.supply.proofs.PositionLaws.{starts_at, ends_at, small}
use Rattle.supply.proofs.row.next.Goals as goal

pub overflow_sub-before : goal.overflow_sub-before
overflow_sub-before c =
    let read = c.window_of-window.ensures in omega (arith, small _ _ c.args.position c.requires, starts_at _ _ _ read, ends_at _ _ _ read)

pub overflow_add-before : goal.overflow_add-before
overflow_add-before c =
    let read = c.window_of-window.ensures in omega (arith, small _ _ c.args.position c.requires, starts_at _ _ _ read, ends_at _ _ _ read)
