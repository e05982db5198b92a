use mathlib.Core.Path.{sym}
use Rattle.scope.specs.Shared.{owned}
use Rattle.theory.specs.Lists.{three_at, piece_past}
use native.Mathlib.Omega.{arith}
use Rattle.shared.proofs.table.owned_at.Goals as goal

pub returns-then-i-windows : goal.returns-then-i-windows
returns-then-i-windows c = let a = c.args in sym (three_at owned (owned 0 0 0) a.windows.now a.i (omega arith))

pub returns : goal.returns
returns c = sym (piece_past 3 owned (owned 0 0 0) _ _ c.if-i-windows.false)
