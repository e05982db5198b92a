use mathlib.Core.Path.{sym}
use native.Mathlib.Omega.{arith}
use Rattle.scope.specs.Windows.{window}
use Rattle.theory.specs.Lists.{two_at, piece_past}
use Rattle.tables.proofs.window.window_at.Goals as goal

pub returns-then-i-windows : goal.returns-then-i-windows
returns-then-i-windows c = let a = c.args in sym (two_at window (window 0 0) a.windows.now a.i (omega arith))

pub returns : goal.returns
returns c = sym (piece_past 2 window (window 0 0) _ _ c.if-i-windows.false)
