use mathlib.Core.Path.{sym}
use Rattle.theory.specs.Slivers.{one_tick}
use Rattle.tables.specs.Told.{board_of}
use Rattle.shared.proofs.table.check_slivers.Goals as goal

pub returns-then-board-eq1 : goal.returns-then-board-eq1
returns-then-board-eq1 c =
    let a = c.args in
    sym (one_tick a.owners (board_of a.board) a.windows.now c.if-board-eq1.true c.requires)
