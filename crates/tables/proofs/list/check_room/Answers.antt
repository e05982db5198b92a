use mathlib.Core.Path.{sym}
use Rattle.theory.specs.Answers.{fine_room, room_fault_lem}
use Rattle.tables.proofs.list.check_room.Goals as goal

pub returns-then-room-needed : goal.returns-then-room-needed
returns-then-room-needed c = sym (room_fault_lem _ _ c.if-room-needed.true)

pub returns : goal.returns
returns c = sym (fine_room _ _ c.if-room-needed.false)
