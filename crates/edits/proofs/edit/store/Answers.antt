use Rattle.edits.proofs.EditLaws.{store_given, stored_summary}
use Rattle.edits.proofs.edit.store.Goals as goal

pub returns-in_err-numbers-clause-held : goal.returns-in_err-numbers-clause-held
returns-in_err-numbers-clause-held c = stored_summary _ _ _ _ c.in_ok-table.ensures c.in_ok-check_room.ensures _ c.make_of.ensures.buffer

pub returns-clause-answer : goal.returns-clause-answer
returns-clause-answer c = store_given _ _ _ _ c.in_ok-table.ensures c.in_ok-check_room.ensures _ c.in_ok-numbers.ensures.answer

pub returns-clause-held : goal.returns-clause-held
returns-clause-held c = stored_summary _ _ _ _ c.in_ok-table.ensures c.in_ok-check_room.ensures _ c.make_of.ensures.buffer
