use mathlib.Core.Path.{sym, ◌∙◌}
use Rattle.scope.specs.Summary.{index_fault}
use Rattle.tables.proofs.FaultLaws.{if_true, if_false}
use Rattle.edits.proofs.edit.check_index.Goals as goal
use Rattle.edits.proofs.edit.check_index.Goals.{in-Move, in-Add, in-Remove}

pub returns-then-absent : goal.returns-then-absent
unfolding index_fault
returns-then-absent c =
    let e = c.if-absent.true in
    elim c.match-edit.branch [
      | in-Move w ↦ rw w.in-Move.is (if_true _ 7 0 (sym w.absent-is ∙ e))
      | in-Add w ↦ rw w.in-Add.is (if_true _ 7 0 (sym w.absent-is ∙ e))
      | in-Remove w ↦ rw w.in-Remove.is (if_true _ 7 0 (sym w.absent-is ∙ e))
    ]

pub returns : goal.returns
unfolding index_fault
returns c =
    let e = c.if-absent.false in
    elim c.match-edit.branch [
      | in-Move w ↦ rw w.in-Move.is (if_false _ 7 0 (sym w.absent-is ∙ e))
      | in-Add w ↦ rw w.in-Add.is (if_false _ 7 0 (sym w.absent-is ∙ e))
      | in-Remove w ↦ rw w.in-Remove.is (if_false _ 7 0 (sym w.absent-is ∙ e))
    ]
