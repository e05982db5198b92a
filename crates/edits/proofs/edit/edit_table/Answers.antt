use mathlib.Core.Path.{◌∙◌}
use native.Mathlib.Omega.{arith}
use Rattle.edits.proofs.EditLaws.{ready_list, edit_answer_lem, edit_windows_lem, edit_summary_lem}
use Rattle.edits.proofs.edit.edit_table.Goals as goal

pub edited-new-requires : goal.edited-new-requires
edited-new-requires c = let k = ready_list _ _ _ _ _ c.in_ok-check_ready.ensures in (k.0, k.1, omega (arith, k.2))

pub returns : goal.returns
returns c =
    let is = c.edited-new.ensures in
    let h = c.if-windows-here.false in
    let e = c.in_ok-check_ready.ensures in
    let s = c.store.ensures in record {
      answer = (rw is at s.answer) ∙ edit_answer_lem _ _ _ _ _ _ h e;
      list = (rw is at s.list) ∙ edit_windows_lem _ _ _ _ _ _ h e;
      held = (rw is at s.held) ∙ edit_summary_lem _ _ _ _ _ _ h e;
    }
