use mathlib.Core.Path.{◌≡◌, sym, ◌∙◌}
use native.Mathlib.Omega.{arith}
use Prim.Native.Nat.{◌+◌, ◌≤◌}
use lib.ListN.{length}
use Rattle.scope.specs.Windows.{framed}
use Rattle.scope.specs.Summary.{summary_of, make_fault, make_out}
use Rattle.theory.specs.Answers.{room_fine}
use Rattle.tables.proofs.FaultLaws.{passed, written_there}
use Rattle.supply.proofs.TableLaws.{table_fine}
use Rattle.supply.proofs.SummaryLaws.{made, summary_numbers}
use Rattle.supply.proofs.summary.make_of.Goals as goal

pub returns-clause-buffer : goal.returns-clause-buffer
unfolding make_fault make_out
returns-clause-buffer c =
    let a = c.args in
    let so = c.measured-measure.ensures in
    let needed : c.measured-measure.result.numbers + 3 ≡ length (summary_of (framed a.table.frame) a.table.windows.now) =
    omega (arith, so.numbers, summary_numbers (framed a.table.frame) a.table.windows.now) in
    let room = c.in_ok-check_room.ensures in
    let h : 3 ≤ length a.out.now = omega (arith, room_fine _ _ (sym room)) in
    rw (c.write_edges.ensures, c.split_at_mut-head.ensures.back)
    (made so a.out.now h c.copy_from_slice.ensures.after ∙ written_there _ _ (passed (table_fine _ _ a.table.legal) (rw needed at room)))
