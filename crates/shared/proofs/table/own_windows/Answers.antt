use mathlib.Core.Path.{sym, ap, ◌∙◌}
use Prim.Native.Nat.{◌≤◌}
use lib.ListN.{length, drop, length-append}
use Rattle.scope.specs.Numbers.{written}
use Rattle.scope.specs.Answers.{Answer.given}
use native.Mathlib.Omega.{arith}
use Rattle.theory.specs.Answers.{room_fine, fine_room}
use Rattle.theory.specs.Lists.{pieces_length}
use Rattle.scope.specs.Shared.{owned, owned_of, own_left, own_answer, own_out, own_fault}
use Rattle.theory.specs.Shared.{for_few}
use Rattle.tables.specs.Told.{board_of}
use Rattle.tables.proofs.FaultLaws.{passed, given_there, written_there}
use Rattle.shared.proofs.SharedLaws.{left_fewer}
use Rattle.shared.proofs.table.own_windows.Goals.{then-out-windows+in_ok-check_room, else-out-windows}
use Rattle.shared.proofs.table.own_windows.Goals as goal

-- there is room for what is left, whether it was counted or not
pub gather-requires : goal.gather-requires
gather-requires c =
    let a = c.args in
    elim c.if-out-windows.branch [
      | then-out-windows+in_ok-check_room w ↦ omega (arith, w.count_left.ensures, room_fine _ _ (sym w.in_ok-check_room.ensures))
      | else-out-windows w ↦ omega (
        arith,
        left_fewer (board_of a.board) a.windows.now,
        for_few a.board.owner (owned_of a.windows.now),
        pieces_length _ 3 owned a.windows.now,
        w.if-out-windows.false,
      )
    ]

pub returns : goal.returns
unfolding own_answer own_out own_fault written
returns c =
    let left = own_left (board_of c.args.board) c.args.windows.now in
    let roomy : length left ≤ length c.args.out.now = omega (arith, ap length c.gather.ensures.buffer, length-append left (drop (length left) c.args.out.now)) in
    let f = passed c.in_ok-check_shared.ensures (sym (fine_room _ _ roomy)) in
    record { answer = ap given c.gather.ensures.answer ∙ given_there _ f; buffer = c.gather.ensures.buffer ∙ written_there _ _ f }
