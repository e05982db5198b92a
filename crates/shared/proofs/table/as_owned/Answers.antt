use mathlib.Core.Path.{◌≡◌, sym, ◌∙◌}
use Prim.Native.Nat.{ℕ, ◌+◌, ◌*◌, ◌/◌, ◌%◌}
use native.Mathlib.Omega.{arith}
use mathlib.Core.List.{List}
use lib.ListN.{length}
use Rattle.scope.specs.Shared.{as_owned, as_owned_answer, as_owned_out}
use Rattle.theory.specs.Answers.{room_fine}
use Rattle.theory.specs.Alone.{owned_length}
use Rattle.tables.proofs.FaultLaws.{refused_there, given_there, kept_there, written_there}
use Rattle.shared.proofs.table.as_owned.Goals as goal

-- the count is that of the threes
counted : (o : ℕ) (ws : List ℕ) → length ws / 2 * 3 + length ws % 2 ≡ length (as_owned o ws)
counted o ws = omega (arith, owned_length o ws)

pub returns-in_err-check_room : goal.returns-in_err-check_room
unfolding as_owned_answer as_owned_out
returns-in_err-check_room c =
    let n = counted c.args.owner c.args.windows.now in
    rw (← n) (record { answer = grind (arith, refused_there, c.in_err-check_room.ensures); buffer = kept_there _ _ c.in_err-check_room.ensures })

pub write_owned-requires : goal.write_owned-requires
write_owned-requires c =
    let a = c.args in
    omega (arith, counted a.owner a.windows.now, room_fine _ _ (sym c.in_ok-check_room.ensures))

pub returns : goal.returns
unfolding as_owned_answer as_owned_out
returns c =
    let n = counted c.args.owner c.args.windows.now in
    rw (← n) (record { answer = given_there _ c.in_ok-check_room.ensures; buffer = c.write_owned.ensures ∙ written_there _ _ c.in_ok-check_room.ensures })
