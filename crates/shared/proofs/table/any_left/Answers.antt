use mathlib.Core.Path.{refl, ap, ◌∙◌}
use Prim.Native.Nat.{ℕ, ◌/◌}
use native.Mathlib.Omega.{arith}
use lib.ListN.{length}
use Rattle.std.proofs.Common.{rules, tests}
use Rattle.std.proofs.lemmas.Iterator.{YieldsList-from_range}
use Rattle.std.proofs.lemmas.Iterator.Search.{any_from_yields_List}
use Rattle.scope.specs.Shared.{owned, owned_of, owned_at}
use Rattle.theory.specs.Lists.{pieces_length}
use Rattle.tables.specs.Told.{board_of}
use Rattle.shared.proofs.SharedLaws.{is_left, gathers_left, left_hit, left_miss, any_read}
use Rattle.shared.proofs.table.any_left.Goals as goal

pub returns : goal.returns
returns c =
    let a = c.args in
    let b = board_of a.board in
    let ws = owned_of a.windows.now in
    let left = λ (i : ℕ). is_left b (owned_at ws i) in
    any_from_yields_List left _ _ _ c.any.ensures.ran (YieldsList-from_range 0 (length a.windows.now / 3) (length ws) refl (omega (arith, pieces_length _ 3 owned a.windows.now))) (λ x r q k. search (rules, tests))
    ∙ any_read _ (gathers_left b) (is_left b) (λ w e. ap length (left_hit b w e)) (λ w e. ap length (left_miss b w e)) ws
