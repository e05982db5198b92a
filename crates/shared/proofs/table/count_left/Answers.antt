use mathlib.Core.Path.{ap, ◌∙◌}
use Prim.Native.Nat.{ℕ, ◌*◌, ◌/◌}
use lib.ListN.{length}
use native.Mathlib.Omega.{arith}
use Rattle.std.proofs.Common.{rules, tests}
use Rattle.std.proofs.lemmas.Iterator.{YieldsList-from_range}
use Rattle.std.proofs.lemmas.Iterator.Consumers.{YieldsList-from_filter, count_from_yields_List}
use Rattle.scope.specs.Shared.{owned, owned_of, owned_at}
use Rattle.theory.specs.Lists.{pieces_length}
use Rattle.tables.specs.Told.{board_of}
use Rattle.shared.proofs.SharedLaws.{is_left, gathers_left, left_hit, left_miss, count_read}
use Rattle.shared.proofs.table.count_left.Goals as goal

pub returns : goal.returns
returns c =
    let a = c.args in
    let b = board_of a.board in
    let ws = owned_of a.windows.now in
    let n = pieces_length _ 3 owned a.windows.now in
    let left = λ (i : ℕ). is_left b (owned_at ws i) in
    ap (λ (k : ℕ). 2 * k) (count_from_yields_List c.filter-left.result _ c.count.ensures.ran
    (YieldsList-from_filter _ left (YieldsList-from_range 0 (length a.windows.now / 3) (length ws) c.filter-left.ensures.source (omega (arith, n))) c.filter-left.ensures.closure (λ x r q k. search (rules, tests))))
    ∙ count_read _ (gathers_left b) (is_left b) (λ w e. ap length (left_hit b w e)) (λ w e. ap length (left_miss b w e)) ws
