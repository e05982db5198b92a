use mathlib.Core.Path.{refl, ap, ◌∙◌}
use Prim.Native.Nat.{ℕ, ◌/◌}
use native.Mathlib.Omega.{arith}
use lib.Dec.{eqb}
use lib.ListN.{length}
use borrow.Author.Tests.{eqb-true, eqb-false}
use Rattle.std.proofs.Common.{rules, tests}
use Rattle.std.proofs.lemmas.Iterator.{YieldsList-from_range}
use Rattle.std.proofs.lemmas.Iterator.Search.{any_from_yields_List}
use Rattle.scope.specs.Shared.{Owned, owned, owned_of, owned_at}
use Rattle.theory.specs.Lists.{pieces_length}
use Rattle.shared.proofs.SharedLaws.{gathers_own, own_hit, own_miss, any_read}
use Rattle.shared.proofs.table.any_own.Goals as goal

pub returns : goal.returns
returns c =
    let a = c.args in
    let o = a.board.owner in
    let ws = owned_of a.windows.now in
    let mine = λ (w : Owned). eqb w.owner o in
    let read = λ (i : ℕ). mine (owned_at ws i) in
    any_from_yields_List read _ _ _ c.any.ensures.ran (YieldsList-from_range 0 (length a.windows.now / 3) (length ws) refl (omega (arith, pieces_length _ 3 owned a.windows.now))) (λ x r q k. search (rules, tests))
    ∙ any_read _ (gathers_own o) mine (λ w e. ap length (own_hit o w (eqb-true _ o e))) (λ w e. ap length (own_miss o w (eqb-false _ o e))) ws
