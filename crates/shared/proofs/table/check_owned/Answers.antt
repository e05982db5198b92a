use mathlib.Core.Bool.{true, false}
use mathlib.Core.Path.{◌≡◌}
use Prim.Native.Nat.{ℕ, ◌/◌, ◌≤◌, ◌<◌}
use lib.ListN.{length}
use native.Mathlib.Omega.{arith}
use Rattle.std.proofs.Common.{rules}
use Rattle.std.specs.declared.option.Option.TheVariants.{Some, None}
use Rattle.std.proofs.lemmas.Iterator.{first_from_Range}
use Rattle.scope.specs.Shared.{owned, owned_of, owned_legal, bad_owned, owned_fault}
use Rattle.theory.specs.Lists.{pieces_length}
use Rattle.tables.specs.Told.{board_of}
use Rattle.tables.proofs.FaultLaws.{breaks_at_lem, breaks_nowhere}
use Rattle.shared.proofs.table.check_owned.Goals as goal

pub returns-in-Some : goal.returns-in-Some
unfolding owned_fault bad_owned
returns-in-Some c =
    let a = c.args in
    let i = c.in-Some.i in
    let legal = owned_legal a.owners (board_of a.board) (owned_of a.windows.now) in
    let f : (0 ≤ i) × (i < length a.windows.now / 3) × (legal i ≡ false) × ((k : ℕ) → 0 ≤ k → k < i → legal k ≡ true) =
    first_from_Range (record { start = 0; end = length a.windows.now / 3 }) _ _ (Some i) (λ i. legal i ≡ false) (λ i. legal i ≡ true) c.in-Some.ensures.ran
    (λ x q k. search rules) (λ x q k. (search rules, search rules)) in
    breaks_at_lem 3 legal _ i (omega (arith, f, pieces_length _ 3 owned a.windows.now)) (λ k h. f.3 k (omega arith) h) f.2

pub returns-in-None : goal.returns-in-None
unfolding owned_fault bad_owned
returns-in-None c =
    let a = c.args in
    let legal = owned_legal a.owners (board_of a.board) (owned_of a.windows.now) in
    let f : (k : ℕ) → 0 ≤ k → k < length a.windows.now / 3 → legal k ≡ true =
    first_from_Range (record { start = 0; end = length a.windows.now / 3 }) _ _ None (λ i. legal i ≡ false) (λ i. legal i ≡ true) c.in-None.ensures.ran
    (λ x q k. search rules) (λ x q k. (search rules, search rules)) in
    breaks_nowhere 3 legal _ (λ k h. f k (omega arith) (omega (arith, pieces_length _ 3 owned a.windows.now)))
