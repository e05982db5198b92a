use mathlib.Core.Bool.{true, false}
use mathlib.Core.Path.{◌≡◌}
use Prim.Native.Nat.{ℕ, ◌/◌, ◌≤◌, ◌<◌}
use lib.ListN.{length}
use native.Mathlib.Omega.{arith}
use Rattle.std.proofs.Common.{rules}
use Rattle.std.specs.declared.option.Option.TheVariants.{Some, None}
use Rattle.std.proofs.lemmas.Iterator.{first_from_Range}
use Rattle.scope.specs.Shared.{owned, owned_of, owned_at, sliver, first_sliver}
use Rattle.theory.specs.Lists.{pieces_length}
use Rattle.tables.specs.Told.{board_of}
use Rattle.tables.proofs.FaultLaws.{found_at, found_nowhere}
use Rattle.shared.proofs.table.first_sliver.Goals as goal

pub returns-in-Some : goal.returns-in-Some
unfolding first_sliver
returns-in-Some c =
    let a = c.args in
    let short = λ (i : ℕ). sliver (board_of a.board) (owned_at (owned_of a.windows.now) i) in
    let f : (0 ≤ c.in-Some.i) × (c.in-Some.i < length a.windows.now / 3) × (short c.in-Some.i ≡ true) × ((k : ℕ) → 0 ≤ k → k < c.in-Some.i → short k ≡ false) = first_from_Range (record { start = 0; end = length a.windows.now / 3 }) _ _ (Some c.in-Some.i) (λ i. short i ≡ true) (λ i. short i ≡ false) c.in-Some.ensures.ran (λ x q k. search rules) (λ x q k. (search rules, search rules)) in
    found_at 12 short _ c.in-Some.i (omega (arith, f, pieces_length _ 3 owned a.windows.now)) (λ k h. f.3 k (omega arith) h) f.2

pub returns-in-None : goal.returns-in-None
unfolding first_sliver
returns-in-None c =
    let a = c.args in
    let short = λ (i : ℕ). sliver (board_of a.board) (owned_at (owned_of a.windows.now) i) in
    let f : (k : ℕ) → 0 ≤ k → k < length a.windows.now / 3 → short k ≡ false = first_from_Range (record { start = 0; end = length a.windows.now / 3 }) _ _ None (λ i. short i ≡ true) (λ i. short i ≡ false) c.in-None.ensures.ran (λ x q k. search rules) (λ x q k. (search rules, search rules)) in
    found_nowhere 12 short _ (λ k h. f k (omega arith) (omega (arith, pieces_length _ 3 owned a.windows.now)))
