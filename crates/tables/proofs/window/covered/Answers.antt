use mathlib.Core.Path.{refl, ◌∙◌}
use Prim.Native.Nat.{ℕ, ◌/◌}
use native.Mathlib.Omega.{arith}
use lib.ListN.{length}
use Rattle.std.proofs.Common.{rules, tests}
use Rattle.std.proofs.lemmas.Iterator.{YieldsList-from_range}
use Rattle.std.proofs.lemmas.Iterator.Search.{any_from_yields_List}
use Rattle.scope.specs.Windows.{window, windows_of, window_at, gives}
use Rattle.theory.specs.Lists.{pieces_length}
use Rattle.tables.proofs.WindowLaws.{covers_read}
use Rattle.tables.proofs.window.covered.Goals as goal

pub returns : goal.returns
returns c =
    let a = c.args in
    let ws = windows_of a.windows.now in
    let read = λ (i : ℕ). gives 0 (window_at ws i) a.k in
    any_from_yields_List read _ _ _ c.any.ensures.ran (YieldsList-from_range 0 (length a.windows.now / 2) (length ws) refl (omega (arith, pieces_length _ 2 window a.windows.now))) (λ x r q k. search (rules, tests))
    ∙ covers_read 0 ws a.k
