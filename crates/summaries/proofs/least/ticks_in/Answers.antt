use mathlib.Core.Path.{◌≡◌}
use Prim.Native.Nat.{ℕ}
use native.Mathlib.Omega.{arith}
use Rattle.std.proofs.lemmas.List.{take_min, take_rest, length-take}
use Rattle.scope.specs.Summary.{windows_in, ticks_before}
use Rattle.summaries.proofs.LeastLaws.{ticks_small}
use Rattle.summaries.proofs.least.ticks_in.Goals as goal

pub returns : goal.returns
returns c =
    let a = c.args in
    let told : c.ticks_before.result ≡ ticks_before (windows_in a.summary.now) a.r = rw (c.min.ensures, take_min, take_rest) at c.ticks_before.ensures in
    (told, omega (arith, told, c.type_inv.summary 2, ticks_small, length-take {A = ℕ}))
