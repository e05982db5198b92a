use Prim.Native.Nat.{◌*◌, ◌^◌, ◌≤◌}
use native.Mathlib.Omega.{arith}
use native.Mathlib.Nat.{mul-le-mul, div-le_self}
use Rattle.scope.specs.Limits.{most_length}
use Rattle.summaries.proofs.least.sum_from.Goals as goal

-- what whole frames have
product : (c : goal.After-from-2) → c.from.result * c.from-2.result ≤ most_length * 2 ^ 32
product c =
    let frames : c.from.result ≤ most_length = omega (arith, div-le_self c.args.length c.args.frame) in
    let whole : c.from-2.result ≤ 2 ^ 32 = omega arith in
    mul-le-mul frames whole

pub overflow_mul-result : goal.overflow_mul-result
overflow_mul-result c = record { fits = omega (arith, product c) }

pub overflow_add-result : goal.overflow_add-result
overflow_add-result c = record { fits = omega (arith, product c) }
