use native.Mathlib.Omega.{arith}
use Rattle.supply.proofs.WalkLaws.{low_none}
use Rattle.supply.proofs.walk.Pieces.new.Goals as goal

pub invariant_of-result : goal.invariant_of-result
invariant_of-result c = record { low = (omega arith, low_none c.args.table) }
