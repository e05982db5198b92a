use native.Mathlib.Nat.{pos_of_ne-zero}
use native.Mathlib.Omega.{arith}
use Rattle.machine.proofs.Sets.{trailing_lowest}
use Rattle.machine.proofs.Walk.{seen_task, seen_all}
use Rattle.machine.proofs.pending.Pending.earliest.Goals as goal

-- the candidate is the lowest of what is left
pub better-requires : goal.better-requires
better-requires c = (seen_task _ _ _ _ c.loop-rest.invariant, (trailing_lowest 32 _ (omega arith) (pos_of_ne-zero c.loop-rest-test.true)).0)

pub returns : goal.returns
returns c = seen_all _ _ _ _ c.loop-rest-test.false c.loop-rest.invariant
