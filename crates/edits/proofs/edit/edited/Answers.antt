use native.Mathlib.Omega.{arith}
use Rattle.theory.specs.Edits.{index_allowed}
use Rattle.edits.proofs.edit.edited.Goals as goal

pub bounds-list-i : goal.bounds-list-i
bounds-list-i c = let f = rw c.in-Move.is at c.requires.0 in omega (arith, index_allowed _ _ f)

pub splice-requires : goal.splice-requires
splice-requires c = let f = rw c.in-Move.is at c.requires.0 in omega (arith, index_allowed _ _ f)

pub splice-requires-in-Add : goal.splice-requires-in-Add
splice-requires-in-Add c = let f = rw c.in-Add.is at c.requires.0 in omega (arith, index_allowed _ _ f)

pub splice-requires-in-Remove : goal.splice-requires-in-Remove
splice-requires-in-Remove c = let f = rw c.in-Remove.is at c.requires.0 in omega (arith, index_allowed _ _ f)
