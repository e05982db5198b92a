-- A group that was checked
use mathlib.Core.Path.{◌≡◌, sym}
use mathlib.Core.List.{List}
use Prim.Native.Nat.{ℕ}
use Rattle.scope.specs.Answers.{Fault.fine, Fault.fault, Answer.given, Answer.refused, group_fault}
use Rattle.theory.specs.Answers.{unless_given}
use Rattle.tables.specs.Lent.{group_answer}
use Rattle.tables.proofs.FaultLaws.{fault_of_lem, none_of}

module _ (ts : List ℕ) where
  -- tasks that are no group are at fault, and a group is these tasks without one
  pub no_group : {n p : ℕ} → refused n p ≡ group_answer ts → fault n p ≡ group_fault ts
  unfolding group_answer
  no_group e = fault_of_lem (group_fault ts) ts e

  module _ {g : List ℕ} (e : given g ≡ group_answer ts) where
    pub group_fine : fine ≡ group_fault ts
    unfolding group_answer
    group_fine = none_of (group_fault ts) ts g e

    pub group_same : ts ≡ g
    unfolding group_answer
    group_same = (unless_given (group_fault ts) ts g (sym e)).1

pub ruleset grouped = (no_group, group_fine, group_same)
