-- Two groups as numbers that every entry answers alike: equal, or both refused with 4, which comes after the table's checks and before all that reads a task
use Rattle.std.specs.Prelude.{ℕ, List, ◌≡◌, ◌⊎◌}
use Rattle.scope.specs.Answers.{Fault.fault, group_fault}

abbrev pub Alike : List ℕ → List ℕ → Type 0
Alike ts ts' = (ts ≡ ts') ⊎ ((group_fault ts ≡ fault 4 0) × (group_fault ts' ≡ fault 4 0))
