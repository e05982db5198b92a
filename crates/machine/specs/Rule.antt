-- The rule of the machine, earliest deadline first, and the code's choice by it. Both enter here: the relation and its laws are over any rule, what a tick
-- does names the choice, and that the choice follows the rule is one law, `chosen_follows` (proofs/Pick).
use Rattle.std.specs.Prelude.{Bool, List, ℕ}
use Rattle.std.specs.declared.option.Option.{Option}
use Rattle.scope.specs.Limits.{most_tasks}
use Rattle.scope.specs.Tasks.{Task}
use Rattle.scope.specs.Jobs.{Job}
use Rattle.scope.specs.Machine.{edf}
use Rattle.machine.specs.declared.places.Place.{Place}
use Rattle.machine.specs.Bits.{mem, pick_to}
use Rattle.machine.specs.Places.{due_at}

abbrev pub rule : List Task → List Job → ℕ → ℕ → Bool
rule = edf

-- of the pending tasks the one with the earliest deadline, ties to the lower; or none
abbrev pub choice : ℕ → List Place → Option ℕ
choice pending places = pick_to (mem pending) (due_at places) most_tasks
