-- A trace's completions against those that a run's counts tell
use Rattle.std.specs.Prelude.{ℕ, zero, suc, Bool, true, false, cond, ◌&&◌, List, [], ◌∷◌, length, ◌==◌, nat_le}
use Rattle.std.proofs.Math.Option.{Option, none, some}
use Rattle.scope.specs.Jobs.{Job, task_of}
use Rattle.scope.specs.Run as Runs
use Rattle.scope.specs.Trace.{Completion, completion, completions}
use Rattle.scope.specs.Replay.{Difference, first_difference}
use Rattle.std.specs.declared.option.Option as compared
use Rattle.replay.specs.declared.compare.Difference as difference
use Rattle.replay.specs.Rebuilt.{records_of}
use Rattle.replay.specs.Ending.{finish, next_end, told_seen}

-- the completion that was found and those after it
abbrev pub and_endings : List Job → List ℕ → Option ℕ → (ℕ → List Completion) → List Completion
and_endings js counts none more = []
and_endings js counts (some j) more = completion (finish js counts j) (task_of js j) ∷ more (finish js counts j)

-- the completions after an instant and no later than another, at most so many of them
unfoldable pub endings_from : List Job → List ℕ → ℕ → ℕ → ℕ → List Completion
endings_from js counts last zero after = []
endings_from js counts last (suc fuel) after = and_endings js counts (next_end js counts after last (length js)) (endings_from js counts last fuel)

-- each is later than the one before, so there are no more of them than instants
unfoldable pub compared_from : List ℕ → List Job → List ℕ → ℕ → Option Difference
compared_from bytes js counts last = first_difference (completions (records_of bytes)) (endings_from js counts last last 0)

abbrev pub told_compared : compared.Option difference.Difference → Option Difference
told_compared compared.TheVariants.None = none
told_compared (compared.TheVariants.Some d) = some (record { trace = told_seen d.trace; machine = told_seen d.machine })

abbrev pub same : Option Completion → Option Completion → Bool
same none none = true
same none (some m) = false
same (some c) none = false
same (some c) (some m) = c.instant == m.instant && c.task == m.task

-- a completion of the trace against the machine's next one
unfoldable pub differ_in : Option Completion → Option Completion → Option Difference
differ_in c m = cond (same c m) none (some (record { trace = c; machine = m }))

-- a miss up to the last instant
abbrev pub up_to : ℕ → Runs.Outcome → Runs.Outcome
up_to last Runs.met = Runs.met
up_to last (Runs.missed k j) = cond (nat_le k last) (Runs.missed k j) Runs.met
