-- Two answers of which the promises say the same are equal
use Rattle.std.specs.Prelude.{ℕ, ◌≡◌, refl}
use Rattle.std.specs.declared.result.Result.{Result}
use Rattle.scope.specs.Run as Runs
use Rattle.tables.specs.declared.answer.Refusal.{Refusal}
use Rattle.tables.specs.Determined.{told_determined}
use Rattle.machine.specs.declared.run.Ran.{Ran}
use Rattle.machine.specs.declared.run.Ran.TheVariants.{Met, Missed}
use Rattle.machine.specs.Told.{ran_of, told_ran}

abbrev ran_by : Runs.Outcome → ℕ → Ran
ran_by Runs.met b = Met b
ran_by (Runs.missed k j) b = Missed k j b

abbrev ran_from : Runs.Ran → Ran
ran_from r = ran_by r.outcome r.backlog

pub ran_determined : (a b : Result Ran Refusal) → told_ran a ≡ told_ran b → a ≡ b
ran_determined = told_determined ran_of ran_from back
  where
    back : (a : Ran) → ran_from (ran_of a) ≡ a
    back (Met b) = refl
    back (Missed k j b) = refl
