-- Two answers of which the promises say the same are equal
use Rattle.std.specs.Prelude.{ℕ, ◌≡◌, refl}
use Rattle.std.specs.declared.result.Result.{Result}
use Rattle.std.specs.declared.result.Result.TheVariants.{Ok, Err}
use Rattle.scope.specs.Plan.{Read, Read.read, Read.bad}
use Rattle.tables.specs.Determined.{undone}
use Rattle.plan.specs.declared.number.Number.{Number}
use Rattle.plan.specs.declared.number.Damaged.{Damaged}
use Rattle.plan.specs.Told.{told_number}

abbrev number_from : Read ℕ → Result Number Damaged
number_from (read value next) = Ok (record { value = value; next = next })
number_from (bad offset) = Err (record { at = offset })

pub number_determined : (a b : Result Number Damaged) → told_number a ≡ told_number b → a ≡ b
number_determined = undone told_number number_from back
  where
    back : (a : Result Number Damaged) → number_from (told_number a) ≡ a
    back (Ok n) = refl
    back (Err d) = refl
