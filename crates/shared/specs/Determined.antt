-- Two answers of which the promises say the same are equal
use Rattle.std.specs.Prelude.{◌≡◌, refl}
use Rattle.std.specs.declared.result.Result.{Result}
use Rattle.scope.specs.Shared as Shared
use Rattle.tables.specs.declared.answer.Refusal.{Refusal}
use Rattle.tables.specs.Determined.{undone, told_determined}
use Rattle.shared.specs.declared.table.Owned as owned
use Rattle.shared.specs.Told.{owned_by, told_owned}

abbrev owned_from : Shared.Owned → owned.Owned
owned_from w = record { window = record { start = w.window.start; end = w.window.end }; owner = w.owner }

pub owned_determined : (a b : owned.Owned) → owned_by a ≡ owned_by b → a ≡ b
owned_determined = undone owned_by owned_from (λ a. refl)

pub made_owned_determined : (a b : Result owned.Owned Refusal) → told_owned a ≡ told_owned b → a ≡ b
made_owned_determined = told_determined owned_by owned_from (λ w. refl)
