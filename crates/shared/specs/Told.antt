-- What the code's types say, in the words of `scope`
use Rattle.std.specs.declared.result.Result.{Result}
use Rattle.scope.specs.Shared as Shared
use Rattle.scope.specs.Answers.{Answer}
use Rattle.tables.specs.declared.answer.Refusal.{Refusal}
use Rattle.tables.specs.Told.{window_of, told}
use Rattle.shared.specs.declared.table.Owned as owned

abbrev pub owned_by : owned.Owned → Shared.Owned
owned_by w = record { window = window_of w.window; owner = w.owner }

abbrev pub told_owned : Result owned.Owned Refusal → Answer Shared.Owned
told_owned = told owned_by
