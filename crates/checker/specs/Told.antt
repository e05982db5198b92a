-- What the code's types say, in the words of `scope`
use Rattle.std.specs.Prelude.{ℕ}
use Rattle.std.specs.declared.result.Result.{Result}
use Rattle.scope.specs.Answers.{Answer}
use Rattle.tables.specs.declared.answer.Refusal.{Refusal}
use Rattle.tables.specs.Told.{told}
use Rattle.checker.specs.declared.cycle.Cycle.{Cycle}

abbrev pub told_cycle : Result Cycle Refusal → Answer ℕ
told_cycle = told (λ (c : Cycle). c.ticks)
