-- The printed line of W6's plan file, of what `check_plan` and `line` answer on it
use Rattle.std.specs.Prelude.{◌≡◌, List, ℕ, ◌≤◌, length, take}
use Rattle.std.proofs.Common.{◌∙◌, le-ltb}
use Rattle.scope.specs.Numbers.{written}
use Rattle.scope.specs.Answers.{room_fault}
use Rattle.scope.specs.Shared.{plan_answer}
use Rattle.scope.specs.Line.{bytes, line, line_answer, line_out}
use Rattle.scope.specs.Examples.{Reply.text, reply, table, examples, row}
use Rattle.theory.specs.Applied.{w6_file}
use Rattle.std.specs.declared.result.Result.{Result}
use Rattle.std.specs.declared.result.Result.TheVariants.{Ok}
use Rattle.tables.specs.declared.answer.Refusal.{Refusal}
use Rattle.tables.specs.declared.answer.Verdict.{Verdict}
use Rattle.tables.specs.Told.{told_amount, told_verdict}
use Rattle.tables.specs.Determined.{amount_determined}

abbrev printed : List ℕ
printed = bytes "MISS length 6 start 2 demand 3 supply 2\n"

-- a row of the table
w6_line : line (plan_answer 0 w6_file) ≡ printed
unfolding reply table
w6_line = let e : text (line (plan_answer 0 w6_file)) ≡ text printed = row table examples "W6, its line" in cc

pub w6_printed : (v : Result Verdict Refusal) → told_verdict v ≡ plan_answer 0 w6_file → (out left : List ℕ) (r : Result ℕ Refusal) → 40 ≤ length out →
    told_amount r ≡ line_answer (told_verdict v) (length out) → left ≡ line_out (told_verdict v) out →
    (r ≡ Ok 40) × (take 40 left ≡ printed)
unfolding line_answer line_out room_fault written
w6_printed v p out left r room told kept = (
  amount_determined r (Ok 40) (told ∙ rw (p, w6_line, le-ltb (length out) 40 room)),
  rw (kept, p, w6_line, le-ltb (length out) 40 room),
)
