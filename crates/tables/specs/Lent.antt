-- Checked lists, as the code lends them on
use Rattle.std.specs.Prelude.{ℕ, List}
use Rattle.std.specs.declared.result.Result.{Result}
use Rattle.scope.specs.Windows.{framed}
use Rattle.scope.specs.Answers.{Answer, unless, table_fault, group_fault}
use Rattle.tables.specs.declared.answer.Refusal.{Refusal}
use Rattle.tables.specs.declared.table.Table.{Table}
use Rattle.tables.specs.declared.group.Group.{Group}
use Rattle.tables.specs.Told.{told}

-- a frame and windows in pairs
pub record Pairs : Type 0 where
  pub frame : ℕ
  pub windows : List ℕ

abbrev pub pairs_of : Table → Pairs
pairs_of t = record { frame = t.frame; windows = t.windows.now }

abbrev pub told_table : Result Table Refusal → Answer Pairs
told_table = told pairs_of

unfoldable pub table_answer : ℕ → List ℕ → Answer Pairs
table_answer P ws = unless (table_fault (framed P) ws) (record { frame = P; windows = ws })

abbrev pub told_group : Result Group Refusal → Answer (List ℕ)
told_group = told (λ (g : Group). g.tasks.now)

unfoldable pub group_answer : List ℕ → Answer (List ℕ)
group_answer ts = unless (group_fault ts) ts
