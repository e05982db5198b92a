-- What the code's types say, in the words of `scope`
use Rattle.std.specs.Prelude.{ℕ, List}
use Rattle.std.specs.declared.result.Result.{Result}
use Rattle.std.specs.declared.result.Result.TheVariants.{Ok, Err}
use Rattle.scope.specs.Answers.{Answer}
use Rattle.scope.specs.Plan.{Read, Read.read, Read.bad, Plan, Listed}
use Rattle.tables.specs.declared.answer.Refusal.{Refusal}
use Rattle.tables.specs.Told.{told}
use Rattle.plan.specs.declared.check.Form.{Form}
use Rattle.plan.specs.declared.check.Form.TheVariants.{Plain, WithShortest, WithRule}
use Rattle.plan.specs.declared.number.Number.{Number}
use Rattle.plan.specs.declared.number.Damaged.{Damaged}
use Rattle.plan.specs.declared.read.Listed as listed
use Rattle.plan.specs.declared.read.ReadPlan as readPlan

abbrev pub told_number : Result Number Damaged → Read ℕ
told_number (Ok n) = read n.value n.next
told_number (Err d) = bad d.at

-- ---- numbers that fill a buffer l, and the offset after them

abbrev pub told_filled : Result ℕ Damaged → List ℕ → Read (List ℕ)
told_filled (Ok next) l = read l next
told_filled (Err d) l = bad d.at

-- ---- a list with its count, and a plan

abbrev pub listed_of : listed.Listed → Listed
listed_of l = record { numbers = l.numbers.now; next = l.next }

abbrev pub told_listed : Result listed.Listed Refusal → Answer Listed
told_listed = told listed_of

abbrev pub plan_of_read : readPlan.ReadPlan → Plan
plan_of_read p = record { settings = p.settings.now; frame = p.frame; windows = p.windows.now; tasks = p.tasks.now }

abbrev pub told_plan : Result readPlan.ReadPlan Refusal → Answer Plan
told_plan = told plan_of_read

-- ---- how many settings stand before P

abbrev pub settings_of : Form → ℕ
settings_of Plain = 0
settings_of WithShortest = 1
settings_of WithRule = 3
