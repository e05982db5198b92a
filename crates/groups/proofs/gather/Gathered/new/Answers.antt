use mathlib.Core.Path.{◌≡◌, sym, ap, ◌∙◌}
use Prim.Native.Nat.{ℕ}
use native.Mathlib.Omega.{arith}
use borrow.Author.Rules.{rules}
use lib.ListN.{take}
use Rattle.groups.specs.Records.{records_of, made_records}
use Rattle.groups.proofs.RecordLaws.{record_more, lent_alike, lent_within}
use Rattle.groups.proofs.gather.Gathered.new.Goals as goal

pub loop-i-preserved : goal.loop-i-preserved
loop-i-preserved c =
    let ns = c.args.numbers.now in
    let l = c.loop-i in
    let n : c.min-made.result ≡ made_records ns = c.min-made.ensures in
    record {
      room = search rules;
      made = record_more ns l.tasks l.i c.task_at.result (omega arith) (omega (arith, l.invariant.room)) c.task_at.ensures l.invariant.made;
    }

pub invariant_of-result : goal.invariant_of-result
invariant_of-result c = record { within = lent_within _ _ c.lent.ensures }

pub returns-clause-alike : goal.returns-clause-alike
returns-clause-alike c =
    let ns = c.args.numbers.now in
    let l = c.loop-i in
    let n : c.min-made.result ≡ made_records ns = c.min-made.ensures in
    let i : l.i ≡ made_records ns = omega arith in
    let made = ap (λ (k : ℕ). take k l.tasks) (sym i) ∙ l.invariant.made ∙ ap (λ (k : ℕ). take k (records_of ns)) i in
    lent_alike ns l.tasks c.lent.result (l.invariant.room, made) c.lent.ensures
