use mathlib.Core.Path.{◌≡◌, refl, sym, ap, ◌∙◌}
use Prim.Native.Nat.{ℕ, ◌*◌}
use native.Mathlib.Omega.{arith}
use borrow.Author.Rules.{rules}
use lib.ListN.{take}
use lib.Seq.{length-take-le}
use Rattle.std.proofs.lemmas.List.{get_or-take}
use Rattle.records.specs.Numbers.{numbers_of}
use Rattle.records.proofs.NumberLaws.{none}
use Rattle.records.proofs.FlatLaws.{flat_more, enough_is}
use Rattle.records.proofs.AlikeLaws.{enough_alike}
use Rattle.records.proofs.flat.Flat.new.Goals as goal

pub loop-i-init : goal.loop-i-init
unfolding numbers_of
loop-i-init c = record { room = refl; so_far = refl }

pub loop-i-preserved : goal.loop-i-preserved
loop-i-preserved c =
    let l = c.loop-i in
    let n = length-take-le c.min-records.result c.args.tasks.now (omega arith) in
    record {
      room = search rules;
      so_far = rw (get_or-take c.min-records.result c.args.tasks.now l.i none (omega (arith, n)))
          (flat_more c.args.tasks.now l.i l.numbers (omega (arith, n)) (omega (arith, n, l.invariant.room)) l.invariant.so_far);
    }

pub returns : goal.returns
returns c =
    let l = c.loop-i in
    let n = c.min-records.result in
    let at : l.i ≡ n = omega (arith, length-take-le n c.args.tasks.now (omega arith)) in
    let front = ap (λ (k : ℕ). take (3 * k) l.numbers) (sym at) ∙ l.invariant.so_far ∙ ap (λ (k : ℕ). numbers_of (take k c.args.tasks.now)) at
    ∙ enough_is c.args.tasks.now n c.min-records.ensures in
    record { first = front; alike = rw front (enough_alike c.args.tasks.now) }
