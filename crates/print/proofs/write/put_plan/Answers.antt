use mathlib.Core.Path.{ap}
use native.Mathlib.Omega.{arith}
use lib.ListN.{length, length-append}
use Rattle.print.proofs.TextLaws.{number_most}
use Rattle.print.proofs.write.put_plan.Goals as goal

pub put_counted-requires : goal.put_counted-requires
put_counted-requires c =
    (omega (arith, c.requires), omega (arith, c.requires, ap length c.requires.1, c.put_numbers.ensures.most, simp length-append at (ap length c.put_number.ensures), number_most c.args.frame (omega arith)))

pub put_counted-requires-2 : goal.put_counted-requires-2
put_counted-requires-2 c =
    (omega (arith, c.requires), omega (arith, c.requires, ap length c.requires.1, c.put_numbers.ensures.most, c.put_counted.ensures.most, simp length-append at (ap length c.put_number.ensures), number_most c.args.frame (omega arith)))
