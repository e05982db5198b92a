use mathlib.Core.Path.{ap}
use native.Mathlib.Omega.{arith}
use lib.ListN.{length, length-append}
use Rattle.print.proofs.TextLaws.{number_least}
use Rattle.print.proofs.write.put_counted.Goals as goal

pub put_numbers-requires : goal.put_numbers-requires
put_numbers-requires c = omega (arith, simp length-append at (ap length c.put_number.ensures), number_least c.args.count c.requires.0)

pub returns-clause-most : goal.returns-clause-most
returns-clause-most c = omega (arith, c.put_numbers.ensures.most, simp length-append at (ap length c.put_number.ensures), number_least c.args.count c.requires.0)
