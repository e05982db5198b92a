use mathlib.Core.Path.{ap}
use native.Mathlib.Omega.{arith}
use lib.ListN.{length, length-append}
use Rattle.print.proofs.TextLaws.{decimal_most}
use Rattle.print.proofs.line.put_part.Goals as goal

pub returns-clause-most : goal.returns-clause-most
returns-clause-most c = omega (arith, simp length-append at (ap length c.put.ensures), simp length-append at (ap length c.put_decimal.ensures), decimal_most c.args.n (omega arith))
