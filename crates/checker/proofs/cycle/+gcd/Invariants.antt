use Rattle.checker.proofs.cycle.+gcd.Given as goal

-- the remainder falls
abbrev pub decreases-gcd : goal.decreases-gcd
decreases-gcd l = l.b
