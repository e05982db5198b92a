-- Document 01, "Tables and sizes": the cycle H, the least common multiple of the frame and all periods.
use Rattle.std.specs.Prelude.{ℕ, zero, suc, ◌*◌, ◌/◌, ◌%◌, List, [], ◌∷◌}
use Rattle.scope.specs.Tasks.{Task}

-- Euclid's remainders, at most n of them
unfoldable pub gcd_within : ℕ → ℕ → ℕ → ℕ
gcd_within zero a b = a
gcd_within (suc n) a zero = a
gcd_within (suc n) a (suc b) = gcd_within n (suc b) (a % suc b)

-- the greatest common divisor: the remainder falls, so b steps are enough
unfoldable pub gcd : ℕ → ℕ → ℕ
gcd a b = gcd_within b a b

-- the least common multiple
unfoldable pub lcm : ℕ → ℕ → ℕ
lcm a b = a / gcd a b * b

-- the cycle of the frame P and a group; with no tasks it is P
unfoldable pub cycle : ℕ → List Task → ℕ
cycle P [] = P
cycle P (x ∷ ts) = cycle (lcm P x.T) ts
