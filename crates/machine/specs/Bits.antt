-- A set of tasks as the bits of a number
use Rattle.std.specs.Prelude.{ℕ, zero, suc, ◌/◌, ◌%◌, ◌^◌, ◌<◌, Bool, cond, eqb, ltb}
use Rattle.std.specs.Int.Bits.{bit_and, bit_or, bit_xor}
use Rattle.std.specs.declared.option.Option.{Option}
use Rattle.std.specs.declared.option.Option.TheVariants.{Some, None}
use Rattle.scope.specs.Limits.{most_tasks}
use Rattle.scope.specs.Numbers.{bit, sum}

-- the digit at i: 0 or 1
unfoldable pub digit : ℕ → ℕ → ℕ
digit x i = x / 2 ^ i % 2

unfoldable pub mem : ℕ → ℕ → Bool
mem x i = eqb (digit x i) 1

unfoldable pub added : ℕ → ℕ → ℕ
added x i = bit_or x (2 ^ i)

unfoldable pub removed : ℕ → ℕ → ℕ
removed x i = bit_xor x (bit_and x (2 ^ i))

-- how many members there are
abbrev pub members : ℕ → ℕ
members x = sum (λ i. bit (mem x i)) most_tasks

-- it is a task, if it is one
abbrev pub IsTask : Option ℕ → Type 0
IsTask None = Unit {0}
IsTask (Some i) = i < most_tasks

-- the better of the best so far, if there is one, and the candidate n: the one with the lesser due number, the best so far on a tie
unfoldable pub better_of : (ℕ → ℕ) → Option ℕ → ℕ → ℕ
better_of due None n = n
better_of due (Some b) n = cond (ltb (due n) (due b)) n b

-- the best of the numbers below n that pass the test; or none
unfoldable pub pick_to : (ℕ → Bool) → (ℕ → ℕ) → ℕ → Option ℕ
pick_to q due zero = None
pick_to q due (suc n) = cond (q n) (Some (better_of due (pick_to q due n) n)) (pick_to q due n)
