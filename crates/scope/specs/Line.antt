-- Document 01, "The plan file and its line": the printed line, as bytes.
use Rattle.std.specs.Prelude.{ℕ, zero, suc, ◌+◌, ◌/◌, ◌%◌, cond, List, [], ◌∷◌, ◌++◌, ltb, length}
use Prim.Native.Char.{code}
use Prim.Native.String.{String, [] as ε, ◌∷◌ as ◌◂◌}
use Rattle.scope.specs.Numbers.{written}
use Rattle.scope.specs.Verdict.{Verdict, Verdict.meets, Verdict.miss}
use Rattle.scope.specs.Answers.{Answer, Answer.given, Answer.refused, unless, unless_kept, room_fault}

-- the bytes of a text in ASCII
abbrev pub bytes : String → List ℕ
bytes ε = []
bytes (c ◂ s) = code c ∷ bytes s

-- the digit below 10
abbrev pub digit : ℕ → ℕ
digit n = code "0" + n

-- plain decimals, at most f + 1 of them
unfoldable pub decimal_within : ℕ → ℕ → List ℕ
decimal_within zero n = digit n ∷ []
decimal_within (suc f) n = cond (ltb n 10) (digit n ∷ []) (decimal_within f (n / 10) ++ (digit (n % 10) ∷ []))

-- a number in plain decimals: a tenth of it has one digit fewer, so n steps are enough
unfoldable pub decimal : ℕ → List ℕ
decimal n = decimal_within n n

unfoldable pub line : Answer Verdict → List ℕ
line (given (meets h)) = bytes "MEETS cycle " ++ decimal h ++ bytes "\n"
line (given (miss t s d p)) =
    bytes "MISS length " ++ decimal t ++ bytes " start " ++ decimal s ++ bytes " demand " ++ decimal d ++ bytes " supply " ++ decimal p ++ bytes "\n"
line (refused number place) = bytes "REFUSED " ++ decimal number ++ bytes " at " ++ decimal place ++ bytes "\n"

-- ---- the line in a lent buffer: how many bytes, or 8 with the bytes needed

unfoldable pub line_answer : Answer Verdict → ℕ → Answer ℕ
line_answer a room = unless (room_fault (length (line a)) room) (length (line a))

unfoldable pub line_out : Answer Verdict → List ℕ → List ℕ
line_out a out = unless_kept (room_fault (length (line a)) (length out)) (written (line a) out) out
