-- What a summary's numbers answer, whatever they are
use Rattle.std.specs.Prelude.{ℕ, ◌*◌, ◌^◌, List}
use Rattle.scope.specs.Limits.{most_frame}
use Rattle.scope.specs.Windows.{Board}
use Rattle.scope.specs.Answers.{Answer, ◌or_else◌, unless, frame_fault, length_fault}
use Rattle.scope.specs.Summary.{least_from}

-- the number of windows has 32 bits, and each window has at most a frame's ticks
abbrev pub most_ticks : ℕ
most_ticks = 2 ^ 32 * most_frame

unfoldable pub from_answer : Board → List ℕ → ℕ → Answer ℕ
from_answer b summary t = unless (frame_fault b or_else length_fault t) (least_from b.frame summary t)
