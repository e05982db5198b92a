-- The machine's completions out of a run's counts: a job released at r with count c > 0 is complete at instant r + c
use Rattle.std.specs.Prelude.{ℕ, ◌+◌, Bool, cond, ◌&&◌, ltb, List, nat_le, nat_lt, slice_index}
use Rattle.std.proofs.Math.Option.{Option, none, some}
use Rattle.scope.specs.Numbers.{first_by}
use Rattle.scope.specs.Jobs.{Job, release_of, task_of}
use Rattle.scope.specs.Trace.{Completion, completion}
use Rattle.std.specs.declared.option.Option as seen
use Rattle.replay.specs.declared.ending.Completion as completed

abbrev pub finish : List Job → List ℕ → ℕ → ℕ
finish js counts j = release_of js j + slice_index counts j

-- job j is complete after one instant and no later than another
abbrev pub ends_within : List Job → List ℕ → ℕ → ℕ → ℕ → Bool
ends_within js counts after last j = nat_le 1 (slice_index counts j) && nat_lt after (finish js counts j) && nat_le (finish js counts j) last

-- the first of the first m jobs that are, by that instant
unfoldable pub next_end : List Job → List ℕ → ℕ → ℕ → ℕ → Option ℕ
next_end js counts after last m = first_by (λ a b. ltb (finish js counts a) (finish js counts b)) (ends_within js counts after last) m

-- a completion of task i at instant f, of a job with count c, is the best so far where it is after one instant and sooner, or the first and no later than another
abbrev pub sooner_than : Option Completion → ℕ → ℕ → Bool
sooner_than none f last = nat_le f last
sooner_than (some b) f last = nat_lt f b.instant

unfoldable pub nearer_of : Option Completion → (i c f after last : ℕ) → Option Completion
nearer_of b i c f after last = cond (nat_le 1 c && nat_lt after f && sooner_than b f last) (some (completion f i)) b

abbrev pub completion_in : List Job → List ℕ → Option ℕ → Option Completion
completion_in js counts none = none
completion_in js counts (some j) = some (completion (finish js counts j) (task_of js j))

abbrev pub completion_of : completed.Completion → Completion
completion_of c = completion c.instant c.task

-- none, where a side has ended
abbrev pub told_seen : seen.Option completed.Completion → Option Completion
told_seen seen.TheVariants.None = none
told_seen (seen.TheVariants.Some c) = some (completion_of c)
