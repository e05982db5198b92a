-- The records of a trace that reads, as facts for the functions that go through it again
use Rattle.std.specs.Prelude.{◌≡◌, ℕ, ◌≤◌, Bool, true, false, not, ◌&&◌, ◌||◌, List, [], ◌∷◌, length, ◌==◌}
use Rattle.std.proofs.Math.Option.{Option, none, some}
use Rattle.std.specs.declared.option.Option as marked
use Rattle.scope.specs.Limits.{most_ticks, most_jobs}
use Rattle.scope.specs.Jobs.{Job}
use Rattle.scope.specs.Plan.{Read, Read.read, Read.bad}
use Rattle.scope.specs.Trace.{Stamped, trace_of, Record, timed, ticks_of, is_release, releases, goes_before, record_at, in_turn, releases_before}

abbrev pub timed_in : Read (List Stamped) → List Record
timed_in (read rs end) = timed rs
timed_in (bad offset) = []

-- the records of a trace at their instants; none where it does not read
unfoldable pub records_of : List ℕ → List Record
records_of bytes = timed_in (trace_of bytes)

-- the bytes read, and what they tell is not too long
pub record Fits (bytes : List ℕ) : Type 0 where
  pub stamped : List Stamped
  pub end : ℕ
  pub reads : trace_of bytes ≡ read stamped end
  pub ticks : ticks_of (records_of bytes) ≤ most_ticks
  pub few : length (releases (records_of bytes)) ≤ most_jobs

-- jobs as numbers: release, task index, work, release, ..
unfoldable pub numbers_of : List Job → List ℕ
numbers_of [] = []
numbers_of (x ∷ js) = x.release ∷ x.task ∷ x.work ∷ numbers_of js

-- a record may come first, or after this one
abbrev pub turns_after : Option Record → Record → Bool
turns_after none b = true
turns_after (some a) b = goes_before a b

-- number j is the one that is marked, if one is
abbrev pub marks : marked.Option ℕ → ℕ → Bool
marks marked.TheVariants.None j = false
marks (marked.TheVariants.Some c) j = c == j

-- record b is against the order, or is release number `illegal`, where j releases come before it
abbrev pub breaks_by : Option Record → Record → ℕ → marked.Option ℕ → Bool
breaks_by a b j illegal = not (turns_after a b) || (is_release b && marks illegal j)

-- so is record i
unfoldable pub breaks_at : List Record → marked.Option ℕ → ℕ → Bool
breaks_at rs illegal i = not (in_turn rs i) || (is_release (record_at rs i) && marks illegal (releases_before rs i))
