-- A trace that reads and is not too long
use Rattle.std.specs.Prelude.{Bool, false, ◌&&◌, List, ℕ, length, nat_le}
use Rattle.scope.specs.Limits.{most_ticks, most_jobs}
use Rattle.scope.specs.Plan.{Read, Read.read, Read.bad}
use Rattle.scope.specs.Trace.{Stamped, trace_of, timed, ticks_of, releases}

abbrev pub fits_in : Read (List Stamped) → Bool
fits_in (read rs end) = nat_le (ticks_of (timed rs)) most_ticks && nat_le (length (releases (timed rs))) most_jobs
fits_in (bad offset) = false

unfoldable pub fits : List ℕ → Bool
fits bytes = fits_in (trace_of bytes)
