-- How long a trace is, or where it is damaged
use Rattle.std.specs.Prelude.{ℕ, suc, min, List, length}
use Rattle.std.specs.declared.result.Result.{Result}
use Rattle.std.specs.declared.result.Result.TheVariants.{Ok, Err}
use Rattle.scope.specs.Limits.{most_ticks}
use Rattle.scope.specs.Plan.{Read, Read.read, Read.bad}
use Rattle.scope.specs.Trace.{Stamped, timed, ticks_of, releases}
use Rattle.plan.specs.declared.number.Damaged.{Damaged}
use Rattle.replay.specs.declared.survey.Extent.{Extent}

pub data Surveyed : Type 0 where
  extends : (ticks releases : ℕ) → Surveyed
  damaged : (offset : ℕ) → Surveyed

-- ticks are not counted past the first number that is too large
abbrev pub surveyed : Read (List Stamped) → Surveyed
surveyed (read rs end) = extends (min (ticks_of (timed rs)) (suc most_ticks)) (length (releases (timed rs)))
surveyed (bad offset) = damaged offset

abbrev pub told_extent : Result Extent Damaged → Surveyed
told_extent (Ok x) = extends x.ticks x.releases
told_extent (Err d) = damaged d.at
