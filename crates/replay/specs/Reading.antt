-- What the reader of a trace says, in the words of `scope`
use Rattle.std.specs.Prelude.{ℕ, ◌+◌, min, Bool, List}
use Rattle.std.proofs.Math.Option as maybe
use Rattle.std.specs.declared.option.Option.{Option}
use Rattle.std.specs.declared.option.Option.TheVariants.{Some, None}
use Rattle.std.specs.declared.result.Result.{Result}
use Rattle.std.specs.declared.result.Result.TheVariants.{Ok, Err}
use Rattle.scope.specs.Limits.{most_ticks}
use Rattle.scope.specs.Plan.{Read, Read.read, Read.bad, and_read, read_number}
use Rattle.scope.specs.Trace.{Stamped, Record, read_record, is_release, elapsed}
use Rattle.plan.specs.declared.number.Damaged.{Damaged}
use Rattle.replay.specs.declared.read.Event.{Event}
use Rattle.replay.specs.declared.read.Event.TheVariants.{Release, Completion}
use Rattle.replay.specs.declared.read.Record as recorded
use Rattle.replay.specs.declared.read.Stamped as stamped
use Rattle.replay.specs.declared.read.Reader.{Reader}

-- ---- records

-- a completion has no work
abbrev pub stamped_of : Event → ℕ → Stamped
stamped_of (Release task work) stamp = record { kind = 0; task = task; work = work; stamp = stamp }
stamped_of (Completion task) stamp = record { kind = 1; task = task; work = 0; stamp = stamp }

abbrev pub at_instant : ℕ → Stamped → Record
at_instant k x = record { instant = k; kind = x.kind; task = x.task; work = x.work }

abbrev pub record_of : recorded.Record → Record
record_of r = at_instant r.instant (stamped_of r.event 0)

-- what orders the records
abbrev pub turn_of : Record → ℕ × Bool × ℕ
turn_of r = (r.instant, is_release r, r.task)

-- before the first record there is none
abbrev pub record_before : Option recorded.Record → maybe.Option Record
record_before None = maybe.none
record_before (Some r) = maybe.some (record_of r)

-- ---- reading one

abbrev pub told_stamped : Result stamped.Stamped Damaged → Read Stamped
told_stamped (Ok s) = read (stamped_of s.event s.stamp) s.next
told_stamped (Err d) = bad d.at

-- an event's stamp stands at this offset
abbrev pub stamped_at : Event → List ℕ → ℕ → Read Stamped
stamped_at e bytes at = and_read (read_number bytes at) (λ stamp next. read (stamped_of e stamp) next)

abbrev pub stamp_in : Read Stamped → ℕ
stamp_in (read x next) = x.stamp
stamp_in (bad offset) = 0

unfoldable pub first_stamp_of : List ℕ → ℕ
first_stamp_of bytes = stamp_in (read_record bytes 0)

-- ---- reading on

unfoldable pub start_of : List ℕ → Reader
start_of bytes = record { at = 0; instant = 0; stamp = first_stamp_of bytes }

-- after the record x; instants are not counted past the greatest that matters
abbrev pub moved : Reader → Stamped → ℕ → Reader
moved r x next = record { at = next; instant = min (r.instant + elapsed r.stamp x.stamp) most_ticks; stamp = x.stamp }

abbrev pub passed_by : Reader → Stamped → ℕ → Record × Reader
passed_by r x next = (at_instant (moved r x next).instant x, moved r x next)

-- the record that the reader passes, and the reader after it
unfoldable pub passed : List ℕ → Reader → Read (Record × Reader)
passed bytes r = and_read (read_record bytes r.at) (λ x next. read (passed_by r x next) next)

abbrev pub told_passed : Result (recorded.Record × Reader) Damaged → Read (Record × Reader)
told_passed (Ok p) = read (record_of p.0, p.1) p.1.at
told_passed (Err d) = bad d.at
