-- Two answers of which the promise says the same are equal
use Rattle.std.specs.Prelude.{◌≡◌, refl}
use Rattle.std.proofs.Math.Option.{Option, none, some}
use Rattle.std.specs.declared.option.Option as seen
use Rattle.std.specs.declared.result.Result.{Result}
use Rattle.scope.specs.Trace.{Completion}
use Rattle.scope.specs.Replay as Replays
use Rattle.tables.specs.declared.answer.Refusal.{Refusal}
use Rattle.tables.specs.Determined.{undone, told_determined}
use Rattle.replay.specs.declared.ending.Completion as completed
use Rattle.replay.specs.declared.replay.Replayed as replayed
use Rattle.replay.specs.Told.{replayed_of, told_replayed}
use Rattle.replay.specs.Ending.{told_seen}

abbrev seen_from : Option Completion → seen.Option completed.Completion
seen_from none = seen.TheVariants.None
seen_from (some c) = seen.TheVariants.Some (record { instant = c.instant; task = c.task })

seen_back : (s : seen.Option completed.Completion) → seen_from (told_seen s) ≡ s
seen_back seen.TheVariants.None = refl
seen_back (seen.TheVariants.Some c) = refl

abbrev replayed_from : Replays.Replayed → replayed.Replayed
replayed_from Replays.same = replayed.TheVariants.Same
replayed_from (Replays.differs c m) = replayed.TheVariants.Differs (seen_from c) (seen_from m)
replayed_from (Replays.missed k j) = replayed.TheVariants.Missed k j

pub seen_determined : (a b : seen.Option completed.Completion) → told_seen a ≡ told_seen b → a ≡ b
seen_determined = undone told_seen seen_from seen_back

pub replayed_determined : (a b : Result replayed.Replayed Refusal) → told_replayed a ≡ told_replayed b → a ≡ b
replayed_determined = told_determined replayed_of replayed_from back
  where
    back : (a : replayed.Replayed) → replayed_from (replayed_of a) ≡ a
    back replayed.TheVariants.Same = refl
    back (replayed.TheVariants.Differs t m) = rw (seen_back t, seen_back m)
    back (replayed.TheVariants.Missed k j) = refl
