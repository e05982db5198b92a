-- What the code's types say, in the words of `scope`
use Rattle.std.specs.declared.result.Result.{Result}
use Rattle.scope.specs.Answers.{Answer}
use Rattle.scope.specs.Replay as Replays
use Rattle.tables.specs.declared.answer.Refusal.{Refusal}
use Rattle.tables.specs.Told.{told}
use Rattle.replay.specs.declared.replay.Replayed as replayed
use Rattle.replay.specs.Ending.{told_seen}

abbrev pub replayed_of : replayed.Replayed → Replays.Replayed
replayed_of replayed.TheVariants.Same = Replays.same
replayed_of (replayed.TheVariants.Differs trace machine) = Replays.differs (told_seen trace) (told_seen machine)
replayed_of (replayed.TheVariants.Missed instant job) = Replays.missed instant job

abbrev pub told_replayed : Result replayed.Replayed Refusal → Answer Replays.Replayed
told_replayed = told replayed_of
