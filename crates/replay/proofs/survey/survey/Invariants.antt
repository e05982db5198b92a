use Rattle.replay.proofs.SurveyLaws.{Going}
use Rattle.std.proofs.Common.{◌-◌, length}
use Rattle.replay.proofs.survey.survey.Given as goal

abbrev pub invariant-loop-reader : goal.invariant-loop-reader
invariant-loop-reader l = Going l.bytes l.reader l.ticks l.releases

abbrev pub decreases-loop-reader : goal.decreases-loop-reader
decreases-loop-reader l = length l.bytes - l.reader.at
