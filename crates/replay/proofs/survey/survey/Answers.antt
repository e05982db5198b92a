use Rattle.replay.proofs.SurveyLaws.{going_first, going_damaged, going_next, going_early, going_less, going_end}
use Rattle.std.proofs.Common.{rules}
use Rattle.replay.proofs.survey.survey.Goals as goal

pub loop-reader-init : goal.loop-reader-init
loop-reader-init c = rw c.new-reader.ensures (going_first _)

pub returns-in_err-record : goal.returns-in_err-record
returns-in_err-record c = search (rules, going_damaged _ _ _ _ c.loop-reader.invariant c.loop-reader-test.true _ c.in_err-record.ensures)

pub overflow_add-ticks : goal.overflow_add-ticks
overflow_add-ticks c = search (rules, going_early _ _ _ _ c.loop-reader.invariant c.loop-reader-test.true _ _ _ c.in_ok-record.ensures)

pub loop-reader-smaller : goal.loop-reader-smaller
loop-reader-smaller c = going_less _ _ _ _ c.loop-reader.invariant c.loop-reader-test.true _ _ _ c.in_ok-record.ensures

pub loop-reader-preserved : goal.loop-reader-preserved
loop-reader-preserved c =
    rw (c.from-releases.ensures, c.is_release.ensures) (going_next _ _ _ _ c.loop-reader.invariant c.loop-reader-test.true _ _ _
    c.in_ok-record.ensures)

pub returns : goal.returns
returns c = going_end _ _ _ _ c.loop-reader.invariant c.loop-reader-test.false
