use Rattle.replay.proofs.CompareLaws.{comparing_first, comparing_found, comparing_next, comparing_pass, comparing_end}
use Rattle.std.proofs.Common.{◌∙◌}
use Rattle.replay.proofs.compare.compare.Goals as goal

pub loop-record-init : goal.loop-record-init
loop-record-init c = rw c.into_iter-record-iterator.ensures.into_iter_gives (comparing_first _ _ _ _ _ c.records-record-items.ensures)

pub returns-in-Some-between : goal.returns-in-Some-between
returns-in-Some-between c =
    comparing_found _ _ _ _ _ _ _ _ c.loop-record.invariant c.in-Some.ensures.steps _ c.in-Completion.is _
    (rw c.completion_after-machine.ensures at c.in-Some-between.ensures)

pub loop-record-preserved-in-Completion : goal.loop-record-preserved-in-Completion
loop-record-preserved-in-Completion c =
    comparing_next _ _ _ _ _ _ _ _ c.loop-record.invariant c.in-Some.ensures.steps _ c.in-Completion.is
    (rw c.completion_after-machine.ensures at c.in_default-between.ensures)

pub loop-record-preserved : goal.loop-record-preserved
loop-record-preserved c = comparing_pass _ _ _ _ _ _ _ _ c.loop-record.invariant c.in-Some.ensures.steps _ _ c.in_default.is

pub returns : goal.returns
returns c =
    c.between-2.ensures ∙ rw c.completion_after.ensures (comparing_end _ _ _ _ _ _ c.loop-record.invariant c.in-None.ensures.steps.0)
