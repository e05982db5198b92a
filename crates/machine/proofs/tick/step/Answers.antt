use mathlib.Core.Path.{◌∙◌}
use Rattle.scope.specs.Windows.{framed, supplied_by}
use Rattle.scope.specs.Tasks.{tasks_of}
use Rattle.scope.specs.Jobs.{jobs_of}
use Rattle.tables.specs.Cursors.{after}
use Rattle.tables.proofs.CursorLaws.{on_at_lem}
use Rattle.machine.specs.Rule.{rule}
use Rattle.machine.proofs.Pick.{chosen_follows}
use Rattle.machine.proofs.Stepping.{GivenOut, goes_task, can_work, may_note, step_is}
use Rattle.machine.proofs.tick.step.Lts as lts
use Rattle.machine.proofs.tick.step.Tie as tie
use Rattle.machine.proofs.tick.step.Reads as reads
use Rattle.machine.proofs.tick.step.Goals as goal

abbrev After-serve : Type 0
After-serve = lts.After-serve tie.the-claims reads.Pre reads.Post tie.handed_clauses

pub serve-done-requires : goal.serve-done-requires
serve-done-requires c = rw c.goes_to-i.ensures (goes_task _ _ _)

-- what is known once the tick is given out
abbrev given_out : (c : After-serve) →
    let a = c.args in
    GivenOut (supplied_by (framed a.course.table.frame) a.course.table.windows.now) (after (framed a.course.table.frame) a.course.table.windows.now)
    (rule (tasks_of a.course.tasks.now) (jobs_of a.course.jobs.now)) (tasks_of a.course.tasks.now) (jobs_of a.course.jobs.now) a.s a.places.now a.counts.now
given_out c =
    record {
      ready = c.requires.1;
      fed = _;
      fed_places = _;
      counted = _;
      on = _;
      cursor = _;
      task = _;
      done = _;
      places = _;
      released = c.release-fed.ensures;
      backlog = c.counted-counted.ensures;
      supplied = c.is_on-on.ensures ∙ on_at_lem _ _ c.args.course.table.legal _ _ c.requires.0.cursor;
      moves = c.next-next.ensures;
      goes = c.goes_to-i.ensures;
      ended = c.serve-done.ensures.answer;
      served = c.serve-done.ensures.places;
    }

pub worked-worked-requires : goal.worked-worked-requires
worked-worked-requires c = can_work _ _ _ _ c.args.course.group c.args.course.list _ _ _ _ (given_out c.before)

pub note-requires : goal.note-requires
note-requires c =
    let x = given_out c.before.before.before in
    may_note _ _ _ _ c.args.course.group c.args.course.list _ _ _ _ x _ c.worked-worked.ensures (chosen_follows _ _ c.args.course.group c.args.course.list)

pub returns : goal.returns
returns c =
    step_is _ _ _ _ c.args.course.group c.args.course.list _ _ _ _ (given_out c.before.before.before.before.before.before.before.before)
    _ c.worked-worked.ensures _ _ c.tested.ensures c.note.ensures
