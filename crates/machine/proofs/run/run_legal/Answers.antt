use mathlib.Core.Path.{refl}
use Prim.Native.Nat.{◌/◌, ◌≤◌}
use native.Mathlib.Omega.{arith}
use lib.ListN.{length}
use Rattle.std.proofs.Common.{rules}
use lib.Seq.{length-take-le}
use Rattle.scope.specs.Jobs.{job}
use Rattle.theory.specs.Lists.{pieces_length}
use Rattle.machine.proofs.Said.{begins_course, course_ends}
use Rattle.machine.proofs.run.run_legal.Goals as goal

pub slice_bounds-fill-end : goal.slice_bounds-fill-end
slice_bounds-fill-end g c = omega (arith, c.requires.1, pieces_length _ 3 job c.args.course.jobs.now)

pub slice_bounds-fill-end-2 : goal.slice_bounds-fill-end-2
slice_bounds-fill-end-2 g c =
    let room : length c.args.course.jobs.now / 3 ≤ length c.args.counts.now = omega (arith, c.requires.1, pieces_length _ 3 job c.args.course.jobs.now) in
    search (rules, length-take-le)

pub advance-s-requires : goal.advance-s-requires
advance-s-requires g c = begins_course c.args.course _ _ c.requires.1 (c.fill.ensures.after (λ y e. e))

pub returns-in-None : goal.returns-in-None
returns-in-None g c =
    let e = course_ends c.args.course _ _ c.requires.1 (c.fill.ensures.after (λ y e. e)) _ c.requires.0 _ _ _ c.advance-s.ensures _ c.in-None.ensures in
    let r = e.0 refl in
    record { answer = r.0; buffer = r.1 }

pub returns-in-Some : goal.returns-in-Some
returns-in-Some g c =
    let e = course_ends c.args.course _ _ c.requires.1 (c.fill.ensures.after (λ y e. e)) _ c.requires.0 _ _ _ c.advance-s.ensures _ c.in-Some.ensures in
    let r = e.1 _ refl in
    record { answer = r.0; buffer = r.1 }
