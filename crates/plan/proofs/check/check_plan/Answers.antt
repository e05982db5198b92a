use mathlib.Core.Path.{ap, ◌∙◌}
use Prim.Native.Nat.{◌≤◌}
use borrow.Author.Rules.{rules}
use lib.Seq.{length-take-le}
use Rattle.scope.specs.Windows.{Board}
use Rattle.scope.specs.Shared.{as_owned, verdict_for}
use Rattle.plan.specs.Told.{plan_of_read}
use Rattle.plan.proofs.ReadLaws.{plan_judged, plan_windows}
use Rattle.plan.proofs.check.check_plan.Goals as goal

pub verdict_of-requires : goal.verdict_of-requires
verdict_of-requires c = plan_windows _ _ _ c.in_ok-plan.ensures

pub returns : goal.returns
returns c =
    let p = plan_of_read c.in_ok-plan.plan in
    let k = c.settings.result in
    let few : k ≤ 3 = search rules in
    let h = rw (length-take-le k _ few, c.settings.ensures) at c.in_ok-plan.ensures in
    plan_judged _ _ p h (c.verdict_of.ensures ∙ ap (λ (b : Board). verdict_for b (as_owned 0 p.windows) p.tasks) c.board_of-board.ensures)
