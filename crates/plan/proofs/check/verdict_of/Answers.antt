use Rattle.plan.proofs.OwnedLaws.{owned_front}
use Rattle.plan.proofs.check.verdict_of.Goals as goal

pub returns : goal.returns
returns c =
    let t = c.in_ok-n.ensures in
    rw (owned_front _ _ c.requires _ _ _ t.answer t.buffer) at c.verdict.ensures
