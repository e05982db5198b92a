use Rattle.replay.proofs.ReplayLaws.{damaged_refused, extends_is, extent_refused, fitting}
use Rattle.tables.specs.Told.{board_of}
use Rattle.tables.proofs.FaultLaws.{stopped, passed}
use Rattle.std.proofs.Common.{sym, ◌∙◌, rules}
use Rattle.replay.proofs.replay.replay.Goals as goal

pub returns-in_err-extent : goal.returns-in_err-extent
returns-in_err-extent c = search (rules, damaged_refused (board_of c.args.board) c.args.windows.now c.args.tasks.now _ _ c.in_err-extent.ensures)

pub returns-in_err-check_group : goal.returns-in_err-check_group
returns-in_err-check_group c =
    search (rules, extent_refused _ _ _ _ _ _ (extends_is _ _ _ _ _ _ c.in_ok-extent.ensures) _ _ (stopped _ c.in_err-check_group.ensures))

pub returns-in_err-check : goal.returns-in_err-check
returns-in_err-check c =
    search (
      rules,
      extent_refused _ _ _ _ _ _ (extends_is _ _ _ _ _ _ c.in_ok-extent.ensures) _ _
          (passed c.in_ok-check_group.ensures c.in_err-check.ensures),
    )

pub invariant_of-trace : goal.invariant_of-trace
invariant_of-trace c = record {
  fits = (fitting _ _ _ _ _ _ (extends_is _ _ _ _ _ _ c.in_ok-extent.ensures) (passed c.in_ok-check_group.ensures c.in_ok-check.ensures)).0;
}

pub replay_fitting-requires : goal.replay_fitting-requires
replay_fitting-requires c =
    let f = fitting _ _ _ _ _ _ (extends_is _ _ _ _ _ _ c.in_ok-extent.ensures) (passed c.in_ok-check_group.ensures c.in_ok-check.ensures) in
    (f.1, f.2, f.3, f.4)

pub returns : goal.returns
returns c = c.replay_fitting.ensures ∙ sym (extends_is _ _ _ _ _ _ c.in_ok-extent.ensures).answer
