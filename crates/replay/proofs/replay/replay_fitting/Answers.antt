use Rattle.replay.proofs.RecordsLaws.{fits_is}
use Rattle.replay.proofs.ReplayLaws.{rebuilt_is, room_enough, ran_by, records_refused, legal_answer}
use Rattle.std.proofs.Common.{ℕ, sym, arith, rules, length-take-le}
use Rattle.std.proofs.lemmas.List.{length-replicate}
use Rattle.replay.proofs.replay.replay_fitting.Goals as goal

pub rebuild-requires : goal.rebuild-requires
rebuild-requires c = omega (arith, (fits_is _ c.args.trace.fits).few)

pub overflow_mul-room : goal.overflow_mul-room
overflow_mul-room c = search (rules, (fits_is _ c.args.trace.fits).few, c.requires.3)

pub slice_bounds-room-end : goal.slice_bounds-room-end
slice_bounds-room-end c = omega (arith, (fits_is _ c.args.trace.fits).few, c.requires.3)

pub slice_bounds-jobs-end : goal.slice_bounds-jobs-end
slice_bounds-jobs-end c =
    sym (length-take-le _ _ (omega (arith, (fits_is _ c.args.trace.fits).few, c.requires.3)))

pub returns-in_err-check_records : goal.returns-in_err-check_records
returns-in_err-check_records c =
    search (
      rules,
      records_refused _ _ _ _ _ _ _ _ (rebuilt_is _ _ _ _ _ _ _ c.args.trace.fits c.requires c.rebuild.ensures)
          c.in_err-check_records.ensures,
    )

pub returns-in_err-ran : goal.returns-in_err-ran
returns-in_err-ran c =
    absurd (ran_by _ _ _ _ _ _ (rebuilt_is _ _ _ _ _ _ _ c.args.trace.fits c.requires c.rebuild.ensures) c.in_ok-check_records.ensures
    _ _ _ (sym (length-replicate {A = ℕ} 4096 0)) c.in_err-ran.ensures.answer)

pub invariant_of-run : goal.invariant_of-run
invariant_of-run c = record {
  room = omega (
    arith,
    room_enough _ _ _ _ _ _ (rebuilt_is _ _ _ _ _ _ _ c.args.trace.fits c.requires c.rebuild.ensures) c.in_ok-check_records.ensures
        _ (sym (length-replicate {A = ℕ} 4096 0)),
  );
}

pub returns : goal.returns
returns c =
    rw c.named.ensures (legal_answer _ _ _ _ _ _ (rebuilt_is _ _ _ _ _ _ _ c.args.trace.fits c.requires c.rebuild.ensures) c.in_ok-check_records.ensures
    _ _ _ _ _ (sym (length-replicate {A = ℕ} 4096 0)) c.in_ok-ran.ensures.answer c.run.ensures.buffer c.saturating_sub-last.ensures c.compare.ensures)
