use mathlib.Core.Path.{ap}
use native.Mathlib.Omega.{arith}
use Rattle.supply.specs.Positions.{closes}
use Rattle.supply.proofs.PositionLaws.{behind_next}
use Rattle.supply.proofs.row.moved.Goals as goal

pub loop-table-init : goal.loop-table-init
loop-table-init c = c.requires

pub end_at-requires : goal.end_at-requires
end_at-requires c = c.loop-table.invariant.0.stands

pub next-at-requires : goal.next-at-requires
next-at-requires c = c.loop-table.invariant.0.stands

pub loop-table-smaller : goal.loop-table-smaller
loop-table-smaller c =
    let l = c.loop-table in
    omega (
      arith,
      (behind_next _ _ l.at _ l.invariant.0 (omega (arith, c.end_at.ensures)) l.invariant.1).1,
      ap (closes c.args.table.windows.now) c.next-at.ensures,
      c.end_at.ensures,
    )

pub loop-table-preserved : goal.loop-table-preserved
loop-table-preserved c =
    let l = c.loop-table in
    (rw c.next-at.ensures (behind_next _ _ l.at _ l.invariant.0 (omega (arith, c.end_at.ensures)) l.invariant.1).0, omega arith)

pub returns : goal.returns
returns c = (c.loop-table.invariant.0, omega (arith, c.end_at.ensures))
