-- A walk over the pieces of a table, and the edges up to where it stands
use mathlib.Core.Path.{◌≡◌, sym, ◌∙◌}
use mathlib.Core.Bool.{Bool, true, false, not, beq}
use mathlib.Core.List.{[], ◌∷◌, ◌++◌}
use Prim.Native.Nat.{ℕ, ◌≤◌, ◌<◌}
use Rattle.std.specs.declared.option.Option.TheVariants.{Some, None}
use lib.ListN.{length}
use Rattle.scope.specs.Answers.{critical_of}
use Rattle.scope.specs.Ticks.{least_supply}
use Rattle.scope.specs.Windows.{framed, supplied_by}
use Rattle.tables.specs.declared.table.Table.{Table}
use Rattle.supply.specs.declared.pieces.Piece.{Piece}
use Rattle.supply.specs.declared.walk.Pieces.{Pieces}
use Rattle.supply.specs.Ahead.{Told}
use Rattle.supply.specs.Walked.{At, Steps}
use Rattle.supply.proofs.PartitionLaws.{edges, Reached, reached_none, reached_next, next_edge, next_none, room_next}

-- it stands at the end of the pieces so far of this table
pub record Walking (b : Table) (s : Pieces) (before : Bool) : Type 0 where
  pub here : s.table ≡ b
  pub so : Reached (framed b.frame) b.windows.now s.t before s.least

-- at first
pub low_none : (b : Table) → 0 ≡ least_supply (supplied_by (framed b.frame) b.windows.now) b.frame 0
low_none b = (reached_none (framed b.frame) b.windows.now b.legal).low

low_at : (b : Table) (s : Pieces) → s.table ≡ b → (s.t ≤ b.frame) × (s.least ≡ least_supply (supplied_by (framed b.frame) b.windows.now) b.frame s.t)
low_at b s e = rw (sym e) s.low

pub walking_none : (b : Table) (s : Pieces) → At b 0 s → Walking b s false
walking_none b s at =
    let low = low_at b s at.0 in
    let first = reached_none (framed b.frame) b.windows.now b.legal in
    record { here = at.0; so = record { within = low.0; turned = rw at.1 first.turned; low = low.1 } }

module _ {b : Table} {s : Pieces} {before : Bool} (w : Walking b s before) where
  -- no piece more
  pub walked : {s' : Pieces} → Steps s None s' → b.frame ≤ s.t
  walked h = rw (sym w.here) h.0

  -- the piece at t
  module _ (t : ℕ) (p : Piece) (s' : Pieces) (h : Steps s (Some (t, p)) s') where
    pub told_at : Told (supplied_by (framed b.frame) b.windows.now) b.frame s.t p
    told_at = rw (sym w.here) h.2

    pub walking_next : Walking b s' p.rising
    walking_next =
        let e : s'.table ≡ b = h.3.0 ∙ w.here in
        let low = low_at b s' e in
        record { here = e; so = record { within = low.0; turned = rw h.3.1 (reached_next _ _ told_at w.so).turned; low = low.1 } }

    pub edge_more : not (beq p.rising before) ≡ true → edges (framed b.frame) b.windows.now s'.t ≡ edges (framed b.frame) b.windows.now s.t ++ (t ∷ [])
    edge_more e = rw (h.3.1, h.1) (next_edge _ _ told_at w.so.turned e)

    pub edge_still : not (beq p.rising before) ≡ false → edges (framed b.frame) b.windows.now s'.t ≡ edges (framed b.frame) b.windows.now s.t
    edge_still e = rw h.3.1 (next_none _ _ told_at w.so.turned e)

    -- where an edge is written at t there is room for it, if there is room for all
    pub room_at : {at room : ℕ} → at ≡ length (edges (framed b.frame) b.windows.now s.t) → length (critical_of (framed b.frame) b.windows.now) ≤ room →
        not (beq p.rising before) ≡ true → at < room
    room_at met all e = room_next _ _ _ met all told_at w.so.turned e
