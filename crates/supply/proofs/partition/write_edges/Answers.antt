use mathlib.Core.Path.{sym, ap, ◌∙◌}
use mathlib.Core.List.{List, [], ◌∷◌}
use Prim.Native.Nat.{ℕ}
use native.Mathlib.Omega.{arith}
use lib.ListN.{length, length-append}
use Rattle.scope.specs.Numbers.{written}
use Rattle.scope.specs.Windows.{framed}
use Rattle.theory.specs.Buffers.{written_none, written_more}
use Rattle.supply.proofs.PartitionLaws.{edges, edges_none, last_edge, last_none, room_last}
use Rattle.supply.proofs.WalkLaws.{walking_none, walking_next, walked, edge_more, edge_still, room_at}
use Rattle.supply.proofs.partition.write_edges.Goals as goal

pub loop-t-init : goal.loop-t-init
loop-t-init c =
    let a = c.args in
    let e = edges_none (framed a.table.frame) a.table.windows.now in
    rw c.into_iter-t-iterator.ensures.into_iter_gives (
      walking_none _ _ c.new-t-items.ensures,
      rw c.new-t-items.ensures.1 (sym (ap length e)),
      rw c.new-t-items.ensures.1 (sym (ap (λ (l : List ℕ). written l a.out.now) e ∙ written_none a.out.now)),
    )

pub offset_bounds-out-at : goal.offset_bounds-out-at
offset_bounds-out-at c =
    let l = c.loop-t in
    let h = room_at l.invariant.0 _ _ c.next.new.self c.in-Some.ensures.steps l.invariant.1 c.requires c.if-piece-before.true in omega arith

pub bounds-out-at : goal.bounds-out-at
bounds-out-at c =
    let l = c.loop-t in
    let h = room_at l.invariant.0 _ _ c.next.new.self c.in-Some.ensures.steps l.invariant.1 c.requires c.if-piece-before.true in omega (arith, l.auto.out)

pub overflow_add-at : goal.overflow_add-at
overflow_add-at c =
    let l = c.loop-t in
    let h = room_at l.invariant.0 _ _ c.next.new.self c.in-Some.ensures.steps l.invariant.1 c.requires c.if-piece-before.true in omega arith

pub loop-t-preserved-then-piece-before : goal.loop-t-preserved-then-piece-before
loop-t-preserved-then-piece-before c =
    let a = c.args in
    let l = c.loop-t in
    let so = l.invariant in
    let w = so.0 in
    let steps = c.in-Some.ensures.steps in
    let before = edges (framed a.table.frame) a.table.windows.now l.t-iterator.t in
    let e = edge_more w _ _ c.next.new.self steps c.if-piece-before.true in
    let h = room_at w _ _ c.next.new.self steps so.1 c.requires c.if-piece-before.true in (
      walking_next w _ _ _ steps,
      omega (arith, so.1, ap length e, length-append before (c.in-Some.t ∷ [])),
      rw (so.2, so.1, e) (written_more before a.out.now c.in-Some.t (omega (arith, so.1, h))),
    )

pub loop-t-preserved : goal.loop-t-preserved
loop-t-preserved c =
    let so = c.loop-t.invariant in
    let steps = c.in-Some.ensures.steps in
    let e = edge_still so.0 _ _ c.next.new.self steps c.if-piece-before.false in (walking_next so.0 _ _ _ steps, rw e so.1, rw e so.2)

pub offset_bounds-out-at-then-before : goal.offset_bounds-out-at-then-before
offset_bounds-out-at-then-before c =
    let l = c.loop-t in
    let w = l.invariant.0 in
    let h = room_last _ _ _ l.invariant.1 c.requires w.so (walked w c.in-None.ensures.steps) c.if-before.true in omega arith

pub bounds-out-at-then-before : goal.bounds-out-at-then-before
bounds-out-at-then-before c =
    let l = c.loop-t in
    let w = l.invariant.0 in
    let h = room_last _ _ _ l.invariant.1 c.requires w.so (walked w c.in-None.ensures.steps) c.if-before.true in omega (arith, l.auto.out)

pub returns-then-before : goal.returns-then-before
returns-then-before c =
    let a = c.args in
    let l = c.loop-t in
    let so = l.invariant in
    let w = so.0 in
    let ended = walked w c.in-None.ensures.steps in
    let h = room_last _ _ _ so.1 c.requires w.so ended c.if-before.true in
    rw (so.2, so.1, last_edge _ _ w.so ended c.if-before.true)
    (written_more (edges (framed a.table.frame) a.table.windows.now l.t-iterator.t) a.out.now a.table.frame (omega (arith, so.1, h)))

pub returns-else-before : goal.returns-else-before
returns-else-before c =
    let so = c.loop-t.invariant in
    let w = so.0 in rw (last_none _ _ w.so (walked w c.in-None.ensures.steps) c.if-before.false) so.2
