use mathlib.Core.Path.{◌≡◌, ap, ◌∙◌}
use Prim.Native.Nat.{◌+◌, ◌-◌, ◌≤◌, max}
use Rattle.scope.specs.Windows.{framed, Window, window, supplied_by}
use Rattle.scope.specs.Partition.{outage}
use Rattle.theory.specs.Lists.{pieces_length}
use Rattle.theory.specs.LongestGap.{passed_first, passed_next, passed_last}
use Rattle.tables.specs.Told.{window_of}
use native.Mathlib.Omega.{arith}
use Rattle.gaps.proofs.outage.outage_of.Goals as goal

pub loop-i-init : goal.loop-i-init
loop-i-init c =
    let t = c.args.table in
    passed_first _ _ t.legal.whole t.legal.windows (window_of c.window_at-first.result)
    (omega (arith, t.legal.even, t.legal.some, pieces_length Window 2 window t.windows.now)) c.window_at-first.ensures

-- window i starts no earlier than the one before it ends
pub overflow_sub-window : goal.overflow_sub-window
overflow_sub-window c =
    let t = c.args.table in
    (passed_next _ _ t.legal.whole t.legal.windows _ _ _ _ c.loop-i.invariant (window_of c.window_at-window.result)
    (omega (arith, pieces_length Window 2 window t.windows.now)) c.window_at-window.ensures).0

-- the gap before window i, and one window more is passed
pub loop-i-preserved : goal.loop-i-preserved
loop-i-preserved c =
    let t = c.args.table in
    rw c.max-most.ensures (passed_next _ _ t.legal.whole t.legal.windows _ _ _ _ c.loop-i.invariant (window_of c.window_at-window.result)
    (omega (arith, pieces_length Window 2 window t.windows.now)) c.window_at-window.ensures).1

-- after the loop: the gap to the first window of the next frame
round : (c : goal.After-loop-i) →
    let t = c.args.table in
    let first = c.window_at-first.result in
    let l = c.loop-i in
    (l.end ≤ t.frame) × (first.start ≤ t.frame)
    × (max l.most (t.frame - l.end + first.start) ≡ outage (supplied_by (framed t.frame) t.windows.now) t.frame)
round c =
    let t = c.args.table in
    let l = c.loop-i in
    passed_last _ _ t.legal.whole t.legal.windows _ _ _ _ l.invariant (omega (arith, l.invariant.few, pieces_length Window 2 window t.windows.now))
    (ap (λ (w : Window). w.start) c.window_at-first.ensures)

pub last_gap-requires : goal.last_gap-requires
last_gap-requires c = let r = round c in (r.0, r.1, c.args.table.legal.frame_most)

pub returns : goal.returns
returns c = c.max.ensures ∙ ap (max c.loop-i.most) c.last_gap.ensures ∙ (round c.before.before).2
