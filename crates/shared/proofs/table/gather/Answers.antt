use mathlib.Core.Path.{refl, sym, ap, ◌∙◌}
use mathlib.Core.List.{List, [], ◌∷◌}
use lib.ListN.{length-set}
use Rattle.scope.specs.Numbers.{written}
use Rattle.scope.specs.Shared.{owned, owned_of}
use Rattle.theory.specs.Lists.{pieces_length}
use Rattle.tables.specs.Told.{board_of}
use Rattle.shared.specs.Told.{owned_by}
use Rattle.theory.specs.Buffers.{written_none}
use Rattle.shared.proofs.SharedLaws.{left_for, gathers_left, front_none, front_all, front_few, front_hit, front_miss, count_hit, left_hit, left_miss, left_moved, length_two, written_two}
use native.Mathlib.Omega.{arith}
use Prim.Native.Nat.{ℕ, ◌+◌, ◌<◌}
use lib.ListN.{length}
use mathlib.Core.Path.{◌≡◌}
use Rattle.shared.proofs.table.gather.Lts as lts
use Rattle.shared.proofs.table.gather.Tie as tie
use Rattle.shared.proofs.table.gather.Reads as reads
use Rattle.shared.proofs.table.gather.Goals.{then-is_left, else-is_left}
use Rattle.shared.proofs.table.gather.Goals as goal

abbrev Then1 : Type 0
Then1 = lts.Then1 tie.the-claims reads.Pre reads.Post goal.the-invariant-loop-i goal.the-decreases-loop-i tie.handed_clauses

pub loop-i-init : goal.loop-i-init
loop-i-init c =
    let a = c.args in
    let e = front_none _ (gathers_left (board_of a.board)) (owned_of a.windows.now) in (
      sym (ap length e),
      c.requires,
      refl,
      sym (ap (λ (l : List ℕ). written l a.out.now) e ∙ written_none _),
    )

-- where the window has a tick left its two numbers come
hit : (c : Then1) → let b = board_of c.args.board in
    let w = owned_by c.owned_at-here.result in
    left_for b (w ∷ []) ≡ (b.lost + w.window.start) ∷ w.window.end ∷ []
hit c =
    left_hit (board_of c.args.board) (owned_by c.owned_at-here.result)
    (sym c.is_left.ensures ∙ c.if-is_left.true)

-- where two numbers are to be written there is room for them
room : (c : Then1) → c.loop-i.at + 1 < length c.loop-i.out
room c =
    let a = c.args in
    let l = c.loop-i in
    let ws = owned_of a.windows.now in
    let h : l.i < length ws = omega (arith, pieces_length _ 3 owned a.windows.now) in
    omega (
      arith,
      l.invariant.0,
      l.invariant.1,
      l.invariant.2,
      count_hit _ (gathers_left (board_of a.board)) ws l.i h c.owned_at-here.ensures _ _ (hit c),
      front_few _ (gathers_left (board_of a.board)) ws (l.i + 1),
    )

-- the start that is moved stays before the window's end
pub overflow_add-out : goal.overflow_add-out
overflow_add-out c =
    let a = c.args in
    let moved = left_moved (board_of a.board) (owned_by c.owned_at-here.result) (sym c.is_left.ensures ∙ c.if-is_left.true) in
    omega (arith, moved)

pub offset_bounds-out-at : goal.offset_bounds-out-at
offset_bounds-out-at c = let h = room c.before.before.before in omega arith

pub bounds-out-at : goal.bounds-out-at
bounds-out-at c = let h = room c.before.before.before in omega arith

pub overflow_add-out-then-is_left : goal.overflow_add-out-then-is_left
overflow_add-out-then-is_left c = let h = room c.before.before.before in omega arith

pub offset_bounds-out-at-then-is_left : goal.offset_bounds-out-at-then-is_left
offset_bounds-out-at-then-is_left c = let h = room c.before.before.before in omega arith

pub bounds-out-at-then-is_left : goal.bounds-out-at-then-is_left
bounds-out-at-then-is_left c = let h = room c.before.before.before in omega (arith, length-set {A = ℕ})

pub overflow_add-at : goal.overflow_add-at
overflow_add-at c = let h = room c.before.before.before in omega arith

pub loop-i-preserved : goal.loop-i-preserved
loop-i-preserved c =
    let a = c.args in
    let l = c.loop-i in
    let ws = owned_of a.windows.now in
    let read = c.owned_at-here.ensures in
    let h : l.i < length ws = omega (arith, pieces_length _ 3 owned a.windows.now) in
    elim (c.if-is_left.branch) [
      | then-is_left t ↦ let e = left_hit (board_of a.board) _ (sym c.is_left.ensures ∙ t.if-is_left.true) in
          let n = count_hit _ (gathers_left (board_of a.board)) ws l.i h read _ _ e in
          let fits : l.at + 1 < length a.out.now = omega (arith, l.invariant.0, l.invariant.1, n, front_few _ (gathers_left (board_of a.board)) ws (l.i + 1)) in
          let two = written_two _ a.out.now l.at _ _ l.out l.invariant.0 l.invariant.3 fits in (
            t.at-is ∙ omega (arith, l.invariant.0, n),
            l.invariant.1,
            ap length t.out-is ∙ length_two l.out l.at (l.at + 1) _ _ ∙ l.invariant.2,
            t.out-is ∙ two ∙ ap (λ (m : List ℕ). written m a.out.now) (sym (front_hit _ (gathers_left (board_of a.board)) ws l.i h read _ _ e)),
          )
      | else-is_left f ↦ let z = sym (front_miss _ (gathers_left (board_of a.board)) ws l.i h read (left_miss (board_of a.board) _ (sym c.is_left.ensures ∙ f.if-is_left.false))) in (
        f.at-is ∙ l.invariant.0 ∙ ap length z,
        l.invariant.1,
        ap length f.out-is ∙ l.invariant.2,
        f.out-is ∙ l.invariant.3 ∙ ap (λ (m : List ℕ). written m a.out.now) z,
      )
    ]

pub returns : goal.returns
returns c =
    let a = c.args in
    let l = c.loop-i in
    let n = pieces_length _ 3 owned a.windows.now in
    let all = front_all _ (gathers_left (board_of a.board)) (owned_of a.windows.now) l.i (omega (arith, n)) (omega (arith, n)) in
    record { answer = l.invariant.0 ∙ ap length all; buffer = l.invariant.3 ∙ ap (λ (m : List ℕ). written m a.out.now) all }
