use mathlib.Core.Path.{◌≡◌, refl, sym, ap, ap₂, ◌∙◌}
use mathlib.Core.List.{List}
use Prim.Native.Nat.{ℕ, suc, ◌+◌, ◌*◌, ◌/◌, ◌<◌}
use native.Mathlib.Omega.{arith}
use lib.ListN.{length, get_or, set, length-set}
use Rattle.scope.specs.Numbers.{written}
use Rattle.theory.specs.Buffers.{written_none, written_more}
use Rattle.theory.specs.Alone.{owned_length}
use Rattle.shared.proofs.SharedLaws.{threes_none, threes_length, threes_more, threes_all, threes_left, length_two, written_three}
use Rattle.shared.proofs.table.write_owned.Lts as lts
use Rattle.shared.proofs.table.write_owned.Reads as reads
use Rattle.shared.proofs.table.write_owned.Goals as goal

abbrev After-shared_slice_known : Type 0
After-shared_slice_known = lts.After-shared_slice_known reads.Pre reads.Post goal.the-invariant-loop-i goal.the-decreases-loop-i

abbrev After-shared_slice_known3 : Type 0
After-shared_slice_known3 = lts.After-shared_slice_known3 reads.Pre reads.Post goal.the-invariant-loop-i goal.the-decreases-loop-i

-- where three numbers are to be written there is room for them
room : (c : After-shared_slice_known) → 3 * c.loop-i.i + 2 < length c.loop-i.out
room c =
    let a = c.args in
    let l = c.loop-i in
    omega (arith, l.invariant.0, l.invariant.1, owned_length a.owner a.windows.now, c.loop-i-test.true)

pub loop-i-init : goal.loop-i-init
loop-i-init c =
    let a = c.args in
    (c.requires, refl, sym (ap (λ (l : List ℕ). written l a.out.now) (threes_none a.owner a.windows.now) ∙ written_none _))

pub bounds-out-i : goal.bounds-out-i
bounds-out-i c = let h = room c.before in omega arith

pub bounds-out-i-in-loop-i : goal.bounds-out-i-in-loop-i
bounds-out-i-in-loop-i c =
    let l = c.loop-i in
    let h = room c.before.before in
    omega (arith, length-set l.out (3 * l.i) (get_or c.args.windows.now (2 * l.i) 0))

pub bounds-out-i-in-loop-i-2 : goal.bounds-out-i-in-loop-i-2
bounds-out-i-in-loop-i-2 c =
    let a = c.args in
    let l = c.loop-i in
    let h = room c.before.before in
    omega (arith, length_two l.out (3 * l.i) (3 * l.i + 1) (get_or a.windows.now (2 * l.i) 0) (get_or a.windows.now (2 * l.i + 1) 0))

pub loop-i-preserved : goal.loop-i-preserved
loop-i-preserved c =
    let a = c.args in
    let l = c.loop-i in
    let ws = a.windows.now in
    let h = room c.before.before in
    let low : 2 * l.i + 1 < length ws = omega (arith, c.loop-i-test.true) in
    let three = written_three _ a.out.now (3 * l.i) (get_or ws (2 * l.i) 0) (get_or ws (2 * l.i + 1) 0) a.owner l.out
    (sym (threes_length a.owner ws l.i (omega arith))) l.invariant.2 (omega (arith, l.invariant.1)) in (
      l.invariant.0,
      length-set (set (set l.out (3 * l.i) (get_or ws (2 * l.i) 0)) (3 * l.i + 1) (get_or ws (2 * l.i + 1) 0)) (3 * l.i + 2) a.owner
          ∙ length_two l.out (3 * l.i) (3 * l.i + 1) (get_or ws (2 * l.i) 0) (get_or ws (2 * l.i + 1) 0) ∙ l.invariant.1,
      three ∙ ap (λ (m : List ℕ). written m a.out.now) (sym (threes_more a.owner ws l.i low)),
    )

-- and for the number that is left over
left_room : (c : After-shared_slice_known3) →
    let l = c.loop-i in
    (length c.args.windows.now ≡ suc (2 * l.i)) × (3 * l.i < length l.out)
left_room c =
    let a = c.args in
    let l = c.loop-i in
    let odd = c.if-windows-eq1.true in
    let done = c.loop-i-test.false in
    let e : length a.windows.now ≡ suc (2 * l.i) = omega arith in
    (e, omega (arith, l.invariant.0, l.invariant.1, owned_length a.owner a.windows.now))

pub bounds-out-count : goal.bounds-out-count
bounds-out-count c = let h = left_room c.before in omega arith

pub returns-then-windows-eq1 : goal.returns-then-windows-eq1
returns-then-windows-eq1 c =
    let a = c.args in
    let l = c.loop-i in
    let r = left_room c.before in
    let front = threes_length a.owner a.windows.now l.i (omega (arith, r.0)) in
    let past : length a.windows.now / 2 ≡ l.i = omega arith in
    rw past (ap₂ (λ (m : List ℕ) (n : ℕ). set m n (get_or a.windows.now (2 * l.i) 0)) l.invariant.2 (sym front)
    ∙ written_more _ a.out.now (get_or a.windows.now (2 * l.i) 0) (omega (arith, front, l.invariant.1, r.1))
    ∙ ap (λ (m : List ℕ). written m a.out.now) (sym (threes_left a.owner a.windows.now l.i r.0)))

pub returns-else-windows-eq1 : goal.returns-else-windows-eq1
returns-else-windows-eq1 c =
    let a = c.args in
    let l = c.loop-i in
    let whole : length a.windows.now ≡ 2 * l.i = omega (arith, l.invariant.0, c.loop-i-test.false, c.if-windows-eq1.false) in
    l.invariant.2 ∙ ap (λ (m : List ℕ). written m a.out.now) (threes_all a.owner a.windows.now l.i whole)
