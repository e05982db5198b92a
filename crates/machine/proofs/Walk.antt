-- A walk through a set from its lowest member up, with the best member so far
use Prim.Native.Nat.{ℕ, zero, suc, ◌+◌, ◌≤◌, ◌<◌}
use mathlib.Core.Path.{◌≡◌, refl, sym, ap, ◌∙◌}
use mathlib.Core.Bool.{Bool, true, false, cond, true≢false}
use native.Mathlib.Decide.{dec_lt, le_ind, ℕ_discrete}
use native.Mathlib.Omega.{arith}
use lib.Dec.{ltb}
use Rattle.std.specs.declared.option.Option.{Option}
use Rattle.std.specs.declared.option.Option.TheVariants.{Some, None}
use Rattle.scope.specs.Limits.{most_tasks}
use Rattle.scope.specs.Numbers.{bit}
use Rattle.theory.specs.Numbers.{sum_but}
use Rattle.machine.specs.Bits.{mem, removed, members, IsTask, better_of, pick_to}
use Rattle.machine.proofs.Sets.{mem_none, removed_same, removed_other, Lowest}

-- without its lowest member a set has none up to it
gone_more : (rest i : ℕ) → Lowest rest i → (j : ℕ) → j < suc i → mem (removed rest i) j ≡ false
gone_more rest i low j l =
    elim (ℕ_discrete i j) [
      | yes e ↦ ap (mem (removed rest i)) (sym e) ∙ removed_same rest i
      | no n ↦ removed_other rest i j n ∙ low.below j (omega arith)
    ]

-- the walk ends: the members left get fewer
pub seen_fewer : (rest i : ℕ) → Lowest rest i → i < most_tasks → members (removed rest i) < members rest
seen_fewer rest i low l =
    let e : bit (mem (removed rest i) i) + 1 ≡ bit (mem rest i) = rw (removed_same rest i, low.member) in
    omega (
      arith,
      sum_but (λ j. bit (mem rest j)) (λ j. bit (mem (removed rest i) j)) 1 most_tasks i l e
          (λ j ne. ap bit (removed_other rest i j (λ q. ne (sym q)))),
    )

-- what is picked is a task
pub pick_task : (q : ℕ → Bool) (due : ℕ → ℕ) (n : ℕ) → n ≤ most_tasks → IsTask (pick_to q due n)
unfolding pick_to better_of
pick_task q due zero l = tt
pick_task q due (suc n) l = go (q n) (pick_to q due n) (pick_task q due n (omega arith))
  where
    go : (t : Bool) (b : Option ℕ) → IsTask b → IsTask (cond t (Some (better_of due b n)) b)
    go false b h = h
    go true None h = omega arith
    go true (Some b) h = two (ltb (due n) (due b))
      where
        two : (t : Bool) → cond t n b < most_tasks
        two true = omega arith
        two false = h

module _ (x : ℕ) (due : ℕ → ℕ) where
  -- numbers that are no members are passed over
  pick_skip : (k i : ℕ) → k ≤ i → ((j : ℕ) → k ≤ j → j < i → mem x j ≡ false) → pick_to (mem x) due i ≡ pick_to (mem x) due k
  unfolding pick_to
  pick_skip k i l h =
      le_ind (λ (m : ℕ). ((j : ℕ) → k ≤ j → j < m → mem x j ≡ false) → pick_to (mem x) due m ≡ pick_to (mem x) due k) (λ _. refl)
      (λ m a ih f. rw (f m a (omega arith)) (ih (λ j b c. f j b (omega arith)))) i l h

  -- the members of x below `upto` are seen, the others are left, and the best is the best of those seen
  pub record Seen (rest : ℕ) (best : Option ℕ) : Type 0 where
    pub upto : ℕ
    pub bound : upto ≤ most_tasks
    pub gone : (j : ℕ) → j < upto → mem rest j ≡ false
    pub left : (j : ℕ) → upto ≤ j → mem rest j ≡ mem x j
    pub is : best ≡ pick_to (mem x) due upto

  pub seen_none : Seen x None
  unfolding pick_to
  seen_none = record { upto = 0; bound = omega arith; gone = λ j l. absurd (omega arith); left = λ j l. refl; is = refl }

  pub seen_all : (rest : ℕ) (best : Option ℕ) → rest ≡ 0 → Seen rest best → best ≡ pick_to (mem x) due most_tasks
  seen_all rest best e s =
      s.is ∙ sym (pick_skip s.upto most_tasks s.bound (λ j a b. sym (s.left j a) ∙ ap (λ (y : ℕ). mem y j) e ∙ mem_none j))

  -- the best of those seen is a task
  pub seen_task : (rest : ℕ) (best : Option ℕ) → Seen rest best → IsTask best
  seen_task rest best s = rw s.is (pick_task (mem x) due s.upto s.bound)

  -- a member that is left is not seen yet
  reached : (rest : ℕ) (best : Option ℕ) (i : ℕ) → mem rest i ≡ true → (s : Seen rest best) → s.upto ≤ i
  reached rest best i h s = elim (dec_lt i s.upto) [ yes a ↦ absurd (true≢false (sym h ∙ s.gone i a)) | no n ↦ omega arith ]

  pub seen_more : (rest : ℕ) (best : Option ℕ) (i : ℕ) → Lowest rest i → i < most_tasks → Seen rest best → Seen (removed rest i) (Some (better_of due best i))
  unfolding pick_to
  seen_more rest best i low l s =
      let k : s.upto ≤ i = reached rest best i low.member s in
      let same : pick_to (mem x) due i ≡ best = pick_skip s.upto i k (λ j a b. sym (s.left j a) ∙ low.below j b) ∙ sym s.is in
      record {
        upto = suc i;
        bound = omega arith;
        gone = gone_more rest i low;
        left = λ j a. removed_other rest i j (omega arith) ∙ s.left j (omega arith);
        is = rw (sym (s.left i k) ∙ low.member, same);
      }
