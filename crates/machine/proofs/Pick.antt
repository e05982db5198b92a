-- The task that the code chooses is the one whose job the machine chooses
use mathlib.Core.Path.{◌≡◌, refl, sym, ap, ◌∙◌}
use mathlib.Core.Bool.{Bool, true, false, cond, false≢true}
use mathlib.Core.Logic.{◌⊎◌, inl, inr, ◌≢◌}
use mathlib.Core.Option.{Option, none, some}
use mathlib.Core.List.{List}
use Prim.Native.Nat.{ℕ, zero, suc, ◌+◌, ◌*◌, ◌≤◌, ◌<◌}
use native.Mathlib.Omega.{arith}
use native.Mathlib.Decide.{ℕ_discrete, dec_lt}
use lib.Dec.{ltb}
use lib.ListN.{length, get_or}
use borrow.Author.Tests.{ltb-true, ltb-false, lt-ltb, le-ltb, eq-eqb, ne_eqb}
use Rattle.std.specs.declared.option.Option as opt
use Rattle.std.specs.declared.option.Option.TheVariants.{Some, None}
use Rattle.scope.specs.Limits.{most_tasks}
use Rattle.scope.specs.Numbers.{sooner, first_by}
use Rattle.scope.specs.Tasks.{Task}
use Rattle.scope.specs.Jobs.{Job, release_of, task_of, deadline}
use Rattle.scope.specs.Machine.{pending, chosen}
use Rattle.theory.specs.Numbers.{below_suc, fits_true, true_fits, first_passes}
use Rattle.jobs.specs.Legal.{Tasks, Jobs}
use Rattle.machine.specs.declared.places.Place.{Place}
use Rattle.machine.specs.Bits.{mem, better_of, pick_to}
use Rattle.machine.specs.Places.{due_at, held_at, due_of, soonest_of}
use Rattle.machine.specs.Rule.{rule, choice}
use Rattle.machine.specs.Relation.{Holds, Sound, Split}

-- ---- the first in an order, where none passes the test, and where one that passes goes before every other

module _ (before : ℕ → ℕ → Bool) (p : ℕ → Bool) where
  none_passes : (n : ℕ) → ((j : ℕ) → j < n → p j ≡ true → ⊥) → first_by before p n ≡ none
  none_passes n h = go (first_by before p n) refl
    where
      go : (o : Option ℕ) → first_by before p n ≡ o → o ≡ none
      go none e = refl
      go (some c) e = let q = first_passes p before n c e in absurd (h c q.0 q.1)

  first_only : (n c : ℕ) → c < n → p c ≡ true →
      ((j : ℕ) → j < n → p j ≡ true → j ≢ c → (before c j ≡ true) × (before j c ≡ false)) → first_by before p n ≡ some c
  unfolding first_by
  first_only zero c l e h = absurd (omega arith)
  first_only (suc n) c l e h = elim (ℕ_discrete n c) [
    | yes q ↦ here q (first_by before p n) (below n (omega arith))
    | no q ↦ rw (first_only n c (omega arith) e (λ j m. h j (omega arith))) (there (p n) refl q)
  ]
    where
      -- what is found among the numbers below c: none, or one that c goes before
      After : Option ℕ → Type 0
      After none = Unit {0}
      After (some b) = before c b ≡ true

      after : (m : ℕ) → m < suc n → m ≢ c → (t : Bool) → p m ≡ t → (o : Option ℕ) → After o → After (cond t (sooner before m o) o)
      after m a u false r o f = f
      after m a u true r none f = (h m a r u).0
      after m a u true r (some b) f = two (before m b)
        where
          two : (t : Bool) → After (cond t (some m) (some b))
          two true = (h m a r u).0
          two false = f

      below : (m : ℕ) → m ≤ c → After (first_by before p m)
      below zero a = tt
      below (suc m) a = after m (omega arith) (omega arith) (p m) refl (first_by before p m) (below m (omega arith))

      here : n ≡ c → (o : Option ℕ) → After o → cond (p n) (sooner before n o) o ≡ some c
      here q o f = rw (q, e) (last o f)
        where
          last : (o : Option ℕ) → After o → sooner before c o ≡ some c
          last none f = refl
          last (some b) f = rw f

      -- what is found after c does not go before it
      there : (t : Bool) → p n ≡ t → n ≢ c → cond t (sooner before n (some c)) (some c) ≡ some c
      there false r q = refl
      there true r q = rw (h n (omega arith) r q).1

-- ---- the member with the least due number, ties to the lower

module _ (q : ℕ → Bool) (due : ℕ → ℕ) where
  -- by due number and then by the member itself, as one number
  abbrev key : ℕ → ℕ
  key i = most_tasks * due i + i

  -- the best of the numbers below n that pass, or none passes
  abbrev Picked : ℕ → opt.Option ℕ → Type 0
  Picked n None = (i : ℕ) → i < n → q i ≡ true → ⊥
  Picked n (Some b) = (b < n) × (q b ≡ true) × ((i : ℕ) → i < n → q i ≡ true → key b ≤ key i)

  -- the better of two is one of them, and its key is the lesser
  better_key : (b n : ℕ) → n < most_tasks → b < n → (t : Bool) → ltb (due n) (due b) ≡ t →
      (cond t n b < suc n) × ((cond t n b ≡ n) ⊎ (cond t n b ≡ b)) × (key (cond t n b) ≤ key b) × (key (cond t n b) ≤ key n)
  better_key b n m h true e = let z = ltb-true (due n) (due b) e in (omega arith, inl refl, omega arith, omega arith)
  better_key b n m h false e = let z = ltb-false (due n) (due b) e in (omega arith, inr refl, omega arith, omega arith)

  picked : (n : ℕ) → n ≤ most_tasks → Picked n (pick_to q due n)
  unfolding pick_to better_of
  picked zero l = λ i h e. absurd (omega arith)
  picked (suc n) l = go (q n) refl (pick_to q due n) (picked n (omega arith))
    where
      go : (t : Bool) → q n ≡ t → (b : opt.Option ℕ) → Picked n b → Picked (suc n) (cond t (Some (better_of due b n)) b)
      go false e None p = below_suc (λ i. q i ≡ true → ⊥) n p (λ z. false≢true (sym e ∙ z))
      go false e (Some b) p = (omega (arith, p.0), p.1, below_suc (λ i. q i ≡ true → key b ≤ key i) n p.2 (λ z. absurd (false≢true (sym e ∙ z))))
      go true e None p = (omega arith, e, below_suc (λ i. q i ≡ true → key n ≤ key i) n (λ i h z. absurd (p i h z)) (λ z. omega arith))
      go true e (Some b) p =
          let y = better_key b n (omega arith) p.0 (ltb (due n) (due b)) refl in
          let r : ℕ = cond (ltb (due n) (due b)) n b in (
            y.0,
            elim y.1 [ inl z ↦ ap q z ∙ e | inr z ↦ ap q z ∙ p.1 ],
            below_suc (λ i. q i ≡ true → key r ≤ key i) n (λ i h z. omega (arith, p.2 i h z, y.2)) (λ z. y.3),
          )

-- ---- the choice

-- the job that the machine chooses in tick k stands at the pending task i; it chooses none where there is no such task
abbrev pub Chosen : (ℕ → ℕ → Bool) → List Job → ℕ → List ℕ → ℕ → List Place → opt.Option ℕ → Type 0
Chosen before js k work pending places None = chosen before js k work ≡ none
Chosen before js k work pending places (Some i) = (i < most_tasks) × (mem pending i ≡ true) × (chosen before js k work ≡ some (held_at places i))

-- the code's choice is that of the rule, once the jobs of a tick are released
abbrev pub Follows : (ℕ → ℕ → Bool) → List Task → List Job → Type 0
Follows before ts js = (k : ℕ) (work : List ℕ) (pend next : ℕ) (places : List Place) → Split js (k + 1) (k + 1) next → Holds ts js work pend next places →
    Chosen before js k work pend places (choice pend places)

module _ (ts : List Task) (js : List Job) where
  -- the lesser by deadline and then task goes before the other, and not the other way round
  rule_ahead : (a b : ℕ) → most_tasks * deadline ts js a + task_of js a < most_tasks * deadline ts js b + task_of js b →
      task_of js a < most_tasks → task_of js b < most_tasks →
      (rule ts js a b ≡ true) × (rule ts js b a ≡ false)
  rule_ahead a b h la lb =
      let d : ℕ = deadline ts js a in
      let e : ℕ = deadline ts js b in
      elim (dec_lt d e) [
        | yes l ↦ (rw (lt-ltb d e l), rw (le-ltb e d (omega arith), ne_eqb e d (omega arith)))
        | no l ↦
            let q : d ≡ e = omega arith in (
              rw (le-ltb d e (omega arith), eq-eqb d e q, lt-ltb (task_of js a) (task_of js b) (omega arith)),
              rw (le-ltb e d (omega arith), eq-eqb e d (sym q), le-ltb (task_of js b) (task_of js a) (omega arith)),
            )
      ]

  module _ (k : ℕ) (work : List ℕ) (pend next : ℕ) (sp : Split js (k + 1) (k + 1) next) where
    -- once the jobs of tick k are released, the pending jobs are the released ones with work left
    pub pending_held : (j : ℕ) → j < length js → pending js k work j ≡ true → (j < next) × (0 < get_or work j 0)
    unfolding pending
    pending_held j l q =
        let p = fits_true (release_of js j) k 1 (get_or work j 0) q in
        elim (dec_lt j next) [ yes a ↦ (a, p.1) | no a ↦ absurd (omega (arith, p.0, sp.later j (omega arith) l)) ]

    pub held_pending : (j : ℕ) → j < next → 0 < get_or work j 0 → pending js k work j ≡ true
    unfolding pending
    held_pending j a q = true_fits (release_of js j) k 1 (get_or work j 0) (omega (arith, sp.early j a)) q

    module _ (places : List Place) (tasks : Tasks ts) (legal : Jobs ts js) (h : Holds ts js work pend next places) where
      chosen_is : Chosen (rule ts js) js k work pend places (choice pend places)
      chosen_is = go (choice pend places) (picked (mem pend) (due_at places) most_tasks (omega arith))
        where
          -- the task of a job
          low : (j : ℕ) → j < length js → task_of js j < most_tasks
          low j a = omega (arith, legal.known j a, tasks.few)

          go : (i : opt.Option ℕ) → Picked (mem pend) (due_at places) most_tasks i → Chosen (rule ts js) js k work pend places i
          go None p = none_passes (rule ts js) (pending js k work) (length js) (λ j a q.
              let r = pending_held j a q in p (task_of js j) (low j a) (h.held j r.0 r.1).0)
          go (Some i) p =
              let z = h.place i p.0 p.1 in
              let c : ℕ = held_at places i in (
                p.0,
                p.1,
                first_only (rule ts js) (pending js k work) (length js) c (omega (arith, z.known, sp.bound))
                    (held_pending c z.known (omega (arith, z.left, z.some)))
                    (λ j a q u.
                    let r = pending_held j a q in
                    let y = h.held j r.0 r.1 in
                    let x : ℕ = task_of js j in
                    let w = h.place x (low j a) y.0 in
                    let apart : x ≢ i = λ g. u (sym y.1 ∙ ap (held_at places) g) in
                    let d : deadline ts js (held_at places x) ≡ deadline ts js j = ap (deadline ts js) y.1 in
                    rule_ahead c j (omega (arith, p.2 x (low j a) y.0, z.due, z.same, w.due, d, apart, low j a))
                    (omega (arith, z.same, p.0)) (low j a)),
              )

  -- the machine's rule is followed
  pub chosen_follows : Tasks ts → Jobs ts js → Follows (rule ts js) ts js
  chosen_follows tasks legal k work pend next places sp h = chosen_is k work pend next sp places tasks legal h

-- ---- the soonest deadline

-- no pending task is due before the soonest
pub soonest_sound : (pend : ℕ) (places : List Place) → Sound pend places (soonest_of pend places)
unfolding soonest_of
soonest_sound pend places i l e = go (pick_to (mem pend) (due_at places) most_tasks) (picked (mem pend) (due_at places) most_tasks (omega arith))
  where
    go : (b : opt.Option ℕ) → Picked (mem pend) (due_at places) most_tasks b → due_of places b ≤ due_at places i
    go None p = absurd (p i l e)
    go (Some b) p = omega (arith, p.2 i l e, p.0)
