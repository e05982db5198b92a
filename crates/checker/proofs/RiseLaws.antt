-- The lengths at which the demand rises, as the code finds them: task by task
use mathlib.Core.Path.{◌≡◌, refl, sym, ap, ◌∙◌}
use mathlib.Core.List.{List}
use Prim.Native.Nat.{ℕ, ◌+◌, ◌-◌, ◌*◌, ◌/◌, ◌≤◌, ◌<◌, min}
use native.Mathlib.Omega.{arith}
use native.Mathlib.Decide.{ℕ_discrete}
use native.Mathlib.Numerals.{add-one}
use lib.ListN.{length, get_or, set, length-set}
use lib.Seq.{get_or-set_same, get_or-set_other, set-get_or}
use borrow.Author.Count.{below_more}
use borrow.Author.Tests.{eq-eqb, ne_eqb}
use Rattle.scope.specs.Limits.{most_tasks, most_of_task, most_length, most_number}
use Rattle.scope.specs.Tasks.{Task, task, tasks_of, task_at, task_demand}
use Rattle.theory.specs.Lists.{pieces_length}
use Rattle.theory.specs.Answers.{LegalGroup}
use Rattle.theory.specs.Tasks.{TaskRule}
use Rattle.theory.specs.Dues.{due_after, due_first, due_hit, due_miss, soonest}
use Rattle.tables.proofs.TaskLaws.{read_rule}
use Rattle.checker.specs.Rises.{Due, work_at, later_due, Risen}
use Rattle.checker.proofs.DemandLaws.{demand_to, demand_to_none, demand_to_next, demand_to_whole, demand_to_most}

-- one task reaches length t: its deadline after t, and what its demand rises by
reached : (x : Task) → TaskRule x → (t here later work : ℕ) → here ≡ due_after x (t - 1) → later ≡ later_due x t here →
    work ≡ work_at x t here → (later ≡ due_after x t) × (task_demand x t ≡ task_demand x (t - 1) + work)
reached x ok t here later work e el ew =
    elim (ℕ_discrete here t) [
      | yes h ↦
          let same = eq-eqb here t h in
          let hit = due_hit x ok t (sym h ∙ e) in
          let later-is : later ≡ t + x.T = rw same at el in
          let work_is : work ≡ x.C = rw same at ew in
          omega (arith, hit, later-is, work_is)
      | no h ↦
          let other = ne_eqb here t h in
          let miss = due_miss x ok t (λ q. h (e ∙ sym q)) in
          let later-is : later ≡ here = rw other at el in
          let work_is : work ≡ 0 = rw other at ew in
          omega (arith, miss, later-is, work_is, e)
    ]

-- the code's two ways: a deadline that is later stays, and one that is reached moves on
module _ (x : Task) (t : ℕ) (due : List ℕ) (i : ℕ) where
  pub reach_not : (get_or due i 0 ≡ t → ⊥) → (0 ≡ work_at x t (get_or due i 0)) × (due ≡ set due i (later_due x t (get_or due i 0)))
  reach_not u = let other = ne_eqb (get_or due i 0) t u in (rw other, rw other (sym (set-get_or due i 0)))

  pub reach_now : (y : Task) → y ≡ x → get_or due i 0 ≡ t →
      (y.C ≡ work_at x t (get_or due i 0)) × (set due i (t + y.T) ≡ set due i (later_due x t (get_or due i 0)))
  reach_now y read e =
      let same = eq-eqb (get_or due i 0) t e in
      (rw same (ap (λ (z : Task). z.C) read), rw same (ap (λ (z : Task). set due i (t + z.T)) read))

module _ (ts : List ℕ) (ok : LegalGroup ts) where
  abbrev n : ℕ
  n = length ts / 3

  abbrev x : ℕ → Task
  x = task_at (tasks_of ts)

  count : length (tasks_of ts) ≡ n
  count = pieces_length _ 3 task ts

  -- a number more is written
  set_more : (f : ℕ → ℕ) (due : List ℕ) (i d : ℕ) → i < length due → d ≡ f i → ((j : ℕ) → j < i → get_or due j 0 ≡ f j) →
      (j : ℕ) → j < i + 1 → get_or (set due i d) j 0 ≡ f j
  set_more f due i d h e low =
      below_more (λ (j : ℕ). get_or (set due i d) j 0 ≡ f j) i
      (λ j l. get_or-set_other due i j d 0 (λ q. omega arith) ∙ low j l) (get_or-set_same due i d 0 h ∙ e)

  -- ---- the first deadlines

  pub record Begun (i : ℕ) (due : List ℕ) : Type 0 where
    pub size : length due ≡ most_tasks
    pub each : (j : ℕ) → j < i → get_or due j 0 ≡ due_after (x j) 0

  pub begun_more : (i : ℕ) (due : List ℕ) (y : Task) → i < n → y ≡ x i → Begun i due → Begun (i + 1) (set due i y.D)
  begun_more i due y h read so =
      let deadline : y.D ≡ due_after (x i) 0 = ap (λ (z : Task). z.D) read ∙ sym (due_first (x i) (read_rule ts i (x i) ok h refl)) in
      record {
        size = length-set due i y.D ∙ so.size;
        each = set_more (λ j. due_after (x j) 0) due i y.D (omega (arith, so.size, ok.few)) deadline so.each;
      }

  pub begun_all : (i : ℕ) (due : List ℕ) → n ≤ i → Begun i due → Due (tasks_of ts) 0 due
  begun_all i due h so = record { size = so.size; each = λ j l. so.each j (omega (arith, count)) }

  -- ---- on to length t

  -- the first i tasks have reached it, the others are at the length before it
  pub record Moving (t i : ℕ) (due : List ℕ) (by next : ℕ) : Type 0 where
    pub size : length due ≡ most_tasks
    pub done : (j : ℕ) → j < i → get_or due j 0 ≡ due_after (x j) t
    pub left : (j : ℕ) → i ≤ j → j < n → get_or due j 0 ≡ due_after (x j) (t - 1)
    pub risen : demand_to (tasks_of ts) t i ≡ demand_to (tasks_of ts) (t - 1) i + by
    pub soon : next ≡ soonest (tasks_of ts) t i

  pub moving_none : (t : ℕ) (due : List ℕ) → Due (tasks_of ts) (t - 1) due → Moving t 0 due 0 most_number
  unfolding soonest
  moving_none t due so = record {
    size = so.size;
    done = λ j l. absurd (omega arith);
    left = λ j l m. so.each j (omega (arith, count));
    risen = omega (arith, demand_to_none (tasks_of ts) t, demand_to_none (tasks_of ts) (t - 1));
    soon = refl;
  }

  module _ (t i : ℕ) (due : List ℕ) (by next : ℕ) (so : Moving t i due by next) (h : i < n) where
    abbrev later : ℕ
    later = later_due (x i) t (get_or due i 0)

    abbrev work : ℕ
    work = work_at (x i) t (get_or due i 0)

    -- the deadline has its place
    pub in_room : i < length due
    in_room = omega (arith, so.size, ok.few)

    step : (later ≡ due_after (x i) t) × (task_demand (x i) t ≡ task_demand (x i) (t - 1) + work)
    step = reached (x i) (read_rule ts i (x i) ok h refl) t (get_or due i 0) later work (so.left i (omega arith) h) refl refl

    -- the sum with task i in it, which is small
    sum_more : demand_to (tasks_of ts) t (i + 1) ≡ demand_to (tasks_of ts) (t - 1) (i + 1) + (by + work)
    sum_more = omega (arith, so.risen, step.1, demand_to_next (tasks_of ts) t i, demand_to_next (tasks_of ts) (t - 1) i)

    pub by_most : (w : ℕ) → w ≡ work → t ≤ most_length → by + w ≤ most_tasks * (most_length * most_of_task)
    by_most w e l = omega (arith, e, sum_more, demand_to_most ts t (i + 1) ok l (omega arith))

    -- task i has reached t too
    pub moving_more : (due' : List ℕ) (w m : ℕ) → due' ≡ set due i later → w ≡ work → m ≡ min next (get_or due' i 0) → Moving t (i + 1) due' (by + w) m
    unfolding soonest
    moving_more due' w m ed ew em =
        let here : get_or due' i 0 ≡ later = ap (λ (l : List ℕ). get_or l i 0) ed ∙ get_or-set_same due i later 0 in_room in
        rw (ed, ew) (record {
          size = length-set due i later ∙ so.size;
          done = set_more (λ j. due_after (x j) t) due i later in_room step.0 so.done;
          left = λ j l k. get_or-set_other due i j later 0 (λ q. omega arith) ∙ so.left j (omega arith) k;
          risen = sum_more;
          soon = rw (add-one i) (omega (arith, em, here, so.soon, step.0));
        })

  pub moving_all : (t i : ℕ) (due : List ℕ) (by next : ℕ) → i ≡ n → Moving t i due by next →
      Risen (tasks_of ts) t due (record { by = by; next = next })
  moving_all t i due by next e so = record {
    after = record { size = so.size; each = λ j l. so.done j (omega (arith, count)) };
    by = omega (arith, so.risen, demand_to_whole ts t i e, demand_to_whole ts (t - 1) i e);
    next = so.soon ∙ ap (soonest (tasks_of ts) t) (e ∙ sym count);
  }

pub ruleset reaching = (reach_not, reach_now, read_rule)
