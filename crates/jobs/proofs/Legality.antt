-- The rule of a legal job list: its test by cases, and what it gives
use mathlib.Core.Path.{◌≡◌, refl, sym, ap, ◌∙◌}
use mathlib.Core.Bool.{Bool, true, false, not, cond, ◌&&◌, ◌||◌}
use mathlib.Core.Logic.{◌≢◌, inl, inr}
use mathlib.Core.Option.{none}
use mathlib.Core.List.{List, []}
use Prim.Native.Nat.{ℕ, zero, suc, ◌+◌, ◌-◌, ◌≤◌, ◌<◌, max}
use native.Mathlib.Omega.{arith}
use native.Mathlib.Numerals.{add-one}
use native.Mathlib.Decide.{ℕ_discrete, dec_le, le_ind}
use lib.Dec.{leb, ltb, eqb}
use lib.ListN.{length, get_or, set, replicate, length-set}
use lib.Seq.{get_or-set_same, get_or-set_other}
use borrow.Author.Tests.{lt-ltb, le-ltb, leb-true, le-leb, lt-leb, eq-eqb, ne_eqb}
use Rattle.scope.specs.Numbers.{bad_count}
use Rattle.scope.specs.Limits.{most_tasks, most_ticks, most_jobs}
use Rattle.scope.specs.Tasks.{Task, task, tasks_of, task_at}
use Rattle.scope.specs.Jobs.{Job, jobs_of, job_at, release_of, task_of, work_of, in_order, apart, job_legal, bad_job}
use Rattle.scope.specs.Answers.{Fault.fine, Fault.fault, job_list_fault, job_fault}
use Rattle.theory.specs.Numbers.{bool_cases, all_true, true_all, by_lexically}
use Rattle.theory.specs.Lists.{pieces_length}
use Rattle.theory.specs.Jobs.{JobRule, job_rules}
use Rattle.theory.specs.Answers.{LegalGroup}
use Rattle.tables.proofs.FaultLaws.{breaks_at_lem, breaks_nowhere}
use Rattle.jobs.specs.Legal.{Tasks, Jobs, free_at, FreeTable}

-- ---- the job list and the ticks, refusal 10

module _ (n : ℕ) where
  module _ (js : List ℕ) where
    pub bad_list : bad_count 3 most_jobs js ≡ true → fault 10 0 ≡ job_list_fault n js
    unfolding job_list_fault
    bad_list e = rw e

    -- of a list that is counted right the ticks alone are judged
    pub good_list : bad_count 3 most_jobs js ≡ false → job_list_fault n [] ≡ job_list_fault n js
    unfolding job_list_fault bad_count
    good_list e = sym (rw e)

-- ---- the first free tick of a task: the greatest of the earlier jobs' releases, T later each

module _ (ts : List Task) (js : List Job) (t : ℕ) where
  -- when the task is free after job i
  abbrev after : ℕ → ℕ
  after i = release_of js i + (task_at ts t).T

  -- no earlier job of the task is freed later
  free_above : (m i : ℕ) → i < m → task_of js i ≡ t → after i ≤ free_at ts js t m
  unfolding free_at
  free_above zero i l e = absurd (omega arith)
  free_above (suc m) i l e = elim (ℕ_discrete i m) [
    | yes g ↦ rw (eq-eqb (task_of js m) t (ap (task_of js) (sym g) ∙ e)) (omega (arith, ap (release_of js) g))
    | no g ↦ go (eqb (task_of js m) t) (free_above m i (omega arith) e)
  ]
    where
      go : (b : Bool) → after i ≤ free_at ts js t m → after i ≤ cond b (max (free_at ts js t m) (after m)) (free_at ts js t m)
      go true h = omega arith
      go false h = h

  -- it is no more than what all of them are below
  free_below : (b m : ℕ) → ((i : ℕ) → i < m → task_of js i ≡ t → after i ≤ b) → free_at ts js t m ≤ b
  unfolding free_at
  free_below b zero h = omega arith
  free_below b (suc m) h =
      let low = free_below b m (λ i l. h i (omega arith)) in
      elim (ℕ_discrete (task_of js m) t) [
        | yes e ↦ rw (eq-eqb (task_of js m) t e) (omega (arith, low, h m (omega arith) e))
        | no u ↦ rw (ne_eqb (task_of js m) t u) low
      ]

-- a job is apart from all earlier ones of its task exactly where the task is free
module _ (ts : List Task) (js : List Job) (j : ℕ) where
  abbrev i : ℕ
  i = task_of js j

  abbrev r : ℕ
  r = release_of js j

  -- job k leaves room for job j
  abbrev leaves : ℕ → Bool
  leaves k = not (eqb (task_of js k) i) || leb (release_of js k + (task_at ts i).T) r

  leaves_room : (k : ℕ) → leaves k ≡ true → task_of js k ≡ i → release_of js k + (task_at ts i).T ≤ r
  leaves_room k h e = leb-true _ _ (rw (eq-eqb (task_of js k) i e) at h)

  room_leaves : (k : ℕ) → (task_of js k ≡ i → release_of js k + (task_at ts i).T ≤ r) → leaves k ≡ true
  room_leaves k h = elim (ℕ_discrete (task_of js k) i) [
    | yes e ↦ rw (eq-eqb (task_of js k) i e) (le-leb _ _ (h e))
    | no u ↦ rw (ne_eqb (task_of js k) i u)
  ]

  pub apart_free : apart ts js j ≡ leb (free_at ts js i j) r
  apart_free = elim (dec_le (free_at ts js i j) r) [
    | yes h ↦ true_all leaves j (λ k l. room_leaves k (λ e. omega (arith, free_above ts js i j k l e))) ∙ sym (le-leb _ _ h)
    | no h ↦ elim (bool_cases (apart ts js j)) [
      | inl e ↦ absurd (h (free_below ts js i r j (λ k l. leaves_room k (all_true leaves j e k l))))
      | inr e ↦ e ∙ sym (lt-leb (free_at ts js i j) r (omega arith))
    ]
  ]

-- ---- the whole rule, by cases

module _ (ts : List Task) (n : ℕ) (js : List Job) (j : ℕ) where
  pub bad_order : false ≡ in_order js j → false ≡ job_legal ts n js j
  unfolding job_legal
  bad_order e = rw (← e)

  -- x is the job, as the code read it
  module _ (x : Job) (is : x ≡ job_at js j) (e : true ≡ in_order js j) where
    task_is : x.task ≡ task_of js j
    task_is = ap (λ (z : Job). z.task) is

    work_is : x.work ≡ work_of js j
    work_is = ap (λ (z : Job). z.work) is

    release_is : x.release ≡ release_of js j
    release_is = ap (λ (z : Job). z.release) is

    pub bad_task_lem : length ts ≤ x.task → false ≡ job_legal ts n js j
    unfolding job_legal
    bad_task_lem h = rw (← e, ← task_is, le-ltb x.task (length ts) h)

    module _ (a : x.task < length ts) where
      pub bad_none : x.work ≡ 0 → false ≡ job_legal ts n js j
      unfolding job_legal
      bad_none h = rw (← e, ← task_is, lt-ltb x.task (length ts) a, ← work_is, lt-leb 1 x.work (omega arith))

      module _ (p : x.work ≢ 0) where
        pub bad_most : (task_at ts x.task).C < x.work → false ≡ job_legal ts n js j
        unfolding job_legal
        bad_most h =
            rw (← e, ← task_is, lt-ltb x.task (length ts) a, ← work_is, le-leb 1 x.work (omega arith), lt-leb x.work (task_at ts x.task).C h)

        module _ (m : x.work ≤ (task_at ts x.task).C) where
          -- all but the last two
          first_four : job_legal ts n js j ≡ ltb x.release n && apart ts js j
          unfolding job_legal
          first_four =
              rw (
                ← e,
                ← task_is,
                lt-ltb x.task (length ts) a,
                ← work_is,
                le-leb 1 x.work (omega arith),
                le-leb x.work (task_at ts x.task).C m,
                ← release_is,
              )

          pub bad_late : n ≤ x.release → false ≡ job_legal ts n js j
          bad_late h = rw (first_four, le-ltb x.release n h)

          pub by_free : x.release < n → (f : ℕ) → f ≡ free_at ts js x.task j → leb f x.release ≡ job_legal ts n js j
          by_free h f ef = rw (first_four, lt-ltb x.release n h, apart_free ts js j, ← task_is, ← release_is, ← ef)

-- ---- the table of the first free ticks

get_d_zeros : (n x : ℕ) → get_or {A = ℕ} (replicate n 0) x 0 ≡ 0
get_d_zeros zero x = refl
get_d_zeros (suc n) zero = refl
get_d_zeros (suc n) (suc x) = get_d_zeros n x

pub free_first : (ts : List Task) (js : List Job) → FreeTable ts js 0 (replicate most_tasks 0)
unfolding free_at
free_first ts js = record { size = refl; is = λ x l. get_d_zeros most_tasks x }

-- one job further: a legal job's task is free, so that its next free tick is T after the release
module _ (ts : List Task) (n : ℕ) (js : List Job) (j : ℕ) (rule : JobRule ts n js j)
    (free : List ℕ) (table : FreeTable ts js j free) (few : length ts ≤ most_tasks) where
  free_at_lem : (i v : ℕ) → i ≡ task_of js j → v ≡ release_of js j + (task_at ts i).T → (x : ℕ) → x < most_tasks → get_or (set free i v) x 0 ≡ free_at ts js x (j + 1)
  unfolding free_at
  free_at_lem i v ei ev x l =
      rw (add-one j) (elim (ℕ_discrete x i) [
        | yes g ↦
            let q : max (free_at ts js x j) (release_of js j + (task_at ts x).T) ≡ v =
            omega (
              arith,
              free_below ts js (task_of js j) (release_of js j) j rule.apart,
              ap (λ (y : ℕ). free_at ts js y j) (g ∙ ei),
              ap (λ (y : ℕ). (task_at ts y).T) g,
            ) in
            rw (eq-eqb (task_of js j) x (sym ei ∙ sym g), q) (rw g (get_or-set_same free i v 0 (omega (arith, rule.known, table.size))))
        | no g ↦ rw (ne_eqb (task_of js j) x (λ e. g (sym e ∙ sym ei))) (get_or-set_other free i x v 0 g ∙ table.is x l)
      ])

  pub free_next : (i r t : ℕ) → i ≡ task_of js j → r ≡ release_of js j → t ≡ (task_at ts i).T → FreeTable ts js (j + 1) (set free i (r + t))
  free_next i r t ei er et = record { size = length-set free i (r + t) ∙ table.size; is = λ x l. free_at_lem i (r + t) ei (omega arith) x l }

-- ---- the first job that breaks the rule, refusal 11

module _ (tasks : List ℕ) (n : ℕ) (jobs : List ℕ) where
  -- whether job k keeps its rule
  abbrev pub kept : ℕ → Bool
  kept k = job_legal (tasks_of tasks) n (jobs_of jobs) k

  pub job_bad : (j : ℕ) → j < length (jobs_of jobs) → ((k : ℕ) → k < j → kept k ≡ true) → kept j ≡ false → fault 11 j ≡ job_fault (tasks_of tasks) n (jobs_of jobs)
  unfolding job_fault bad_job
  job_bad = breaks_at_lem 11 kept (length (jobs_of jobs))

  pub jobs_fine : ((k : ℕ) → k < length (jobs_of jobs) → kept k ≡ true) → fine ≡ job_fault (tasks_of tasks) n (jobs_of jobs)
  unfolding job_fault bad_job
  jobs_fine = breaks_nowhere 11 kept (length (jobs_of jobs))

-- ---- what a legal list keeps

module _ (ts : List Task) (n : ℕ) (js : List Job) (legal : bad_job ts n js ≡ none) where
  -- from one job to the next, and so from any to any later
  one_up : (j : ℕ) → suc j < length js → release_of js j ≤ release_of js (suc j)
  one_up j l =
      let e : suc j - 1 ≡ j = omega arith in
      let order = rw (ne_eqb (suc j) 0 (omega arith), e) at (job_rules ts n js legal (suc j) l).order in
      (by_lexically (release_of js) (λ a b. ltb (task_of js a) (task_of js b))).ahead j (suc j) order

  up : (i j : ℕ) → i ≤ j → j < length js → release_of js i ≤ release_of js j
  up i j a = le_ind (λ (x : ℕ). x < length js → release_of js i ≤ release_of js x)
      (λ l. omega arith) (λ x b ih l. omega (arith, ih (omega arith), one_up x l)) j a

  pub jobs_of_lem : n ≤ most_ticks → length js ≤ most_jobs → Jobs ts js
  jobs_of_lem small few =
      let rule = job_rules ts n js legal in
      record {
        few = few;
        known = λ j l. (rule j l).known;
        some = λ j l. (rule j l).some;
        small = λ j l. omega (arith, (rule j l).inside);
        rises = up;
        apart = λ i j a l e. (rule j l).apart i a e;
      }

pub tasks_of_lem : (ts : List ℕ) → LegalGroup ts → Tasks (tasks_of ts)
tasks_of_lem ts ok = record { few = omega (arith, pieces_length _ 3 task ts, ok.few); rules = ok.rules; within = ok.within }
