-- Demand 3, first half: where the verdict is "meets", every legal run under earliest deadline first meets every deadline
use Rattle.std.specs.Prelude.{◌≡◌, refl, Bool, false, ◌&&◌, leb, length, get_or}
use Rattle.std.proofs.Math.Option.{none}
use mathlib.Core.List.{List}
use Prim.Native.Nat.{ℕ, ◌+◌, ◌≤◌, ◌<◌}
use native.Mathlib.Omega.{arith}
use Rattle.std.proofs.Common.{le_trans}
use borrow.Author.Tests.{le-ltb, leb-true, le-leb, eq-eqb}
use Rattle.scope.specs.Numbers.{when}
use Rattle.scope.specs.Ticks.{supply}
use Rattle.scope.specs.Windows.{Board, windows_of, supplied_by}
use Rattle.scope.specs.Tasks.{Task, tasks_of, bad_task, task_at, demand}
use Rattle.scope.specs.Verdict.{Verdict.meets}
use Rattle.scope.specs.Jobs.{Job, release_of, task_of, work_of, deadline, bad_job}
use Rattle.scope.specs.Machine.{edf, work_left}
use Rattle.scope.specs.Run.{Outcome.met, outcome, count_of, count, counts}
use Rattle.scope.specs.Answers.{Answer.given, verdict_answer}
use Rattle.scope.specs.Demands.{due_within, Under}
use Rattle.theory.specs.Numbers.{fits, fits_true, true_fits, and_both, sum_le, when_le, by_lexically}
use Rattle.theory.specs.Ticks.{least_over_all_starts}
use Rattle.theory.specs.Windows.{supplied_periodic}
use Rattle.theory.specs.Tasks.{task_rules}
use Rattle.theory.specs.Answers.{judged, table_frame}
use Rattle.theory.specs.Exact.{exact_meets}
use Rattle.theory.specs.Reached.{due_within_lem}
use Rattle.theory.specs.Jobs.{job_rules}
use Rattle.theory.specs.Quiet.{Serves, released, quiet_at, done_by}
use Rattle.theory.specs.Machine.{serves, machine_under}
use Rattle.theory.specs.Run.{listed_at, all_met, count_by}

-- ---- the supply of a group that meets, from every start
met_supply : (b : Board) (ws ts : List ℕ) (H : ℕ) → verdict_answer b ws ts ≡ given (meets H) → (s t : ℕ) →
    demand (tasks_of ts) t ≤ supply (supplied_by b ws) s t
met_supply b ws ts H answered s t =
    let f = judged b ws ts (meets H) answered in
    le_trans (((exact_meets b ws ts (meets H) answered H).0 refl).1 t)
    (least_over_all_starts (supplied_by b ws) b.frame (supplied_periodic b (windows_of ws) (table_frame b ws f.table)) s t)

-- ---- every run under earliest deadline first

-- the machine's order is strict: no job goes before itself
pub edf_strict : (ts : List Task) (js : List Job) (j : ℕ) → edf ts js j j ≡ false
edf_strict ts js j =
    rw (
      le-ltb (deadline ts js j) (deadline ts js j) (omega arith),
      eq-eqb (deadline ts js j) (deadline ts js j) refl,
      le-ltb (task_of js j) (task_of js j) (omega arith),
    )

-- the tick machine's is one: of the earliest jobs it serves the one of the lowest task
pub machine_edf : (σ : ℕ → Bool) (ts : List Task) (js : List Job) → Under σ js (deadline ts js) (work_left σ (edf ts js) js)
machine_edf σ ts js = machine_under σ (edf ts js) js (deadline ts js) (by_lexically (deadline ts js) _)

module _ (σ : ℕ → Bool) (ts : List Task) (tasks : bad_task ts ≡ none) (n : ℕ) (js : List Job) (legal : bad_job ts n js ≡ none)
    (enough : (s t : ℕ) → demand ts t ≤ supply σ s t) where
  module _ (left : ℕ → List ℕ) (run : Under σ js (deadline ts js) left) where
    -- the jobs due by e, served before all others
    due_served : (e : ℕ) → Serves σ (length js) (release_of js) (work_of js) (λ j. leb (deadline ts js j) e) (λ k j. get_or (left k) j 0)
    due_served = serves σ js (deadline ts js) left run

    -- a stretch that ends at e supplies all the work that is released in it and due by e
    due_supplied : (e b t : ℕ) → b + t ≡ e → released σ (length js) (release_of js) (work_of js) _ _ (due_served e) b t ≤ supply σ b t
    unfolding due_within
    due_supplied e b t q =
        omega (
          arith,
          enough b t,
          due_within_lem ts tasks n js legal b t,
          sum_le (λ j. when (leb (deadline ts js j) e && fits b (release_of js j) (release_of js j + 1) (b + t)) (work_of js j))
              (λ j. when (fits b (release_of js j) (deadline ts js j) (b + t)) (work_of js j)) (length js) (λ j l.
              when_le _ _ (work_of js j) (work_of js j) (λ z.
              let p = and_both (leb (deadline ts js j) e) (fits b (release_of js j) (release_of js j + 1) (b + t)) z in (
                true_fits b (release_of js j) (deadline ts js j) (b + t) (fits_true b (release_of js j) (release_of js j + 1) (b + t) p.1).0
                    (omega (arith, leb-true (deadline ts js j) e p.0)),
                omega arith,
              ))),
        )

    -- no job is unfinished at its deadline, or after it
    pub edf_in_time : (j k : ℕ) → j < length js → deadline ts js j ≤ k → get_or (left k) j 0 ≡ 0
    edf_in_time j k l h =
        let e : ℕ = deadline ts js j in
        let o = (task_rules ts tasks).0 (task_of js j) (job_rules ts n js legal j l).known in
        let sv = due_served e in
        done_by σ (length js) (release_of js) (work_of js) _ _ sv e k j
        (quiet_at σ (length js) (release_of js) (work_of js) _ _ sv e (omega (arith, o.due)) (due_supplied e)) l
        (le-leb e e (omega arith)) (omega (arith, o.due)) h

    -- so each job whose deadline falls in the run is finished then, with a count of 1 to D
    pub edf_counts : (j : ℕ) → j < length js → deadline ts js j ≤ n →
        (get_or (left (deadline ts js j)) j 0 ≡ 0) × (1 ≤ count_of left js n j) × (count_of left js n j ≤ (task_at ts (task_of js j)).D)
    edf_counts j l d =
        let done = edf_in_time j (deadline ts js j) l (omega arith) in
        let c = count_by σ js (deadline ts js) left run n (deadline ts js j) j d (job_rules ts n js legal j l).some done in
        (done, c.0, omega (arith, c.1))

  -- the machine's run is one of them: it is met, and its counts are these
  pub edf_run : (outcome σ (edf ts js) ts js n ≡ met)
      × ((j : ℕ) → j < length js → deadline ts js j ≤ n →
      (1 ≤ get_or (counts σ (edf ts js) ts js n) j 0) × (get_or (counts σ (edf ts js) ts js n) j 0 ≤ (task_at ts (task_of js j)).D))
  unfolding counts
  edf_run =
      let left : ℕ → List ℕ = work_left σ (edf ts js) js in
      let run = machine_edf σ ts js in
      let e : outcome σ (edf ts js) ts js n ≡ met = all_met σ (edf ts js) js ts (edf_in_time left run) n in (
        e,
        λ j l d. rw (e, listed_at (count σ (edf ts js) js n) (length js) j l) (let c = edf_counts left run j l d in (c.1, c.2)),
      )

-- ---- the entry

-- for every n and every legal job list, without bound on either: every run under earliest deadline first, whichever of several earliest jobs it serves
pub edf_every : (b : Board) (ws ts : List ℕ) (H : ℕ) → verdict_answer b ws ts ≡ given (meets H) →
    (n : ℕ) (js : List Job) → bad_job (tasks_of ts) n js ≡ none →
    (left : ℕ → List ℕ) → Under (supplied_by b ws) js (deadline (tasks_of ts) js) left →
    (j : ℕ) → j < length js → deadline (tasks_of ts) js j ≤ n →
    (get_or (left (deadline (tasks_of ts) js j)) j 0 ≡ 0)
    × (1 ≤ count_of left js n j) × (count_of left js n j ≤ (task_at (tasks_of ts) (task_of js j)).D)
edf_every b ws ts H answered n js legal =
    edf_counts (supplied_by b ws) (tasks_of ts) (judged b ws ts (meets H) answered).group.tasks n js legal (met_supply b ws ts H answered)

-- and the tick machine's, whose outcome is met
pub edf_meets : (b : Board) (ws ts : List ℕ) (H : ℕ) → verdict_answer b ws ts ≡ given (meets H) →
    (n : ℕ) (js : List Job) → bad_job (tasks_of ts) n js ≡ none →
    (outcome (supplied_by b ws) (edf (tasks_of ts) js) (tasks_of ts) js n ≡ met)
    × ((j : ℕ) → j < length js → deadline (tasks_of ts) js j ≤ n →
    (1 ≤ get_or (counts (supplied_by b ws) (edf (tasks_of ts) js) (tasks_of ts) js n) j 0)
    × (get_or (counts (supplied_by b ws) (edf (tasks_of ts) js) (tasks_of ts) js n) j 0 ≤ (task_at (tasks_of ts) (task_of js j)).D))
edf_meets b ws ts H answered n js legal =
    edf_run (supplied_by b ws) (tasks_of ts) (judged b ws ts (meets H) answered).group.tasks n js legal (met_supply b ws ts H answered)
