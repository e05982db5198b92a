-- The machine's own trace: what a board that keeps the rules records of a run is replayed as the same
use Rattle.std.specs.Prelude.{◌≡◌, Bool, not, cond, ◌||◌, ltb, take}
use Rattle.std.proofs.Math.Path.{refl, sym, ap}
use Rattle.std.proofs.Common.{◌∙◌, zero-add}
use Rattle.std.proofs.Math.Bool.{true, false}
use Rattle.std.proofs.Math.Option.{none}
use mathlib.Core.List.{List, [], ◌∷◌, ◌++◌, map, map-append, append_assoc, append-nil}
use Prim.Native.Nat.{ℕ, zero, suc, ◌+◌, ◌-◌, ◌%◌, ◌^◌, ◌≤◌, ◌<◌, min}
use native.Mathlib.Omega.{arith}
use Rattle.std.proofs.Math.Nat.{add-zero}
use Rattle.std.proofs.Math.Decide.{ℕ_discrete, dec_lt, dec_le}
use Rattle.std.proofs.Math.Dec.{leb, eqb}
use Rattle.std.proofs.Math.ListN.{length, length-append, get_or-append}
use Rattle.std.proofs.Math.Seq.{take-suc, take-length}
use borrow.Author.Tests.{eqb-true, le-leb, lt-leb, lt-ltb, le-ltb, eq-eqb, ne_eqb, not-false}
use Rattle.scope.specs.Numbers.{keep}
use Rattle.scope.specs.Limits.{most_ticks, most_jobs, most_number}
use Rattle.scope.specs.Windows.{Board, supplied_by}
use Rattle.scope.specs.Tasks.{Task, task, tasks_of}
use Rattle.scope.specs.Jobs.{Job, job, job_at, release_of, task_of, work_of, job_legal, bad_job}
use Rattle.scope.specs.Machine.{edf}
use Rattle.scope.specs.Run as Runs
use Rattle.scope.specs.Run.{Outcome, outcome, ticks_done}
use Rattle.scope.specs.Answers.{Fault.fine, Answer.given, table_fault, group_fault}
use Rattle.scope.specs.Trace.{Record, ticks_of, is_release, releases, Completion, completion, completions, record_at, goes_before, in_turn, releases_before}
use Rattle.scope.specs.Trace.{record_legal, bad_record, trace_bytes, stamped_from}
use Rattle.scope.specs.Replay.{ends, ended_in, ended_from, released_at, as_record, recorded_to, recorded, first_difference, Replayed.same, Replayed.missed, named}
use Rattle.scope.specs.Replay.{replayed, replay_answer}
use Rattle.theory.specs.Numbers.{both_and, first_none, none_first, less_lexically, rest_lexically, lexically_true}
use Rattle.theory.specs.Lists.{pieces_length, keep_none, keep_hit, keep_miss, keep_first}
use Rattle.theory.specs.Every.{Every, EveryTwo, every_at, every_imp, every_append, every_behind, every_none, every_both, every_map}
use Rattle.theory.specs.Every.{twos_at, twos_imp, twos_append, twos_map, kept_every, kept_twos}
use Rattle.theory.specs.Jobs.{Rises, job_rules, legal_until, jobs_rise}
use Rattle.theory.specs.Answers.{group_legal}
use Rattle.theory.specs.Run.{met_before, done_within, done_before}
use Rattle.theory.specs.Traces.{InStep, NeverFalls, timed_stamped, instant_inside, ticks_within, Recordable, trace_round_trip}
use Rattle.theory.specs.Ended.{ends_one}
use Rattle.theory.specs.Replays.{records_given, no_difference_of, releases_append, release_is}

-- ---- records in order whose releases are legal jobs

-- of any two records the first goes before the second
abbrev pub InOrder : List Record → Type 0
InOrder rs = EveryTwo (λ a b. goes_before a b ≡ true) rs

pub order_rises : (rs : List Record) → InOrder rs → NeverFalls rs
order_rises rs = twos_imp (λ a b. goes_before a b ≡ true) (λ a b. a.instant ≤ b.instant) (λ a b e. lexically_true a.instant b.instant _ e) rs

in_turn_lem : (rs : List Record) → InOrder rs → (i : ℕ) → i < length rs → in_turn rs i ≡ true
in_turn_lem rs o zero l = refl
in_turn_lem rs o (suc i) l =
    let z : suc i - 1 ≡ i = omega arith in
    rw (ne_eqb (suc i) 0 (λ e. omega arith), z) (twos_at (λ a b. goes_before a b ≡ true) rs o _ i (suc i) (omega arith) l)

-- records in order keep the rules of a trace where their releases are legal jobs of a run, whatever its length
pub records_legal : (ts : List Task) (n : ℕ) (rs : List Record) → InOrder rs → bad_job ts n (releases rs) ≡ none → bad_record ts rs ≡ none
unfolding bad_record bad_job record_legal
records_legal ts n rs o jobs = none_first (λ i. not (record_legal ts rs i)) (length rs) (λ i l. rw (legal i l))
  where
    release : (i : ℕ) → i < length rs → (t : Bool) → is_release (record_at rs i) ≡ t →
        (not t || job_legal ts (ticks_of rs) (releases rs) (releases_before rs i)) ≡ true
    release i l false e = refl
    release i l true e =
        let f = release_is rs i l e in
        let j : ℕ = releases_before rs i in
        let old = not-false (job_legal ts n (releases rs) j) (first_none (λ j. not (job_legal ts n (releases rs) j)) (length (releases rs)) jobs j f.0) in
        let at : release_of (releases rs) j ≡ (record_at rs i).instant = ap (λ (x : Job). x.release) f.1 in
        let in_time : (record_at rs i).instant < ticks_of rs =
        every_at (λ r. r.instant < ticks_of rs) rs (instant_inside rs (order_rises rs o)) _ i l in
        legal_until ts n (ticks_of rs) (releases rs) j old (omega (arith, at, in_time))

    legal : (i : ℕ) → i < length rs → record_legal ts rs i ≡ true
    legal i l = both_and {a = in_turn rs i} (in_turn_lem rs o i l) (release i l (is_release (record_at rs i)) refl)

-- ---- completions of records

pub completions_append : (l m : List Record) → completions (l ++ m) ≡ completions l ++ completions m
unfolding completions
completions_append [] m = refl
completions_append (r ∷ l) m = go (is_release r) (completions_append l m)
  where
    go : (t : Bool) → completions (l ++ m) ≡ completions l ++ completions m →
        cond t (completions (l ++ m)) (completion r.instant r.task ∷ completions (l ++ m))
        ≡ cond t (completions l) (completion r.instant r.task ∷ completions l) ++ completions m
    go true ih = ih
    go false ih = rw ih

-- what holds of the instant of every record holds of the instant of every completion
completions_every : (P : ℕ → Type 0) (rs : List Record) → Every (λ r. P r.instant) rs → Every (λ c. P c.instant) (completions rs)
unfolding completions
completions_every P [] h = tt
completions_every P (r ∷ rs) h = go (is_release r) (completions_every P rs h.1)
  where
    go : (t : Bool) → Every (λ c. P c.instant) (completions rs) →
        Every (λ c. P c.instant) (cond t (completions rs) (completion r.instant r.task ∷ completions rs))
    go true ih = ih
    go false ih = (h.0, ih)

completions_ended : (cs : List Completion) → completions (map as_record cs) ≡ cs
unfolding completions
completions_ended [] = refl
completions_ended (c ∷ cs) = rw (completions_ended cs)

releases_ended : (cs : List Completion) → releases (map as_record cs) ≡ []
unfolding releases
releases_ended [] = refl
releases_ended (c ∷ cs) = releases_ended cs

-- ---- the jobs of an instant

module _ (js : List Job) where
  abbrev release_record : ℕ → ℕ → Record
  release_record k j = record { instant = k; kind = 0; task = task_of js j; work = work_of js j }

  abbrev released_now : ℕ → ℕ → Bool
  released_now k j = eqb (release_of js j) k

  released_every : (P : Record → Type 0) (k : ℕ) → ((j : ℕ) → j < length js → release_of js j ≡ k → P (release_record k j)) → Every P (released_at js k)
  unfolding released_at
  released_every P k h =
      every_map (release_record k) P (keep (released_now k) (length js))
      (kept_every (released_now k) (λ j. P (release_record k j)) (length js) (λ j l e. h j l (eqb-true (release_of js j) k e)))

  completions_released : (k : ℕ) → completions (released_at js k) ≡ []
  unfolding released_at completions
  completions_released k = go (keep (released_now k) (length js))
    where
      go : (l : List ℕ) → completions (map (release_record k) l) ≡ []
      go [] = refl
      go (j ∷ l) = go l

  releases_released : (k : ℕ) → releases (released_at js k) ≡ map (job_at js) (keep (released_now k) (length js))
  unfolding released_at releases
  releases_released k =
      go (keep (released_now k) (length js))
      (kept_every (released_now k) (λ j. release_of js j ≡ k) (length js) (λ j l e. eqb-true (release_of js j) k e))
    where
      go : (l : List ℕ) → Every (λ j. release_of js j ≡ k) l → releases (map (release_record k) l) ≡ map (job_at js) l
      go [] h = refl
      go (j ∷ l) h =
          let z : job k (task_of js j) (work_of js j) ≡ job_at js j = rw (← h.0) in
          rw (z, go l h.1)

  -- ---- the jobs of all instants up to k, where the list rises by instant

  module _ (rises : (i j : ℕ) → i < j → j < length js → release_of js i ≤ release_of js j) where
    abbrev released_by : ℕ → ℕ → Bool
    released_by k j = leb (release_of js j) k

    -- those of one instant more come last
    kept_joined : (k n : ℕ) → n ≤ length js → keep (released_by k) n ++ keep (released_now (suc k)) n ≡ keep (released_by (suc k)) n
    unfolding keep
    kept_joined k zero h = refl
    kept_joined k (suc n) h =
        let r : ℕ = release_of js n in
        let ih = kept_joined k n (omega arith) in
        elim (dec_le r k) [
          | yes l ↦
              let none-now : (m : ℕ) → m ≤ suc n → keep (released_now (suc k)) m ≡ [] =
              λ m q. keep_none (released_now (suc k)) m (λ j t. ne_eqb (release_of js j) (suc k) (λ z. omega (arith, z, up_to_lem n h j (omega arith)))) in
              let e : keep (released_by k) n ≡ keep (released_by (suc k)) n =
              sym (append-nil (keep (released_by k) n)) ∙ ap (λ (x : List ℕ). keep (released_by k) n ++ x) (sym (none-now n (omega arith))) ∙ ih in
              ap (λ (x : List ℕ). keep (released_by k) (suc n) ++ x) (none-now (suc n) (omega arith))
              ∙ append-nil (keep (released_by k) (suc n))
              ∙ keep_hit (released_by k) n (le-leb r k l)
              ∙ ap (λ (x : List ℕ). x ++ (n ∷ [])) e
              ∙ sym (keep_hit (released_by (suc k)) n (le-leb r (suc k) (omega arith)))
          | no l ↦
              elim (ℕ_discrete r (suc k)) [
                | yes z ↦
                    rw (
                      lt-leb r k (omega arith),
                      eq-eqb r (suc k) z,
                      le-leb r (suc k) (omega arith),
                      append-nil (keep (released_by k) n),
                    )
                    (sym (append_assoc (keep (released_by k) n) (keep (released_now (suc k)) n) (n ∷ [])) ∙ ap (λ (x : List ℕ). x ++ (n ∷ [])) ih)
                | no u ↦
                    rw (
                      keep_miss (released_by k) n (lt-leb r k (omega arith)),
                      keep_miss (released_now (suc k)) n (ne_eqb r (suc k) u),
                      keep_miss (released_by (suc k)) n (lt-leb r (suc k) (omega arith)),
                    )
                    ih
              ]
        ]
      where
        up_to_lem : (n : ℕ) → suc n ≤ length js → (j : ℕ) → j ≤ n → release_of js j ≤ release_of js n
        up_to_lem n h j l = elim (ℕ_discrete j n) [ yes z ↦ rw z (omega arith) | no u ↦ rises j n (omega arith) (omega arith) ]

    -- at instant 0 "at" and "by" say one thing
    kept_first : (n : ℕ) → keep (released_now 0) n ≡ keep (released_by 0) n
    unfolding keep
    kept_first zero = refl
    kept_first (suc n) = rw (kept_first n, same (release_of js n))
      where
        same : (x : ℕ) → eqb x 0 ≡ leb x 0
        same zero = refl
        same (suc x) = ne_eqb (suc x) 0 (λ z. omega arith) ∙ sym (lt-leb (suc x) 0 (omega arith))

    kept_all : (k n : ℕ) → n ≤ length js → ((j : ℕ) → j < n → release_of js j ≤ k) → map (job_at js) (keep (released_by k) n) ≡ take n js
    unfolding keep
    kept_all k zero h all = refl
    kept_all k (suc n) h all =
        rw (
          keep_hit (released_by k) n (le-leb (release_of js n) k (all n (omega arith))),
          map-append (job_at js) (keep (released_by k) n) (n ∷ []),
          kept_all k n (omega arith) (λ j l. all j (omega arith)),
          take-suc js n (job 0 0 0) h,
        )

-- ---- the completions of some ticks

module _ (σ : ℕ → Bool) (before : ℕ → ℕ → Bool) (js : List Job) where
  ended_every : (P : Completion → Type 0) (k : ℕ) →
      ((j : ℕ) → j < length js → ends σ before js k j ≡ true → P (completion (suc k) (task_of js j))) → Every P (ended_in σ before js k)
  unfolding ended_in
  ended_every P k h =
      every_map (λ j. completion (suc k) (task_of js j)) P (keep (ends σ before js k) (length js))
      (kept_every (ends σ before js k) (λ j. P (completion (suc k) (task_of js j))) (length js) h)

  -- those of m ticks, then those of d more
  pub ended_split : (m d k : ℕ) → ended_from σ before js k (m + d) ≡ ended_from σ before js k m ++ ended_from σ before js (k + m) d
  unfolding ended_from
  ended_split zero d k = rw (zero-add d, add-zero k)
  ended_split (suc m) d k =
      let z : suc m + d ≡ suc (m + d) = omega arith in
      let y : suc k + m ≡ k + suc m = omega arith in
      rw (z, append_assoc)
      (ap (λ (x : List Completion). ended_in σ before js k ++ x)
      (ended_split m d (suc k) ∙ ap (λ (i : ℕ). ended_from σ before js (suc k) m ++ ended_from σ before js i d) y))

  ended_more : (n : ℕ) → ended_from σ before js 0 (suc n) ≡ ended_from σ before js 0 n ++ ended_in σ before js n
  unfolding ended_from
  ended_more n =
      let z : suc n ≡ n + 1 = omega arith in
      ap (ended_from σ before js 0) z ∙ ended_split n 1 0 ∙ rw (zero-add n, append-nil (ended_in σ before js n))

  -- none is at the first of these ticks or before
  ended_after : (d k : ℕ) → Every (λ c. k < c.instant) (ended_from σ before js k d)
  unfolding ended_from
  ended_after zero k = tt
  ended_after (suc d) k =
      every_append (λ (c : Completion). k < c.instant) (ended_in σ before js k) (ended_from σ before js (suc k) d)
      (ended_every (λ c. k < c.instant) k (λ j l e. omega arith))
      (every_imp (λ (c : Completion). suc k < c.instant) (λ c. k < c.instant) (λ c h. omega arith) (ended_from σ before js (suc k) d) (ended_after d (suc k)))

  -- ---- what holds of every record

  module _ (done : ℕ) where
    abbrev up_to : ℕ → List Record
    up_to k = recorded_to σ before js done k

    -- the completion of the tick before instant k + 1, if the run gets there
    abbrev ends_of : ℕ → List Record
    ends_of k = cond (ltb k done) (map as_record (ended_in σ before js k)) []

    ends_every : (P : Record → Type 0) (k : ℕ) →
        ((j : ℕ) → j < length js → ends σ before js k j ≡ true → P (as_record (completion (suc k) (task_of js j)))) → Every P (ends_of k)
    ends_every P k h = go (ltb k done)
      where
        go : (t : Bool) → Every P (cond t (map as_record (ended_in σ before js k)) [])
        go true = every_map as_record P (ended_in σ before js k) (ended_every (λ c. P (as_record c)) k h)
        go false = tt

    recorded_every : (P : Record → Type 0) (n : ℕ) →
        ((k j : ℕ) → k ≤ n → j < length js → release_of js j ≡ k → P (release_record js k j)) →
        ((k j : ℕ) → k < n → j < length js → ends σ before js k j ≡ true → P (as_record (completion (suc k) (task_of js j)))) → Every P (up_to n)
    unfolding recorded_to
    recorded_every P zero h g = released_every js P 0 (λ j. h 0 j (omega arith))
    recorded_every P (suc n) h g =
        every_append P (up_to n ++ ends_of n) (released_at js (suc n))
        (every_append P (up_to n) (ends_of n)
        (recorded_every P n (λ k j l. h k j (omega arith)) (λ k j l. g k j (omega arith)))
        (ends_every P n (λ j. g n j (omega arith))))
        (released_every js P (suc n) (λ j. h (suc n) j (omega arith)))

    -- no record is later than the run
    pub recorded_instants : (n : ℕ) → Every (λ r. r.instant ≤ n) (up_to n)
    recorded_instants n = recorded_every (λ r. r.instant ≤ n) n (λ k j l h e. l) (λ k j l h e. omega arith)

    -- ---- its completions are the machine's

    completions_of_ends : (k : ℕ) (t : Bool) → completions (cond t (map as_record (ended_in σ before js k)) []) ≡ cond t (ended_in σ before js k) []
    unfolding completions
    completions_of_ends k true = completions_ended (ended_in σ before js k)
    completions_of_ends k false = refl

    pub recorded_completions : (n : ℕ) → completions (up_to n) ≡ ended_from σ before js 0 (min n done)
    unfolding recorded_to ended_from
    recorded_completions zero = let z : min 0 done ≡ 0 = omega arith in completions_released js 0 ∙ rw z
    recorded_completions (suc n) =
        completions_append (up_to n ++ ends_of n) (released_at js (suc n))
        ∙ rw (completions_released js (suc n), append-nil (completions (up_to n ++ ends_of n)), completions_append (up_to n) (ends_of n), recorded_completions n)
        (step (dec_lt n done))
      where
        step : Dec (n < done) → ended_from σ before js 0 (min n done) ++ completions (ends_of n) ≡ ended_from σ before js 0 (min (suc n) done)
        step (yes h) =
            let z : min n done ≡ n = omega arith in
            let y : min (suc n) done ≡ suc n = omega arith in
            rw (z, y, completions_of_ends n (ltb n done), lt-ltb n done h) (sym (ended_more n))
        step (no h) =
            let z : min n done ≡ done = omega arith in
            let y : min (suc n) done ≡ done = omega arith in
            rw (z, y, completions_of_ends n (ltb n done), le-ltb n done (omega arith)) (append-nil (ended_from σ before js 0 done))

    -- ---- its releases are the jobs

    releases_of_ends : (k : ℕ) (t : Bool) → releases (cond t (map as_record (ended_in σ before js k)) []) ≡ []
    unfolding releases
    releases_of_ends k true = releases_ended (ended_in σ before js k)
    releases_of_ends k false = refl

    module _ (ahead : (i j : ℕ) → i < j → j < length js → Rises js i j) where
      releases_by : (n : ℕ) → releases (up_to n) ≡ map (job_at js) (keep (λ j. leb (release_of js j) n) (length js))
      unfolding recorded_to
      releases_by zero = releases_released js 0 ∙ ap (map (job_at js)) (kept_first js (λ i j l h. (ahead i j l h).0) (length js))
      releases_by (suc n) =
          releases_append (up_to n ++ ends_of n) (released_at js (suc n))
          ∙ rw (
            releases_append (up_to n) (ends_of n),
            releases_of_ends n (ltb n done),
            append-nil (releases (up_to n)),
            releases_by n,
            releases_released js (suc n),
            ← map-append (job_at js) (keep (λ j. leb (release_of js j) n) (length js)) (keep (λ j. eqb (release_of js j) (suc n)) (length js)),
            kept_joined js (λ i j l h. (ahead i j l h).0) n (length js) (omega arith),
          )

      pub recorded_releases : (n : ℕ) → ((j : ℕ) → j < length js → release_of js j ≤ n) → releases (up_to n) ≡ js
      recorded_releases n h = releases_by n ∙ kept_all js (λ i j l h. (ahead i j l h).0) n (length js) (omega arith) h ∙ take-length js

      -- ---- its records are in order

      released_order : (k : ℕ) → InOrder (released_at js k)
      unfolding released_at
      released_order k =
          twos_map (release_record js k) (λ a b. goes_before a b ≡ true) (keep (λ j. eqb (release_of js j) k) (length js))
          (kept_twos (λ j. eqb (release_of js j) k) _ (length js) (λ i j l h p q.
          rest_lexically k k _ refl ∙ (rest_lexically 0 0 _ refl ∙ (lt-ltb (task_of js i) (task_of js j)
          ((ahead i j l h).1 (eqb-true (release_of js i) k p ∙ sym (eqb-true (release_of js j) k q)))))))

      ends_order : (k : ℕ) → InOrder (ends_of k)
      unfolding ended_in
      ends_order k = go (ltb k done)
        where
          go : (t : Bool) → InOrder (cond t (map as_record (ended_in σ before js k)) [])
          go true =
              twos_map as_record (λ a b. goes_before a b ≡ true) (ended_in σ before js k)
              (twos_map (λ j. completion (suc k) (task_of js j)) _ (keep (ends σ before js k) (length js))
              (kept_twos (ends σ before js k) _ (length js) (λ i j l h p q. absurd (omega (arith, ends_one σ before js k i j p q)))))
          go false = tt

      -- a record goes before what is recorded at a later instant, and a completion before the releases of its instant
      before_ends : (n : ℕ) (a : Record) → a.instant ≤ n → Every (λ b. goes_before a b ≡ true) (ends_of n)
      before_ends n a h = ends_every (λ b. goes_before a b ≡ true) n (λ j l e. less_lexically a.instant (suc n) _ (omega arith))

      before_released : (n : ℕ) (a : Record) → a.instant ≤ n → Every (λ b. goes_before a b ≡ true) (released_at js (suc n))
      before_released n a h = released_every js (λ b. goes_before a b ≡ true) (suc n) (λ j l e. less_lexically a.instant (suc n) _ (omega arith))

      ends_before_released : (n : ℕ) → Every (λ a. Every (λ b. goes_before a b ≡ true) (released_at js (suc n))) (ends_of n)
      ends_before_released n = ends_every _ n (λ i k e.
          released_every js (λ b. goes_before (as_record (completion (suc n) (task_of js i))) b ≡ true) (suc n) (λ j l z.
          rest_lexically (suc n) (suc n) _ refl ∙ (less_lexically 0 1 (ltb (task_of js i) (task_of js j)) (omega arith))))

      pub recorded_order : (n : ℕ) → InOrder (up_to n)
      unfolding recorded_to
      recorded_order zero = released_order 0
      recorded_order (suc n) =
          let Early : Record → Type 0 = λ a. a.instant ≤ n in
          let now = released_at js (suc n) in
          twos_append (λ a b. goes_before a b ≡ true) (up_to n ++ ends_of n) now
          (twos_append (λ a b. goes_before a b ≡ true) (up_to n) (ends_of n) (recorded_order n) (ends_order n)
          (every_imp Early (λ a. Every (λ b. goes_before a b ≡ true) (ends_of n)) (before_ends n) (up_to n) (recorded_instants n)))
          (released_order (suc n))
          (every_append (λ a. Every (λ b. goes_before a b ≡ true) now) (up_to n) (ends_of n)
          (every_imp Early (λ a. Every (λ b. goes_before a b ≡ true) now) (before_released n) (up_to n) (recorded_instants n))
          (ends_before_released n))

    -- ---- it starts at instant 0 where a job does

    pub recorded_first : 0 < length js → release_of js 0 ≡ 0 → (n : ℕ) → (0 < length (up_to n)) × ((record_at (up_to n) 0).instant ≡ 0)
    unfolding recorded_to released_at
    recorded_first some start zero =
        let f = keep_first (λ j. eqb (release_of js j) 0) 0 (length js) some (eq-eqb (release_of js 0) 0 start) (λ j l. absurd (omega arith)) in
        rw f.1 (omega arith, refl)
    recorded_first some start (suc n) =
        let f = recorded_first some start n in
        let more = ends_of n ++ released_at js (suc n) in
        let z : up_to n ++ ends_of n ++ released_at js (suc n) ≡ up_to n ++ more = append_assoc (up_to n) (ends_of n) (released_at js (suc n)) in
        rw z (omega (arith, f.0, length-append (up_to n) more), rw (get_or-append (up_to n) more _ 0 f.0) f.1)

-- ---- the trace of a run on a legal job list

module _ (σ : ℕ → Bool) (before : ℕ → ℕ → Bool) (ts : List Task) (js : List Job) (n : ℕ) (legal : bad_job ts n js ≡ none) where
  abbrev rs : List Record
  rs = recorded σ before ts js n

  -- how many ticks of it are done
  abbrev done : ℕ
  done = ticks_done (outcome σ before ts js n) n

  pub recorded_jobs : releases rs ≡ js
  recorded_jobs =
      recorded_releases σ before js done (jobs_rise ts n js legal) n (λ j l. let r = (job_rules ts n js legal j l).inside in omega arith)

  pub recorded_ended : completions rs ≡ ended_from σ before js 0 done
  recorded_ended =
      let z : min n done ≡ done = omega (arith, done_within σ before js ts n) in
      recorded_completions σ before js done n ∙ ap (ended_from σ before js 0) z

  ordered : InOrder rs
  ordered = recorded_order σ before js done (jobs_rise ts n js legal) n

  pub recorded_legal : bad_record ts rs ≡ none
  recorded_legal = records_legal ts n rs ordered (rw recorded_jobs legal)

  pub recorded_ticks : ticks_of rs ≤ suc n
  recorded_ticks = ticks_within n rs (recorded_instants σ before js done n)

  -- no instant is after one that stands later, and none is as far after it as the counter goes
  pub recorded_in_step : ticks_of rs ≤ 2 ^ 32 → InStep rs
  recorded_in_step h i l =
      let up = order_rises rs ordered in
      let inside = every_at (λ r. r.instant < ticks_of rs) rs (instant_inside rs up) in (
        twos_at (λ a b. a.instant ≤ b.instant) rs up _ i (suc i) (omega arith) l,
        let late : (record_at rs (suc i)).instant < ticks_of rs = inside _ (suc i) l in omega arith,
      )

  -- the instant of the last record, up to which the machine is held to it
  abbrev last : ℕ
  last = ticks_of rs - 1

  -- no completion that is recorded is later
  none_later : last < done → ended_from σ before js (0 + last) (done - last) ≡ []
  none_later h =
      let rest = ended_from σ before js (0 + last) (done - last) in
      let z : done ≡ last + (done - last) = omega arith in
      let parts : completions rs ≡ ended_from σ before js 0 last ++ rest =
      recorded_ended ∙ ap (ended_from σ before js 0) z ∙ ended_split σ before js last (done - last) 0 in
      let Recorded : Completion → Type 0 = λ c. c.instant < ticks_of rs in
      let Later : Completion → Type 0 = λ c. 0 + last < c.instant in
      let all : Every Recorded (completions rs) = completions_every (λ k. k < ticks_of rs) rs (instant_inside rs (order_rises rs ordered)) in
      let recorded-rest : Every Recorded rest = every_behind Recorded (ended_from σ before js 0 last) rest (rw parts at all) in
      every_none (λ (c : Completion). Recorded c × Later c) (λ c q. omega (arith, q.0, q.1)) rest
      (every_both Recorded Later rest recorded-rest (ended_after σ before js (done - last) (0 + last)))

  -- so its completions are those the machine is held to
  pub recorded_compared : completions rs ≡ ended_from σ before js 0 (ticks_done (outcome σ before ts js last) last)
  recorded_compared =
      let z : ticks_done (outcome σ before ts js last) last ≡ min last done = done_before σ before js ts last n (omega (arith, recorded_ticks)) in
      recorded_ended ∙ rw z (elim (dec_lt last done) [
        | yes h ↦
            let y : min last done ≡ last = omega arith in
            let x : done ≡ last + (done - last) = omega arith in
            rw y (ap (ended_from σ before js 0) x ∙ ended_split σ before js last (done - last) 0
            ∙ rw (none_later h) (append-nil (ended_from σ before js 0 last)))
        | no h ↦ let y : done ≡ min last done = omega arith in ap (ended_from σ before js 0) y
      ])

  pub recorded_replayed : replayed σ before ts rs ≡ named (outcome σ before ts js last) none
  unfolding replayed
  recorded_replayed =
      let o : Outcome = outcome σ before ts js last in
      rw recorded_jobs (ap (named o) (ap (first_difference (completions rs)) (sym recorded_compared) ∙ no_difference_of (completions rs)))

-- ---- the entry

module _ (b : Board) (ws ts : List ℕ) (table : table_fault b ws ≡ fine) (group : group_fault ts ≡ fine)
    (js : List Job) (n : ℕ) (legal : bad_job (tasks_of ts) n js ≡ none) (few : length js ≤ most_jobs) (some : 0 < length js) (start : release_of js 0 ≡ 0) where
  abbrev pub own : List Record
  own = recorded (supplied_by b ws) (edf (tasks_of ts) js) (tasks_of ts) js n

  -- the numbers of a legal run are such as a trace can hold
  own_recordable : (c : ℕ) → Every Recordable (stamped_from c own)
  own_recordable c =
      let g = group_legal ts group in
      let rule = job_rules (tasks_of ts) n js legal in
      let known : (j : ℕ) → j < length js → task_of js j ≤ most_number =
      λ j l. omega (arith, (rule j l).known, pieces_length Task 3 task ts, g.few) in
      every_map (λ r. record { kind = r.kind; task = r.task; work = r.work; stamp = (c + r.instant) % 2 ^ 32 }) Recordable own
      (recorded_every (supplied_by b ws) (edf (tasks_of ts) js) js _ _ n
      (λ k j l h e. record {
        kind = omega arith;
        task = known j h;
        work = omega (arith, (rule j h).most, (g.rules (task_of js j) (rule j h).known).work_most);
        stamp = omega arith;
        workless = λ z. absurd (omega arith);
      })
      (λ k j l h e. record { kind = omega arith; task = known j h; work = omega arith; stamp = omega arith; workless = λ z. refl }))

  module _ (ticks : ticks_of own ≤ most_ticks) (c : ℕ) where
    -- whatever the counter shows at the start, the answer names no difference
    pub recorded_answer : replay_answer b ws ts (trace_bytes (stamped_from c own))
        ≡ given (named (outcome (supplied_by b ws) (edf (tasks_of ts) js) (tasks_of ts) js (ticks_of own - 1)) none)
    unfolding replay_answer
    recorded_answer =
        let σ = supplied_by b ws in
        let before = edf (tasks_of ts) js in
        let jobs : releases own ≡ js = recorded_jobs σ before (tasks_of ts) js n legal in
        let first = (recorded_first σ before js (ticks_done (outcome σ before (tasks_of ts) js n) n) some start n).1 in
        let step = recorded_in_step σ before (tasks_of ts) js n legal (omega arith) in
        rw (trace_round_trip (stamped_from c own) (own_recordable c), timed_stamped c own first step)
        (records_given b ws ts own table group ticks (rw jobs few) (recorded_legal σ before (tasks_of ts) js n legal)
        ∙ ap (λ (l : List Job). given (replayed σ (edf (tasks_of ts) l) (tasks_of ts) own)) jobs
        ∙ ap given (recorded_replayed σ before (tasks_of ts) js n legal))

    -- a run without a miss up to its last record's instant is replayed as the same
    pub recorded_same : outcome (supplied_by b ws) (edf (tasks_of ts) js) (tasks_of ts) js (ticks_of own - 1) ≡ Runs.met →
        replay_answer b ws ts (trace_bytes (stamped_from c own)) ≡ given same
    recorded_same e = recorded_answer ∙ rw e

    -- so is one that is met
    pub recorded_met : outcome (supplied_by b ws) (edf (tasks_of ts) js) (tasks_of ts) js n ≡ Runs.met →
        replay_answer b ws ts (trace_bytes (stamped_from c own)) ≡ given same
    recorded_met e =
        let σ = supplied_by b ws in
        let before = edf (tasks_of ts) js in
        recorded_same (met_before σ before js (tasks_of ts) (ticks_of own - 1) n (omega (arith, recorded_ticks σ before (tasks_of ts) js n legal)) e)

    -- and a miss up to the last record's instant is named
    pub recorded_missed : (k j : ℕ) → outcome (supplied_by b ws) (edf (tasks_of ts) js) (tasks_of ts) js (ticks_of own - 1) ≡ Runs.missed k j →
        replay_answer b ws ts (trace_bytes (stamped_from c own)) ≡ given (missed k j)
    recorded_missed k j e = recorded_answer ∙ rw e
