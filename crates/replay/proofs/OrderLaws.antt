-- The order of records, and the record of the first illegal job
use Rattle.std.proofs.Common.{◌≡◌, ℕ, ◌+◌, ◌-◌, ◌*◌, ◌<◌, ◌≤◌, Bool, true, false, cond, not, ◌&&◌, ◌||◌, eqb, List, [], ◌∷◌, ◌++◌, length, take, sym, refl, ap, ◌∙◌, inl, inr, true≢false, append_assoc, arith, length-append, length-take, get_or-take, take-take, take_at, le-ltb, eq-eqb, ne_eqb, eqb-true}
use mathlib.Core.Bool.{false≢true}
use mathlib.Core.Option.{Option, none, some}
use Rattle.std.specs.declared.option.Option as marked
use native.Mathlib.Decide.{ℕ_discrete, dec_lt}
use lib.Seq.{get_or_at}
use borrow.Author.Tests.{not-false}
use Rattle.scope.specs.Numbers.{first, pieces, pieces_from}
use Rattle.scope.specs.Limits.{most_ticks, most_jobs}
use Rattle.scope.specs.Tasks.{Task, tasks_of}
use Rattle.scope.specs.Jobs.{Job, job, jobs_of, job_legal, bad_job}
use Rattle.scope.specs.Answers.{Fault, Fault.fine, Fault.fault, fault_at, ◌or_else◌, group_fault, job_list_fault, job_fault}
use Rattle.scope.specs.Trace.{Record, ticks_of, is_release, releases, goes_before, record_at, in_turn, releases_before, record_legal, bad_record}
use Rattle.scope.specs.Replay.{record_fault}
use Rattle.theory.specs.Numbers.{bool_cases, first_none, first_some, none_first, some_first}
use Rattle.theory.specs.Lists.{fine_count}
use Rattle.theory.specs.Answers.{fault_not_fine, fault_at_fine}
use Rattle.theory.specs.Replays.{releases_append, release_is, release_of_lem}
use Rattle.replay.specs.Rebuilt.{records_of, Fits, numbers_of, marks, turns_after, breaks_by, breaks_at}
use mir.Val.{bool_byte}

-- ---- tests

or-true : (b : Bool) → (b || true) ≡ true
or-true true = refl
or-true false = refl

not-true : (b : Bool) → not b ≡ true → b ≡ false
not-true true e = absurd (false≢true e)
not-true false e = refl

-- ---- from record to record

module _ (all : List Record) (illegal : marked.Option ℕ) where
  -- i records are passed, the last of them `previous`, and j of them are releases; none of them breaks the order or is the illegal release
  pub record Passing (rest : List Record) (previous : Option Record) (i j : ℕ) : Type 0 where
    pub done : List Record
    pub split : all ≡ done ++ rest
    pub index : i ≡ length done
    pub jobs : j ≡ length (releases done)
    pub few : j ≤ i
    pub last : (b : Record) → turns_after previous b ≡ (eqb i 0 || goes_before (record_at all (i - 1)) b)
    pub fine : (x : ℕ) → x < i → breaks_at all illegal x ≡ false

  pub passing_first : (rest : List Record) → rest ≡ all → Passing rest none 0 0
  unfolding releases
  passing_first rest e = record {
    done = [];
    split = sym e;
    index = refl;
    jobs = refl;
    few = omega arith;
    last = λ b. refl;
    fine = λ x h. absurd (omega arith);
  }

  module _ (rest more : List Record) (x : Record) (previous : Option Record) (i j : ℕ) (p : Passing rest previous i j)
      (is : rest ≡ x ∷ more) where
    here : all ≡ p.done ++ (x ∷ more)
    here = p.split ∙ ap (λ (l : List Record). p.done ++ l) is

    this : record_at all i ≡ x
    this = ap (λ (l : List Record). record_at l i) here ∙ get_or_at p.done x more _ i (sym p.index)

    before : releases_before all i ≡ j
    before =
        ap (λ (l : List Record). length (releases (take i l))) p.split
        ∙ ap (λ (l : List Record). length (releases l)) (take_at p.done rest i (sym p.index))
        ∙ sym p.jobs

    -- the code's test is that of record i
    abbrev breaks : Bool
    breaks = breaks_by previous x j illegal

    pub passing_test : breaks ≡ breaks_at all illegal i
    unfolding breaks_at
    passing_test = rw (this, before, p.last x)

    inside_all : i < length all
    inside_all = omega (arith, p.index, ap length here, length-append p.done (x ∷ more))

    -- the first that breaks
    pub passing_found : (k : ℕ) → k ≡ i → breaks ≡ true → fault 11 k ≡ fault_at 11 (first (breaks_at all illegal) (length all))
    passing_found k z e = rw z (ap (fault_at 11) (sym (some_first (breaks_at all illegal) (length all) i inside_all (sym passing_test ∙ e) p.fine)))

    one_release : (y : Record) → length (releases (y ∷ [])) ≡ bool_byte (is_release y)
    unfolding releases
    one_release y = go (is_release y)
      where
        go : (t : Bool) → length (cond t (job y.instant y.task y.work ∷ []) []) ≡ bool_byte t
        go true = refl
        go false = refl

    bool_most : (t : Bool) → bool_byte t ≤ 1
    bool_most true = omega arith
    bool_most false = omega arith

    pub passing_next : breaks ≡ false → Passing more (some x) (i + 1) (j + bool_byte (is_release x))
    passing_next e = record {
      done = p.done ++ (x ∷ []);
      split = here ∙ sym (append_assoc p.done (x ∷ []) more);
      index = omega (arith, p.index, length-append p.done (x ∷ []));
      jobs = omega (
        arith,
        p.jobs,
        ap length (releases_append p.done (x ∷ [])),
        length-append (releases p.done) (releases (x ∷ [])),
        one_release x,
      );
      few = omega (arith, p.few, bool_most (is_release x));
      last = λ b. let z : i + 1 - 1 ≡ i = omega arith in rw (z, this, ne_eqb (i + 1) 0 (λ y. omega arith));
      fine = λ y h. elim (ℕ_discrete y i) [ yes z ↦ ap (breaks_at all illegal) z ∙ sym passing_test ∙ e | no z ↦ p.fine y (omega arith) ];
    }

  -- nothing breaks
  pub passing_end : (rest : List Record) (previous : Option Record) (i j : ℕ) → Passing rest previous i j → rest ≡ [] →
      fine ≡ fault_at 11 (first (breaks_at all illegal) (length all))
  passing_end rest previous i j p z =
      let size : length all ≡ i = omega (arith, ap length p.split, length-append p.done rest, ap length z, p.index) in
      ap (fault_at 11) (sym (none_first (breaks_at all illegal) (length all) (λ x h. p.fine x (omega (arith, size)))))

-- ---- the first record that breaks the rules is the first against the order, or that of the first illegal job

-- tests that hold first at the same number are first met there
first_same : (p q : ℕ → Bool) (n : ℕ) → ((i : ℕ) → i < n → q i ≡ true → p i ≡ true) →
    ((i : ℕ) → i < n → p i ≡ true → (j : ℕ) × (j ≤ i) × (q j ≡ true)) → first p n ≡ first q n
first_same p q n a b = go (first q n) refl
  where
    go : (o : Option ℕ) → first q n ≡ o → first p n ≡ o
    go none e = none_first p n (λ i l. elim (bool_cases (p i)) [
      | inl t ↦ let w = b i l t in absurd (false≢true (sym (first_none q n e w.0 (omega (arith, w.1))) ∙ w.2))
      | inr f ↦ f
    ])
    go (some c) e =
        let f = first_some q n c e in
        some_first p n c f.0 (a c f.0 f.1) (λ i l. elim (bool_cases (p i)) [
          | inl t ↦ let w = b i (omega (arith, f.0)) t in absurd (false≢true (sym (f.2 w.0 (omega (arith, w.1))) ∙ w.2))
          | inr g ↦ g
        ])

-- each job that is marked is illegal, and none that is illegal comes before it
module _ (ts : List Task) (rs : List Record) (illegal : marked.Option ℕ)
    (bad : (j : ℕ) → j < length (releases rs) → marks illegal j ≡ true → job_legal ts (ticks_of rs) (releases rs) j ≡ false)
    (met : (j : ℕ) → j < length (releases rs) → job_legal ts (ticks_of rs) (releases rs) j ≡ false → (c : ℕ) × (c ≤ j) × (marks illegal c ≡ true)) where
  abbrev turn : ℕ → Bool
  turn = in_turn rs

  abbrev release : ℕ → Bool
  release i = is_release (record_at rs i)

  abbrev legal : ℕ → Bool
  legal i = job_legal ts (ticks_of rs) (releases rs) (releases_before rs i)

  breaks_bad : (i : ℕ) → i < length rs → breaks_at rs illegal i ≡ true → not (record_legal ts rs i) ≡ true
  unfolding breaks_at record_legal
  breaks_bad i l e = go (turn i) refl (release i) refl e
    where
      go : (t : Bool) → turn i ≡ t → (u : Bool) → release i ≡ u → (not t || (u && marks illegal (releases_before rs i))) ≡ true →
          not (t && (not u || legal i)) ≡ true
      go false a u b q = refl
      go true a false b q = absurd (false≢true q)
      go true a true b q = rw (bad (releases_before rs i) (release_is rs i l b).0 q)

  bad_breaks : (i : ℕ) → i < length rs → not (record_legal ts rs i) ≡ true → (j : ℕ) × (j ≤ i) × (breaks_at rs illegal j ≡ true)
  unfolding breaks_at record_legal
  bad_breaks i l e = go (turn i) refl (release i) refl e
    where
      at_once : (t u : Bool) → turn i ≡ t → release i ≡ u → (not t || (u && marks illegal (releases_before rs i))) ≡ true →
          (j : ℕ) × (j ≤ i) × (breaks_at rs illegal j ≡ true)
      at_once t u a b q = (i, omega arith, rw (a, b) q)

      -- the record of a lower illegal job
      earlier : (c : ℕ) → marks illegal c ≡ true → c < releases_before rs i → (j : ℕ) × (j ≤ i) × (breaks_at rs illegal j ≡ true)
      earlier c m h =
          let f = release_of_lem (take i rs) c h in
          let k : ℕ = f.index in
          let below : k < i = omega (arith, f.below, length-take i rs) in
          let a : release k ≡ true = ap is_release (sym (get_or-take i rs k _ below)) ∙ f.release in
          let b : releases_before rs k ≡ c = ap (λ (l : List Record). length (releases l)) (sym (take-take k i rs (omega arith))) ∙ f.place in
          (k, omega arith, rw (a, b, m) (or-true (not (turn k))))

      go : (t : Bool) → turn i ≡ t → (u : Bool) → release i ≡ u → not (t && (not u || legal i)) ≡ true →
          (j : ℕ) × (j ≤ i) × (breaks_at rs illegal j ≡ true)
      go false a u b q = at_once false u a b refl
      go true a false b q = absurd (false≢true q)
      go true a true b q =
          let m = met (releases_before rs i) (release_is rs i l b).0 (not-true (legal i) q) in
          elim (dec_lt m.0 (releases_before rs i)) [
            | yes h ↦ earlier m.0 m.2 h
            | no h ↦ let z : m.0 ≡ releases_before rs i = omega (arith, m.1) in at_once true true a b (sym (ap (marks illegal) z) ∙ m.2)
          ]

  pub records_by : record_fault ts rs ≡ fault_at 11 (first (breaks_at rs illegal) (length rs))
  unfolding record_fault bad_record
  records_by = ap (fault_at 11) (first_same (λ i. not (record_legal ts rs i)) (breaks_at rs illegal) (length rs) breaks_bad bad_breaks)

-- ---- the check of the job list tells the first illegal job

pub numbers_length : (js : List Job) → length (numbers_of js) ≡ 3 * length js
unfolding numbers_of
numbers_length [] = refl
numbers_length (x ∷ js) = omega (arith, numbers_length js)

pub jobs_back : (js : List Job) → jobs_of (numbers_of js) ≡ js
unfolding numbers_of pieces pieces_from
jobs_back [] = refl
jobs_back (x ∷ js) = ap (λ (l : List Job). x ∷ l) (jobs_back js)

module _ (bytes ts jobs : List ℕ) (n : ℕ) (fits : Fits bytes) (group : group_fault ts ≡ fine) (ticks : n ≡ ticks_of (records_of bytes))
    (numbers : jobs ≡ numbers_of (releases (records_of bytes))) where
  abbrev rs : List Record
  rs = records_of bytes

  pub list_fine : job_list_fault n jobs ≡ fine
  unfolding job_list_fault
  list_fine =
      let l : length jobs ≡ 3 * length (releases rs) = ap length numbers ∙ numbers_length (releases rs) in
      rw (fine_count 3 most_jobs jobs (omega arith) (omega (arith, fits.few)), le-ltb most_ticks n (omega (arith, ticks, fits.ticks)))

  -- what the check of the jobs says
  told : (v : Fault) → v ≡ (group_fault ts or_else job_list_fault n jobs or_else job_fault (tasks_of ts) n (jobs_of jobs)) →
      fault_at 11 (bad_job (tasks_of ts) (ticks_of rs) (releases rs)) ≡ v
  unfolding job_fault
  told v e =
      let z : jobs_of jobs ≡ releases rs = ap jobs_of numbers ∙ jobs_back (releases rs) in
      sym (e ∙ rw (group, list_fine, z, ticks))

  legal_below : (c : ℕ) → bad_job (tasks_of ts) (ticks_of rs) (releases rs) ≡ some c → (c < length (releases rs))
      × (job_legal (tasks_of ts) (ticks_of rs) (releases rs) c ≡ false)
      × ((j : ℕ) → j < c → job_legal (tasks_of ts) (ticks_of rs) (releases rs) j ≡ true)
  unfolding bad_job
  legal_below c e =
      let f = first_some (λ j. not (job_legal (tasks_of ts) (ticks_of rs) (releases rs) j)) (length (releases rs)) c e in
      (f.0, not-true _ f.1, λ j l. not-false _ (f.2 j l))

  legal_all : bad_job (tasks_of ts) (ticks_of rs) (releases rs) ≡ none → (j : ℕ) → j < length (releases rs) →
      job_legal (tasks_of ts) (ticks_of rs) (releases rs) j ≡ true
  unfolding bad_job
  legal_all e j l = not-false _ (first_none (λ j. not (job_legal (tasks_of ts) (ticks_of rs) (releases rs) j)) (length (releases rs)) e j l)

  pub records_fine : fine ≡ (group_fault ts or_else job_list_fault n jobs or_else job_fault (tasks_of ts) n (jobs_of jobs)) →
      record_fault (tasks_of ts) rs ≡ fault_at 11 (first (breaks_at rs marked.TheVariants.None) (length rs))
  records_fine e =
      let b = fault_at_fine 11 (bad_job (tasks_of ts) (ticks_of rs) (releases rs)) (told fine e) in
      records_by (tasks_of ts) rs marked.TheVariants.None (λ j l m. absurd (false≢true m)) (λ j l f. absurd (true≢false (sym (legal_all b j l) ∙ f)))

  pub records_illegal : (m p : ℕ) → fault m p ≡ (group_fault ts or_else job_list_fault n jobs or_else job_fault (tasks_of ts) n (jobs_of jobs)) →
      record_fault (tasks_of ts) rs ≡ fault_at 11 (first (breaks_at rs (marked.TheVariants.Some p)) (length rs))
  records_illegal m p e = go (bad_job (tasks_of ts) (ticks_of rs) (releases rs)) refl (told (fault m p) e)
    where
      legal : ℕ → Bool
      legal = job_legal (tasks_of ts) (ticks_of rs) (releases rs)

      go : (o : Option ℕ) → bad_job (tasks_of ts) (ticks_of rs) (releases rs) ≡ o → fault_at 11 o ≡ fault m p →
          record_fault (tasks_of ts) rs ≡ fault_at 11 (first (breaks_at rs (marked.TheVariants.Some p)) (length rs))
      go none q f = absurd (fault_not_fine (sym f))
      go (some c) q f =
          let z : c ≡ p = cc in
          let b = legal_below c q in
          records_by (tasks_of ts) rs (marked.TheVariants.Some p)
          (λ j l u. let y : c ≡ j = z ∙ eqb-true p j u in ap legal (sym y) ∙ b.1)
          (λ j l u. elim (dec_lt j c) [
            | yes h ↦ absurd (true≢false (sym (b.2 j h) ∙ u))
            | no h ↦ (p, omega arith, eq-eqb p p refl)
          ])
