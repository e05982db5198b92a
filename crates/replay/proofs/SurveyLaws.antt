-- The first pass over a trace: what is left of it says the rest
use Rattle.std.proofs.Common.{◌≡◌, ℕ, suc, ◌+◌, ◌-◌, ◌<◌, ◌≤◌, min, Bool, true, false, cond, eqb, List, [], ◌∷◌, length, sym, refl, ap, subst, ◌∙◌, arith, le-leb}
use native.Mathlib.Decide.{dec_lt}
use mir.Val.{bool_byte}
use Rattle.scope.specs.Limits.{most_ticks}
use Rattle.scope.specs.Jobs.{Job, job}
use Rattle.scope.specs.Plan.{Read, Read.read, Read.bad, and_read, read_number}
use Rattle.scope.specs.Trace.{Stamped, read_record, records_within, trace_of, elapsed, Record, is_release, timed_from, first_stamp, timed, last_instant, ticks_of, releases}
use Rattle.theory.specs.Seven.{bad_not_read}
use Rattle.replay.specs.declared.read.Reader.{Reader}
use Rattle.replay.specs.Reading.{stamp_in, first_stamp_of, start_of, passed_by, passed}
use Rattle.replay.specs.Surveyed.{Surveyed, Surveyed.extends, Surveyed.damaged, surveyed}
use Rattle.replay.proofs.Forward.{record_next, and_records, records_end, records_bad, records_next}

-- n of these records; t where there are none
abbrev ticks_from : ℕ → List Record → ℕ
ticks_from t [] = t
ticks_from t (r ∷ rs) = suc (last_instant r.instant rs)

-- what a trace says from instant k, stamp s, n ticks and m releases on
abbrev summed : (k s t m : ℕ) → Read (List Stamped) → Surveyed
summed k s t m (read rs end) = extends (min (ticks_from t (timed_from k s rs)) (suc most_ticks)) (m + length (releases (timed_from k s rs)))
summed k s t m (bad offset) = damaged offset

ticks_more : (i : ℕ) (l : List Record) → suc (last_instant i l) ≡ ticks_from (suc i) l
unfolding last_instant
ticks_more i [] = refl
ticks_more i (r ∷ l) = refl

-- one record more
summed_next : (k s t m : ℕ) (x : Stamped) (y : Read (List Stamped)) → let i = k + elapsed s x.stamp in
    summed k s t m (and_records x y) ≡ summed i x.stamp (suc i) (m + bool_byte (eqb x.kind 0)) y
unfolding timed_from releases
summed_next k s t m x (bad offset) = refl
summed_next k s t m x (read rs end) = go (eqb x.kind 0)
  where
    i : ℕ
    i = k + elapsed s x.stamp

    later : List Record
    later = timed_from i x.stamp rs

    more : List Job
    more = releases later

    ticks : suc (last_instant i later) ≡ ticks_from (suc i) later
    ticks = ticks_more i later

    go : (b : Bool) → extends (min (suc (last_instant i later)) (suc most_ticks)) (m + length (cond b (job i x.task x.work ∷ more) more))
        ≡ extends (min (ticks_from (suc i) later) (suc most_ticks)) (m + bool_byte b + length more)
    go true = rw ticks (ap (extends (min (ticks_from (suc i) later) (suc most_ticks))) (omega arith))
    go false = rw ticks (ap (extends (min (ticks_from (suc i) later) (suc most_ticks))) (omega arith))

module _ (bytes : List ℕ) where
  pub some_read : (y : Read (List Stamped)) (x : Stamped) (rs : List Stamped) (end : ℕ) → and_records x y ≡ read rs end →
      (more : List Stamped) × (rs ≡ x ∷ more) × (y ≡ read more end)
  some_read (read more after) x rs end e = let z : after ≡ end = cc in (more, cc, ap (read more) z)
  some_read (bad o) x rs end e = let z : ◌≡◌ {A = ℕ} 0 1 = cc in absurd (omega arith)

  -- the records of a trace with a byte at least
  opened : (rs : List Stamped) (end : ℕ) → 0 < length bytes → trace_of bytes ≡ read rs end →
      (x : Stamped) × (more : List Stamped) × (next : ℕ) × (read_record bytes 0 ≡ read x next) × (rs ≡ x ∷ more)
  unfolding trace_of
  opened rs end h e = go (read_record bytes 0) refl
    where
      f : ℕ
      f = length bytes - 1

      fuel_is : length bytes ≡ suc f
      fuel_is = omega arith

      whole : records_within (suc f) bytes 0 ≡ read rs end
      whole = ap (λ (u : ℕ). records_within u bytes 0) (sym fuel_is) ∙ e

      go : (y : Read Stamped) → read_record bytes 0 ≡ y →
          (x : Stamped) × (more : List Stamped) × (next : ℕ) × (read_record bytes 0 ≡ read x next) × (rs ≡ x ∷ more)
      go (bad o) q = absurd (bad_not_read (sym (records_bad bytes f 0 o h q) ∙ whole))
      go (read x next) q =
          let m = some_read (records_within f bytes next) x rs end (sym (records_next bytes f 0 x next h q) ∙ whole) in
          (x, m.0, next, q, m.1)

  -- and of one without
  nothing : (rs : List Stamped) (end : ℕ) → length bytes ≡ 0 → trace_of bytes ≡ read rs end → rs ≡ []
  unfolding trace_of
  nothing rs end h e = let q : read rs end ≡ read [] 0 = sym e ∙ records_end bytes (length bytes) 0 (omega arith) in cc

  record_none : length bytes ≤ 0 → read_record bytes 0 ≡ bad (length bytes)
  unfolding read_record read_number
  record_none h = rw (le-leb (length bytes) 0 h)

  -- the counter stands where the first record finds it
  pub first_stamp_lem : (rs : List Stamped) (end : ℕ) → trace_of bytes ≡ read rs end → first_stamp_of bytes ≡ first_stamp rs
  unfolding first_stamp_of
  first_stamp_lem rs end e =
      elim (dec_lt 0 (length bytes)) [
        | yes h ↦ let o = opened rs end h e in ap stamp_in o.3 ∙ sym (ap first_stamp o.4)
        | no h ↦ ap stamp_in (record_none (omega arith)) ∙ sym (ap first_stamp (nothing rs end (omega arith) e))
      ]

  -- ---- the pass

  -- the reader, the ticks and the number of releases so far lead to what the whole trace says
  pub record Going (r : Reader) (ticks m : ℕ) : Type 0 where
    pub k : ℕ
    pub t : ℕ
    pub fuel : ℕ
    pub inside : r.at ≤ length bytes
    pub enough : length bytes ≤ r.at + fuel
    pub few : m ≤ r.at
    pub instant : r.instant ≡ min k most_ticks
    pub ticks_are : ticks ≡ min t (suc most_ticks)
    pub is : summed k r.stamp t m (records_within fuel bytes r.at) ≡ surveyed (trace_of bytes)

  pub going_first : Going (start_of bytes) 0 0
  unfolding start_of trace_of timed_from releases
  going_first = record {
    k = 0;
    t = 0;
    fuel = length bytes;
    inside = omega arith;
    enough = omega arith;
    few = omega arith;
    instant = refl;
    ticks_are = omega arith;
    is = go (trace_of bytes) refl;
  }
    where
      go : (y : Read (List Stamped)) → trace_of bytes ≡ y → summed 0 (first_stamp_of bytes) 0 0 y ≡ surveyed y
      go (bad o) e = refl
      go (read rs end) e = rw (first_stamp_lem rs end e) (all rs)
        where
          all : (rs : List Stamped) → summed 0 (first_stamp rs) 0 0 (read rs end) ≡ surveyed (read rs end)
          all [] = refl
          all (x ∷ rs) = ap (extends (min (ticks_of (timed (x ∷ rs))) (suc most_ticks))) zero_more
            where
              zero_more : 0 + length (releases (timed (x ∷ rs))) ≡ length (releases (timed (x ∷ rs)))
              zero_more = omega arith

  module _ (r : Reader) (ticks m : ℕ) (g : Going r ticks m) where
    module _ (h : r.at < length bytes) where
      abbrev f : ℕ
      f = g.fuel - 1

      fuel_is : g.fuel ≡ suc f
      fuel_is = omega (arith, g.enough)

      now_is : records_within g.fuel bytes r.at ≡ records_within (suc f) bytes r.at
      now_is = ap (λ (u : ℕ). records_within u bytes r.at) fuel_is

      -- a damaged record
      pub going_damaged : (o : ℕ) → bad o ≡ passed bytes r → damaged o ≡ surveyed (trace_of bytes)
      unfolding passed
      going_damaged o e = go (read_record bytes r.at) refl e
        where
          go : (y : Read Stamped) → read_record bytes r.at ≡ y → bad o ≡ and_read y (λ x next. read (passed_by r x next) next) →
              damaged o ≡ surveyed (trace_of bytes)
          go (bad p) i q =
              let z : o ≡ p = cc in
              ap damaged z ∙ sym (ap (summed g.k r.stamp g.t m) (now_is ∙ records_bad bytes f r.at p h i)) ∙ g.is
          go (read x next) i q = let z : ◌≡◌ {A = ℕ} 0 1 = cc in absurd (omega arith)

      record Moved (x : Record) (q : Reader) : Type 0 where
        pub going : Going q (x.instant + 1) (m + bool_byte (is_release x))
        pub less : length bytes - q.at < length bytes - r.at
        pub early : x.instant ≤ most_ticks

      -- and one that is passed
      going_moved : (x : Record) (q : Reader) (end : ℕ) → read (x, q) end ≡ passed bytes r → Moved x q
      unfolding passed
      going_moved x q end e = go (read_record bytes r.at) refl e
        where
          one : (z : Stamped) (next : ℕ) → read_record bytes r.at ≡ read z next → Moved (passed_by r z next).0 (passed_by r z next).1
          one z next i =
              let p = record_next bytes r.at z next i in
              record {
                going = record {
                  k = g.k + elapsed r.stamp z.stamp;
                  t = suc (g.k + elapsed r.stamp z.stamp);
                  fuel = f;
                  inside = p.1;
                  enough = omega (arith, p.0, g.enough, fuel_is);
                  few = omega (arith, g.few, p.0, bool_most (eqb z.kind 0));
                  instant = let y = g.instant in omega arith;
                  ticks_are = let y = g.instant in omega arith;
                  is = sym (summed_next g.k r.stamp g.t m z (records_within f bytes next))
                      ∙ ap (summed g.k r.stamp g.t m) (sym (records_next bytes f r.at z next h i) ∙ sym now_is) ∙ g.is;
                };
                less = omega (arith, p.0, p.1);
                early = omega arith;
              }
            where
              bool_most : (t : Bool) → bool_byte t ≤ 1
              bool_most true = omega arith
              bool_most false = omega arith

          go : (y : Read Stamped) → read_record bytes r.at ≡ y → read (x, q) end ≡ and_read y (λ x next. read (passed_by r x next) next) → Moved x q
          go (bad p) i w = let z : ◌≡◌ {A = ℕ} 0 1 = cc in absurd (omega arith)
          go (read z next) i w =
              let u : ◌≡◌ {A = Record × Reader} (passed_by r z next) (x, q) = cc in
              subst (λ (v : Record × Reader). Moved v.0 v.1) u (one z next i)

      pub going_next : (x : Record) (q : Reader) (end : ℕ) → read (x, q) end ≡ passed bytes r → Going q (x.instant + 1) (m + bool_byte (is_release x))
      going_next x q end e = (going_moved x q end e).going

      -- each record is nearer to the end of the bytes
      pub going_less : (x : Record) (q : Reader) (end : ℕ) → read (x, q) end ≡ passed bytes r → length bytes - q.at < length bytes - r.at
      going_less x q end e = (going_moved x q end e).less

      pub going_early : (x : Record) (q : Reader) (end : ℕ) → read (x, q) end ≡ passed bytes r → x.instant ≤ most_ticks
      going_early x q end e = (going_moved x q end e).early

    -- at the end
    pub going_end : length bytes ≤ r.at → extends ticks m ≡ surveyed (trace_of bytes)
    unfolding timed_from releases
    going_end over =
        let e = ap (summed g.k r.stamp g.t m) (records_end bytes g.fuel r.at over) in
        let z : m ≡ m + 0 = omega arith in
        rw g.ticks_are (ap (extends (min g.t (suc most_ticks))) z ∙ sym e ∙ g.is)
