-- A trace gone through record by record: what is left
use Rattle.std.proofs.Common.{◌≡◌, ℕ, zero, suc, ◌+◌, ◌<◌, ◌≤◌, min, Bool, true, false, cond, leb, List, [], ◌∷◌, length, sym, refl, ap, ◌∙◌, arith, le-leb, leb-true}
use mathlib.Core.Bool.{false≢true}
use native.Mathlib.Decide.{dec_lt}
use borrow.Author.Tests.{lt-leb}
use Rattle.scope.specs.Limits.{most_ticks, most_jobs}
use Rattle.scope.specs.Plan.{Read, Read.read, Read.bad, and_read}
use Rattle.scope.specs.Trace.{Stamped, read_record, records_within, trace_of, elapsed, Record, timed_from, first_stamp, timed, last_instant, ticks_of, releases}
use Rattle.theory.specs.Numbers.{and_both}
use Rattle.theory.specs.Seven.{bad_not_read}
use Rattle.replay.specs.declared.read.Record as recorded
use Rattle.replay.specs.declared.read.Reader.{Reader}
use Rattle.replay.specs.declared.records.Records.{Records}
use Rattle.replay.specs.Fitting.{fits_in, fits}
use Rattle.replay.specs.Reading.{at_instant, record_of, start_of, moved, passed_by, passed}
use Rattle.replay.specs.Records.{and_left, left_from, records_left}
use Rattle.replay.specs.Rebuilt.{timed_in, records_of, Fits}
use Rattle.replay.proofs.Forward.{record_next, records_end, records_bad, records_next}
use Rattle.replay.proofs.SurveyLaws.{some_read, first_stamp_lem}

-- instants never fall
last_ge : (k s : ℕ) (rs : List Stamped) → k ≤ last_instant k (timed_from k s rs)
unfolding timed_from last_instant
last_ge k s [] = omega arith
last_ge k s (x ∷ rs) = let i : ℕ = k + elapsed s x.stamp in omega (arith, last_ge i x.stamp rs)

-- nor is the last one past n
last_ticks : (k s : ℕ) (rs : List Stamped) → last_instant 0 (timed_from k s rs) ≤ ticks_of (timed_from k s rs)
unfolding timed_from last_instant
last_ticks k s [] = omega arith
last_ticks k s (x ∷ rs) = omega arith

module _ (bytes : List ℕ) where
  -- ---- the reader goes on

  pub left_end : (f : ℕ) (r : Reader) → length bytes ≤ r.at → [] ≡ left_from f bytes r
  unfolding left_from
  left_end zero r h = refl
  left_end (suc f) r h = rw (le-leb (length bytes) r.at h)

  -- one step, where a byte is left
  abbrev step : ℕ → Reader → List Record
  step f r = and_left (passed bytes r) (left_from f bytes)

  left_step : (f : ℕ) (r : Reader) → r.at < length bytes → left_from (suc f) bytes r ≡ step f r
  unfolding left_from
  left_step f r h = rw (lt-leb (length bytes) r.at h)

  -- fuel that is enough is as good as more
  left_enough : (f g : ℕ) (r : Reader) → length bytes ≤ r.at + f → length bytes ≤ r.at + g → left_from f bytes r ≡ left_from g bytes r
  unfolding passed
  left_enough zero g r h k = sym (left_end zero r (omega arith)) ∙ left_end g r (omega arith)
  left_enough (suc f) zero r h k = sym (left_end (suc f) r (omega arith)) ∙ left_end zero r (omega arith)
  left_enough (suc f) (suc g) r h k =
      elim (dec_lt r.at (length bytes)) [
        | yes l ↦ left_step f r l ∙ go (λ q. left_enough f g q) (read_record bytes r.at) refl ∙ sym (left_step g r l)
        | no l ↦ sym (left_end (suc f) r (omega arith)) ∙ left_end (suc g) r (omega arith)
      ]
    where
      go : ((q : Reader) → length bytes ≤ q.at + f → length bytes ≤ q.at + g → left_from f bytes q ≡ left_from g bytes q) →
          (y : Read Stamped) → read_record bytes r.at ≡ y →
          and_left (and_read y (λ x next. read (passed_by r x next) next)) (left_from f bytes)
          ≡ and_left (and_read y (λ x next. read (passed_by r x next) next)) (left_from g bytes)
      go more (read x next) e =
          let p = record_next bytes r.at x next e in
          ap (λ (l : List Record). at_instant (moved r x next).instant x ∷ l) (more (moved r x next) (omega (arith, p.0)) (omega (arith, p.0)))
      go more (bad o) e = refl

  module _ (r : Reader) (h : r.at < length bytes) where
    -- a damaged record ends the records
    pub left_damaged : (o : ℕ) → bad o ≡ passed bytes r → [] ≡ left_from (length bytes) bytes r
    left_damaged o e = go (length bytes) (omega arith)
      where
        go : (f : ℕ) → 0 < f → [] ≡ left_from f bytes r
        go zero k = absurd (omega arith)
        go (suc f) k = sym (left_step f r h ∙ ap (λ (y : Read (Record × Reader)). and_left y (left_from f bytes)) (sym e))

    forward : (x : Record) (q : Reader) (next : ℕ) → read (x, q) next ≡ passed bytes r → r.at < q.at
    unfolding passed
    forward x q next e = go (read_record bytes r.at) refl e
      where
        go : (y : Read Stamped) → read_record bytes r.at ≡ y → read (x, q) next ≡ and_read y (λ x next. read (passed_by r x next) next) → r.at < q.at
        go (read z after) i f =
            let p : ◌≡◌ {A = Record × Reader} (x, q) (passed_by r z after) = cc in
            omega (arith, ap (λ (u : Record × Reader). u.1.at) p, (record_next bytes r.at z after i).0)
        go (bad o) i f = let z : ◌≡◌ {A = ℕ} 0 1 = cc in absurd (omega arith)

    -- one that reads is the first of them
    pub left_next : (x : Record) (q : Reader) (next : ℕ) → read (x, q) next ≡ passed bytes r →
        left_from (length bytes) bytes r ≡ x ∷ left_from (length bytes) bytes q
    left_next x q next e = go (length bytes) (omega arith) (omega arith)
      where
        go : (f : ℕ) → 0 < f → length bytes ≤ f → left_from f bytes r ≡ x ∷ left_from (length bytes) bytes q
        go zero k l = absurd (omega arith)
        go (suc f) k l =
            left_step f r h ∙ ap (λ (y : Read (Record × Reader)). and_left y (left_from f bytes)) (sym e)
            ∙ ap (λ (l : List Record). x ∷ l) (left_enough f (length bytes) q (omega (arith, forward x q next e)) (omega arith))

  -- ---- all of them

  left_timed : (f : ℕ) (r : Reader) (rest : List Stamped) (end : ℕ) → records_within f bytes r.at ≡ read rest end →
      last_instant r.instant (timed_from r.instant r.stamp rest) ≤ most_ticks → left_from f bytes r ≡ timed_from r.instant r.stamp rest
  unfolding records_within timed_from left_from passed last_instant
  left_timed zero r rest end e h = let z : rest ≡ [] = cc in rw z
  left_timed (suc f) r rest end e h =
      elim (dec_lt r.at (length bytes)) [
        | no l ↦
            let q : read rest end ≡ read [] r.at = sym e ∙ records_end bytes (suc f) r.at (omega arith) in
            let z : rest ≡ [] = cc in
            sym (left_end (suc f) r (omega arith)) ∙ sym (ap (timed_from r.instant r.stamp) z)
        | yes l ↦ left_step f r l ∙ go (λ q. left_timed f q) l (read_record bytes r.at) refl
      ]
    where
      go : ((q : Reader) (rest : List Stamped) (end : ℕ) → records_within f bytes q.at ≡ read rest end →
          last_instant q.instant (timed_from q.instant q.stamp rest) ≤ most_ticks → left_from f bytes q ≡ timed_from q.instant q.stamp rest) →
          r.at < length bytes → (y : Read Stamped) → read_record bytes r.at ≡ y → step f r ≡ timed_from r.instant r.stamp rest
      go others l (bad o) i = absurd (bad_not_read (sym (records_bad bytes f r.at o l i) ∙ e))
      go others l (read x next) i =
          let m = some_read bytes (records_within f bytes next) x rest end (sym (records_next bytes f r.at x next l i) ∙ e) in
          let k : ℕ = r.instant + elapsed r.stamp x.stamp in
          let more : List Record = timed_from k x.stamp m.0 in
          let split : timed_from r.instant r.stamp rest ≡ at_instant k x ∷ more = ap (timed_from r.instant r.stamp) m.1 in
          let late : last_instant k more ≤ most_ticks = omega (arith, h, ap (last_instant r.instant) split) in
          let z : min k most_ticks ≡ k = omega (arith, late, last_ge k x.stamp m.0) in
          let here : step f r ≡ at_instant (min k most_ticks) x ∷ left_from f bytes (moved r x next) = rw i in
          let y : timed_from (min k most_ticks) x.stamp m.0 ≡ more = ap (λ (u : ℕ). timed_from u x.stamp m.0) z in
          here
          ∙ ap (λ (l : List Record). at_instant (min k most_ticks) x ∷ l)
          (others (moved r x next) m.0 end m.2 (omega (arith, late, ap (last_instant k) y, ap (λ (u : ℕ). last_instant u (timed_from (min k most_ticks) x.stamp m.0)) z)))
          ∙ ap (λ (u : ℕ). at_instant u x ∷ timed_from u x.stamp m.0) z
          ∙ sym split

  -- a trace that fits
  pub fits_is : fits bytes ≡ true → Fits bytes
  unfolding fits records_of
  fits_is e = go (trace_of bytes) refl e
    where
      go : (y : Read (List Stamped)) → trace_of bytes ≡ y → fits_in y ≡ true → Fits bytes
      go (read rs end) i q =
          let p = and_both (leb (ticks_of (timed rs)) most_ticks) (leb (length (releases (timed rs))) most_jobs) q in
          let z : records_of bytes ≡ timed rs = ap timed_in i in
          record {
            stamped = rs;
            end = end;
            reads = i;
            ticks = rw z (leb-true _ _ p.0);
            few = rw z (leb-true _ _ p.1);
          }
      go (bad o) i q = absurd (false≢true q)

  left_all : Fits bytes → left_from (length bytes) bytes (start_of bytes) ≡ records_of bytes
  unfolding start_of records_of trace_of
  left_all f =
      let e : records_of bytes ≡ timed f.stamped = ap timed_in f.reads in
      let s = ap (λ (u : ℕ). timed_from 0 u f.stamped) (first_stamp_lem bytes f.stamped f.end f.reads) in
      left_timed (length bytes) (start_of bytes) f.stamped f.end f.reads
      (omega (arith, f.ticks, ap ticks_of e, ap (last_instant 0) s, last_ticks 0 (first_stamp f.stamped) f.stamped))
      ∙ s ∙ sym e

  pub left_first : fits bytes ≡ true → left_from (length bytes) bytes (start_of bytes) ≡ records_of bytes
  left_first e = left_all (fits_is e)

  -- no more of them than bytes
  left_few : (f : ℕ) (r : Reader) → length (left_from f bytes r) ≤ f
  unfolding left_from
  left_few zero r = omega arith
  left_few (suc f) r = go (leb (length bytes) r.at) (passed bytes r) (λ q. left_few f q)
    where
      go : (t : Bool) (y : Read (Record × Reader)) → ((q : Reader) → length (left_from f bytes q) ≤ f) →
          length (cond t [] (and_left y (left_from f bytes))) ≤ suc f
      go true y h = omega arith
      go false (read p next) h = omega (arith, h p.1)
      go false (bad o) h = omega arith

  pub few_records : (n : ℕ) → fits bytes ≡ true → length bytes < n → length (records_of bytes) < n
  few_records n e h = omega (arith, ap length (left_first e), left_few (length bytes) (start_of bytes))

-- ---- the iterator's steps

pub none_left : (s : Records) → length s.bytes.now ≤ s.reader.at → records_left s ≡ []
unfolding records_left
none_left s h = sym (left_end s.bytes.now (length s.bytes.now) s.reader h)

pub damaged_left : (s : Records) (o : ℕ) → s.reader.at < length s.bytes.now → bad o ≡ passed s.bytes.now s.reader → records_left s ≡ []
unfolding records_left
damaged_left s o h e = sym (left_damaged s.bytes.now s.reader h o e)

module _ (s : Records) (x : recorded.Record) (q : Reader) (next : ℕ) (h : s.reader.at < length s.bytes.now)
    (e : read (record_of x, q) next ≡ passed s.bytes.now s.reader) where
  abbrev after : Records
  after = record { bytes = s.bytes; reader = q }

  pub one_left : records_left s ≡ record_of x ∷ records_left after
  unfolding records_left
  one_left = left_next s.bytes.now s.reader h (record_of x) q next e

  pub goes_on : length (records_left after) < length (records_left s)
  goes_on = omega (arith, ap length one_left)
