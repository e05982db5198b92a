-- Laws of a trace's stamps and bytes: the ticks between two records are found again past the counter's top too, stamps that are all later
-- by the same amount tell the same run, and what is written reads back
use Rattle.std.specs.Prelude.{◌≡◌, refl, Bool, leb, eqb}
use Rattle.std.proofs.Math.Path.{ap}
use Rattle.std.proofs.Common.{◌∙◌, arith, zero-add}
use Rattle.std.proofs.Math.Bool.{true, false, cond}
use mathlib.Core.List.{List, [], ◌∷◌, ◌++◌, append_assoc}
use Prim.Native.Nat.{ℕ, zero, suc, ◌+◌, ◌-◌, ◌%◌, ◌^◌, ◌≤◌, ◌<◌}
use Rattle.std.proofs.Math.Nat.{add-zero}
use Rattle.std.proofs.Math.Decide.{ℕ_discrete}
use Rattle.std.proofs.Math.ListN.{length, drop, length-append, length-drop}
use borrow.Author.Tests.{leb-true, le-leb, lt-leb, eq-eqb, ne_eqb}
use Rattle.scope.specs.Limits.{most_number}
use Rattle.scope.specs.Windows.{Board}
use Rattle.scope.specs.Answers.{Answer}
use Rattle.scope.specs.Plan.{Read, Read.read, Read.bad, and_read, read_number, number_bytes, or_nine}
use Rattle.scope.specs.Trace.{Stamped, read_kind, read_work, read_record, records_within, trace_of, elapsed, Record, timed_from, first_stamp, timed, last_instant}
use Rattle.scope.specs.Trace.{ticks_of, record_at, record_bytes, trace_bytes, stamped_from, shifted}
use Rattle.scope.specs.Replay.{records_answer, replay_answer}
use Rattle.theory.specs.Every.{Every, EveryTwo, every_imp}
use Rattle.theory.specs.Seven.{bad_not_read, number_most, written_number, written_groups}
use Rattle.theory.specs.Reading.{groups_size}
use Rattle.theory.specs.Series.{drop_past}

-- ---- stamps

-- "a free-running 32-bit counter that goes past its top back to 0": it shows k % 2 ^ 32 at tick k, and what has passed is found again
pub elapsed_counted : (k d : ℕ) → d < 2 ^ 32 → elapsed (k % 2 ^ 32) ((k + d) % 2 ^ 32) ≡ d
unfolding elapsed
elapsed_counted k d h = omega arith

pub elapsed_less : (a b : ℕ) → elapsed a b < 2 ^ 32
unfolding elapsed
elapsed_less a b = omega arith

elapsed_none : (a : ℕ) → elapsed a a ≡ 0
unfolding elapsed
elapsed_none a = omega arith

-- two stamps later by c are as far apart
pub elapsed_shifted : (a b c : ℕ) → a < 2 ^ 32 → b < 2 ^ 32 → elapsed ((a + c) % 2 ^ 32) ((b + c) % 2 ^ 32) ≡ elapsed a b
unfolding elapsed
elapsed_shifted a b c h k = omega arith

-- a stamp that a 32-bit counter shows
abbrev pub Counted : Stamped → Type 0
Counted r = r.stamp < 2 ^ 32

shifted_from : (c k s : ℕ) → s < 2 ^ 32 → (rs : List Stamped) → Every Counted rs →
    timed_from k ((s + c) % 2 ^ 32) (shifted c rs) ≡ timed_from k s rs
unfolding timed_from
shifted_from c k s l [] h = refl
shifted_from c k s l (r ∷ rs) h =
    rw (elapsed_shifted s r.stamp c l h.0, shifted_from c (k + elapsed s r.stamp) r.stamp h.0 rs h.1)

-- so the run does not depend on what the counter shows at its start
pub timed_shifted : (c : ℕ) (rs : List Stamped) → Every Counted rs → timed (shifted c rs) ≡ timed rs
unfolding timed_from
timed_shifted c [] h = refl
timed_shifted c (r ∷ rs) h = shifted_from c 0 r.stamp h.0 (r ∷ rs) h

-- ---- instants

-- no instant is before the one of the record before it, nor 2 ^ 32 ticks or more after it: "two records in a row are less than 2^32 ticks apart"
abbrev pub InStep : List Record → Type 0
InStep rs = (i : ℕ) → suc i < length rs →
    ((record_at rs i).instant ≤ (record_at rs (suc i)).instant) × ((record_at rs (suc i)).instant < (record_at rs i).instant + 2 ^ 32)

stamped_from_lem : (c : ℕ) (r : Record) (rs : List Record) → InStep (r ∷ rs) → timed_from r.instant ((c + r.instant) % 2 ^ 32) (stamped_from c rs) ≡ rs
unfolding timed_from
stamped_from_lem c r [] h = refl
stamped_from_lem c r (q ∷ rs) h =
    let d : ℕ = q.instant - r.instant in
    let p = h 0 (omega arith) in
    let z : c + q.instant ≡ c + r.instant + d = omega (arith, p.0) in
    let y : r.instant + d ≡ q.instant = omega (arith, p.0) in
    let e : r.instant + elapsed ((c + r.instant) % 2 ^ 32) ((c + q.instant) % 2 ^ 32) ≡ q.instant =
    rw (z, elapsed_counted (c + r.instant) d (omega (arith, p.0, p.1))) y in
    rw (e, stamped_from_lem c q rs (λ i k. h (suc i) (omega arith)))

-- records that a counter stamps are found again: "the first record is at run tick 0"
pub timed_stamped : (c : ℕ) (rs : List Record) → (record_at rs 0).instant ≡ 0 → InStep rs → timed (stamped_from c rs) ≡ rs
unfolding timed_from
timed_stamped c [] z h = refl
timed_stamped c (r ∷ rs) z h =
    let s : ℕ = (c + r.instant) % 2 ^ 32 in
    let e : 0 + elapsed s s ≡ r.instant = omega (arith, z, elapsed_none s) in
    rw (e, stamped_from_lem c r rs h)

-- the instants from k on
from_start : (k s : ℕ) (rs : List Stamped) → Every (λ r. k ≤ r.instant) (timed_from k s rs)
unfolding timed_from
from_start k s [] = tt
from_start k s (r ∷ rs) =
    let i : ℕ = k + elapsed s r.stamp in
    let later = from_start i r.stamp rs in
    (omega arith, every_imp (λ (q : Record). i ≤ q.instant) (λ q. k ≤ q.instant) (λ q h. omega arith) (timed_from i r.stamp rs) later)

-- none is before another that stands before it
abbrev pub NeverFalls : List Record → Type 0
NeverFalls rs = EveryTwo (λ a b. a.instant ≤ b.instant) rs

timed_from_rises : (k s : ℕ) (rs : List Stamped) → NeverFalls (timed_from k s rs)
unfolding timed_from
timed_from_rises k s [] = tt
timed_from_rises k s (r ∷ rs) =
    let i : ℕ = k + elapsed s r.stamp in
    (from_start i r.stamp rs, timed_from_rises i r.stamp rs)

pub timed_rises : (rs : List Stamped) → NeverFalls (timed rs)
timed_rises rs = timed_from_rises 0 (first_stamp rs) rs

-- each is at most the last
last_most : (k : ℕ) (rs : List Record) → Every (λ r. k ≤ r.instant) rs → NeverFalls rs →
    (k ≤ last_instant k rs) × Every (λ r. r.instant ≤ last_instant k rs) rs
unfolding last_instant
last_most k [] h n = (omega arith, tt)
last_most k (r ∷ rs) h n =
    let m = last_most r.instant rs n.0 n.1 in
    (omega (arith, h.0, m.0), (m.0, m.1))

-- "n is one past the last record's instant"
pub instant_inside : (rs : List Record) → NeverFalls rs → Every (λ r. r.instant < ticks_of rs) rs
instant_inside [] n = tt
instant_inside (r ∷ rs) n =
    let m = last_most r.instant rs n.0 n.1 in
    (omega (arith, m.0), every_imp (λ q. q.instant ≤ last_instant r.instant rs) (λ q. q.instant < ticks_of (r ∷ rs)) (λ q h. omega arith) rs m.1)

-- no record is after an instant that none is after
last_within : (k n : ℕ) (rs : List Record) → k ≤ n → Every (λ r. r.instant ≤ n) rs → last_instant k rs ≤ n
unfolding last_instant
last_within k n [] l h = l
last_within k n (r ∷ rs) l h = last_within r.instant n rs h.0 h.1

pub ticks_within : (n : ℕ) (rs : List Record) → Every (λ r. r.instant ≤ n) rs → ticks_of rs ≤ suc n
ticks_within n [] h = omega arith
ticks_within n (r ∷ rs) h = omega (arith, last_within r.instant n rs h.0 h.1)

-- ---- bytes

-- "kind (0 release, 1 completion), task index, work (release only), stamp", as numbers that a file can hold
pub record Recordable (r : Stamped) : Type 0 where
  pub kind : r.kind ≤ 1
  pub task : r.task ≤ most_number
  pub work : r.work ≤ most_number
  pub stamp : r.stamp ≤ most_number
  pub workless : r.kind ≡ 1 → r.work ≡ 0

pub recordable_counted : (rs : List Stamped) → Every Recordable rs → Every Counted rs
recordable_counted rs = every_imp Recordable Counted (λ r w. omega (arith, w.stamp)) rs

and_read_read : {A B R : Type 0} (x : Read A) (f : A → ℕ → Read B) (b : B) (end : ℕ) → and_read x f ≡ read b end →
    ((a : A) (next : ℕ) → x ≡ read a next → f a next ≡ read b end → R) → R
and_read_read (read a next) f b end e go = go a next refl e
and_read_read (bad o) f b end e go = absurd (bad_not_read e)

module _ (bytes : List ℕ) where
  kind_read : (at kind next : ℕ) → read_kind bytes at ≡ read kind next → kind ≤ 1
  kind_read at kind next e =
      and_read_read (read_number bytes at) _ kind next e (λ k after number q. go k after (leb k 1) refl q)
    where
      go : (k after : ℕ) (t : Bool) → leb k 1 ≡ t → cond t (read k after) (bad at) ≡ read kind next → kind ≤ 1
      go k after true l q = let z : k ≡ kind = cc in omega (arith, leb-true k 1 l)
      go k after false l q = absurd (bad_not_read q)

  work_read : (kind at work next : ℕ) → read_work kind bytes at ≡ read work next → (work ≤ most_number) × (kind ≡ 1 → work ≡ 0)
  work_read zero at work next e = (number_most bytes at work next e, λ z. absurd (omega arith))
  work_read (suc kind) at work next e =
      let q : read 0 at ≡ read work next = rw (ne_eqb (suc kind) 0 (λ z. omega arith)) at e in
      let z : 0 ≡ work = cc in
      (omega arith, λ u. omega arith)

  -- what is read is such a record
  record_read : (at : ℕ) (r : Stamped) (next : ℕ) → read_record bytes at ≡ read r next → Recordable r
  unfolding read_record
  record_read at r next e =
      and_read_read (read_kind bytes at) _ r next e (λ kind a₁ e₁ q₁.
      and_read_read (read_number bytes a₁) _ r next q₁ (λ task a₂ e₂ q₂.
      and_read_read (read_work kind bytes a₂) _ r next q₂ (λ work a₃ e₃ q₃.
      and_read_read (read_number bytes a₃) _ r next q₃ (λ stamp a₄ e₄ q₄.
      let z : record { kind = kind; task = task; work = work; stamp = stamp } ≡ r = cc in
      let w = work_read kind a₂ work a₃ e₃ in
      rw (← z) (record {
        kind = kind_read at kind a₁ e₁;
        task = number_most bytes a₁ task a₂ e₂;
        work = w.0;
        stamp = number_most bytes a₃ stamp a₄ e₄;
        workless = w.1;
      })))))

  records_read : (f at : ℕ) (rs : List Stamped) (end : ℕ) → records_within f bytes at ≡ read rs end → Every Recordable rs
  unfolding records_within
  records_read zero at rs end e = let z : [] ≡ rs = cc in rw (← z) tt
  records_read (suc f) at rs end e = go (leb (length bytes) at) (records_read f) e
    where
      go : (t : Bool) → ((at : ℕ) (rs : List Stamped) (end : ℕ) → records_within f bytes at ≡ read rs end → Every Recordable rs) →
          cond t (read [] at) (and_read (read_record bytes at) (λ r next. and_read (records_within f bytes next) (λ rs end. read (r ∷ rs) end))) ≡ read rs end →
          Every Recordable rs
      go true ih q = let z : [] ≡ rs = cc in rw (← z) tt
      go false ih q =
          and_read_read (read_record bytes at) _ rs end q (λ r next e₁ q₁.
          and_read_read (records_within f bytes next) _ rs end q₁ (λ l past e₂ q₂.
          let z : r ∷ l ≡ rs = cc in
          rw (← z) (record_read at r next e₁, ih next l past e₂)))

  pub trace_recordable : (rs : List Stamped) (end : ℕ) → trace_of bytes ≡ read rs end → Every Recordable rs
  unfolding trace_of
  trace_recordable rs end e = records_read (length bytes) 0 rs end e

-- the bytes of a record's work: a completion has none
abbrev work_bytes : Stamped → List ℕ
work_bytes r = cond (eqb r.kind 0) (number_bytes r.work) []

record_parts : (r : Stamped) (rest : List ℕ) →
    record_bytes r ++ rest ≡ number_bytes r.kind ++ (number_bytes r.task ++ (work_bytes r ++ (number_bytes r.stamp ++ rest)))
unfolding record_bytes
record_parts r rest =
    let front = number_bytes r.kind ++ number_bytes r.task in
    append_assoc (front ++ work_bytes r) (number_bytes r.stamp) rest
    ∙ append_assoc front (work_bytes r) _
    ∙ append_assoc (number_bytes r.kind) (number_bytes r.task) _

record_length : (r : Stamped) → length (record_bytes r) ≡
    length (number_bytes r.kind) + length (number_bytes r.task) + length (work_bytes r) + length (number_bytes r.stamp)
unfolding record_bytes
record_length r = omega (
  arith,
  length-append (number_bytes r.kind ++ number_bytes r.task ++ work_bytes r) (number_bytes r.stamp),
  length-append (number_bytes r.kind ++ number_bytes r.task) (work_bytes r),
  length-append (number_bytes r.kind) (number_bytes r.task),
)

-- a record takes a byte at least
record_some : (r : Stamped) → 1 ≤ length (record_bytes r)
record_some r = omega (arith, record_length r, (groups_size _ _ (written_groups r.kind []).is).0)

pub trace_some : (rs : List Stamped) → length rs ≤ length (trace_bytes rs)
unfolding trace_bytes
trace_some [] = omega arith
trace_some (r ∷ rs) = omega (arith, length-append (record_bytes r) (trace_bytes rs), record_some r, trace_some rs)

module _ (bytes : List ℕ) where
  written_work : (rest : List ℕ) (at : ℕ) (r : Stamped) → Recordable r → drop at bytes ≡ work_bytes r ++ rest →
      read_work r.kind bytes at ≡ read r.work (at + length (work_bytes r))
  written_work rest at r w e =
      elim (ℕ_discrete r.kind 0) [
        | yes z ↦
            let s = eq-eqb r.kind 0 z in
            rw s (written_number bytes rest at r.work w.work (rw s at e))
        | no u ↦ rw (ne_eqb r.kind 0 u, add-zero at, w.workless (omega (arith, w.kind)))
      ]

  -- a record that stands written at an offset is read there
  written_record : (rest : List ℕ) (at : ℕ) (r : Stamped) → Recordable r → drop at bytes ≡ record_bytes r ++ rest →
      read_record bytes at ≡ read r (at + length (record_bytes r))
  unfolding read_record
  written_record rest at r w h =
      let kind = number_bytes r.kind in
      let task = number_bytes r.task in
      let work = work_bytes r in
      let h₀ : drop at bytes ≡ kind ++ (task ++ (work ++ (number_bytes r.stamp ++ rest))) = h ∙ record_parts r rest in
      let a₁ : ℕ = at + length kind in
      let h₁ = drop_past bytes kind _ at h₀ in
      let a₂ : ℕ = a₁ + length task in
      let h₂ = drop_past bytes task _ a₁ h₁ in
      let a₃ : ℕ = a₂ + length work in
      let h₃ = drop_past bytes work _ a₂ h₂ in
      let z : a₃ + length (number_bytes r.stamp) ≡ at + length (record_bytes r) = omega (arith, record_length r) in
      rw (
        written_number bytes _ at r.kind (omega (arith, w.kind)) h₀,
        le-leb r.kind 1 w.kind,
        written_number bytes _ a₁ r.task w.task h₁,
        written_work _ a₂ r w h₂,
        written_number bytes _ a₃ r.stamp w.stamp h₃,
        z,
      )

  -- and so are all records to the end of the bytes
  written_records : (f at : ℕ) (rs : List Stamped) → length rs ≤ f → Every Recordable rs → drop at bytes ≡ trace_bytes rs →
      records_within f bytes at ≡ read rs (at + length (trace_bytes rs))
  unfolding records_within trace_bytes
  written_records zero at [] l w e = rw (add-zero at)
  written_records (suc f) at [] l w e = rw (le-leb (length bytes) at (omega (arith, ap length e, length-drop at bytes)), add-zero at)
  written_records zero at (r ∷ rs) l w e = absurd (omega arith)
  written_records (suc f) at (r ∷ rs) l w e =
      let next : ℕ = at + length (record_bytes r) in
      let more : at < length bytes =
      omega (arith, ap length e, length-drop at bytes, length-append (record_bytes r) (trace_bytes rs), record_some r) in
      let z : next + length (trace_bytes rs) ≡ at + length (record_bytes r ++ trace_bytes rs) = omega (arith, length-append (record_bytes r) (trace_bytes rs)) in
      rw (
        lt-leb (length bytes) at more,
        written_record (trace_bytes rs) at r w.0 e,
        written_records f next rs (omega arith) w.1 (drop_past bytes (record_bytes r) (trace_bytes rs) at e),
        z,
      )

-- a trace that is written reads back
pub trace_round_trip : (rs : List Stamped) → Every Recordable rs → trace_of (trace_bytes rs) ≡ read rs (length (trace_bytes rs))
unfolding trace_of
trace_round_trip rs w =
    written_records (trace_bytes rs) (length (trace_bytes rs)) 0 rs (trace_some rs) w refl ∙ ap (read rs) (zero-add (length (trace_bytes rs)))

-- ---- a trace whose stamps are all later by c

shifted_recordable : (c : ℕ) (rs : List Stamped) → Every Recordable rs → Every Recordable (shifted c rs)
shifted_recordable c [] w = tt
shifted_recordable c (r ∷ rs) w =
    let h = w.0 in
    (record { kind = h.kind; task = h.task; work = h.work; stamp = omega arith; workless = h.workless }, shifted_recordable c rs w.1)

module _ (bytes : List ℕ) (rs : List Stamped) (end : ℕ) (reads : trace_of bytes ≡ read rs end) (c : ℕ) where
  -- there are bytes that read to it
  pub shifted_bytes : trace_of (trace_bytes (shifted c rs)) ≡ read (shifted c rs) (length (trace_bytes (shifted c rs)))
  shifted_bytes = trace_round_trip (shifted c rs) (shifted_recordable c rs (trace_recordable bytes rs end reads))

  -- and whichever they are, what is made of the timed records stays: a free-running counter may show anything when the run starts
  pub shift_same : {A : Type 0} (bytes' : List ℕ) (end' : ℕ) → trace_of bytes' ≡ read (shifted c rs) end' → (answer : List Record → Answer A) →
      or_nine (trace_of bytes') (λ r next. answer (timed r)) ≡ or_nine (trace_of bytes) (λ r next. answer (timed r))
  shift_same bytes' end' reads' answer =
      rw (reads, reads', timed_shifted c rs (recordable_counted rs (trace_recordable bytes rs end reads)))

  -- so they answer as before
  pub shift_answer : (bytes' : List ℕ) (end' : ℕ) → trace_of bytes' ≡ read (shifted c rs) end' → (b : Board) (ws ts : List ℕ) →
      replay_answer b ws ts bytes' ≡ replay_answer b ws ts bytes
  unfolding replay_answer
  shift_answer bytes' end' reads' b ws ts = shift_same bytes' end' reads' (records_answer b ws ts)
