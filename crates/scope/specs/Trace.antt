-- Document 02, request 2: a board's trace, from its bytes to the releases and completions of a run.
use Rattle.std.specs.Prelude.{ℕ, zero, suc, ◌+◌, ◌-◌, ◌%◌, ◌^◌, Bool, not, cond, ◌&&◌, ◌||◌, List, [], ◌∷◌, ◌++◌, map, leb, ltb, eqb, length, get_or, take}
use Rattle.std.proofs.Math.Option.{Option}
use Rattle.scope.specs.Numbers.{first, lexically}
use Rattle.scope.specs.Tasks.{Task}
use Rattle.scope.specs.Jobs.{Job, job, job_legal}
use Rattle.scope.specs.Plan.{Read, Read.read, Read.bad, and_read, read_number, number_bytes}

-- ---- the file

-- kind (0 release, 1 completion), task index, work (release only, else 0), stamp
pub record Stamped : Type 0 where
  pub kind : ℕ
  pub task : ℕ
  pub work : ℕ
  pub stamp : ℕ

-- another kind is bad at its first byte
abbrev pub read_kind : List ℕ → ℕ → Read ℕ
read_kind bytes at = and_read (read_number bytes at) (λ kind next. cond (leb kind 1) (read kind next) (bad at))

-- a completion has no work
abbrev pub read_work : ℕ → List ℕ → ℕ → Read ℕ
read_work kind bytes at = cond (eqb kind 0) (read_number bytes at) (read 0 at)

unfoldable pub read_record : List ℕ → ℕ → Read Stamped
read_record bytes at =
    and_read (read_kind bytes at) (λ kind afterKind.
    and_read (read_number bytes afterKind) (λ task afterTask.
    and_read (read_work kind bytes afterTask) (λ work afterWork.
    and_read (read_number bytes afterWork) (λ stamp next.
    read (record { kind = kind; task = task; work = work; stamp = stamp }) next))))

-- records one after another to the end of the bytes, at most f of them
unfoldable pub records_within : ℕ → List ℕ → ℕ → Read (List Stamped)
records_within zero bytes at = read [] at
records_within (suc f) bytes at =
    cond (leb (length bytes) at) (read [] at)
    (and_read (read_record bytes at) (λ r next. and_read (records_within f bytes next) (λ rs end. read (r ∷ rs) end)))

-- a record takes a byte at least, so there are no more records than bytes
unfoldable pub trace_of : List ℕ → Read (List Stamped)
trace_of bytes = records_within (length bytes) bytes 0

-- ---- run ticks

-- the ticks from one stamp to a later one less than 2³² ticks apart: the counter goes past its top back to 0
unfoldable pub elapsed : ℕ → ℕ → ℕ
elapsed earlier later = (later + 2 ^ 32 - earlier) % 2 ^ 32

-- a record at its instant of the run
pub record Record : Type 0 where
  pub instant : ℕ
  pub kind : ℕ
  pub task : ℕ
  pub work : ℕ

-- the records after one that was stamped s at instant k
unfoldable pub timed_from : ℕ → ℕ → List Stamped → List Record
timed_from k s [] = []
timed_from k s (r ∷ rs) =
    let i = k + elapsed s r.stamp in
    record { instant = i; kind = r.kind; task = r.task; work = r.work } ∷ timed_from i r.stamp rs

abbrev pub first_stamp : List Stamped → ℕ
first_stamp [] = 0
first_stamp (r ∷ rs) = r.stamp

-- the first record is at run tick 0
abbrev pub timed : List Stamped → List Record
timed rs = timed_from 0 (first_stamp rs) rs

-- the instant of the last record; k where there is none
unfoldable pub last_instant : ℕ → List Record → ℕ
last_instant k [] = k
last_instant k (r ∷ rs) = last_instant r.instant rs

-- n is one past the last record's instant, 0 for an empty file
abbrev pub ticks_of : List Record → ℕ
ticks_of [] = 0
ticks_of (r ∷ rs) = suc (last_instant r.instant rs)

-- ---- releases and completions

abbrev pub is_release : Record → Bool
is_release r = eqb r.kind 0

-- the releases, as a job list
unfoldable pub releases : List Record → List Job
releases [] = []
releases (r ∷ rs) = cond (is_release r) (job r.instant r.task r.work ∷ releases rs) (releases rs)

-- the instant after a job's last work, and its task
pub record Completion : Type 0 where
  pub instant : ℕ
  pub task : ℕ

abbrev pub completion : ℕ → ℕ → Completion
completion k i = record { instant = k; task = i }

unfoldable pub completions : List Record → List Completion
completions [] = []
completions (r ∷ rs) = cond (is_release r) (completions rs) (completion r.instant r.task ∷ completions rs)

-- ---- the order of records

abbrev pub record_at : List Record → ℕ → Record
record_at rs i = get_or rs i (record { instant = 0; kind = 0; task = 0; work = 0 })

-- at one instant completions come before releases, each kind by strictly rising task index
abbrev pub goes_before : Record → Record → Bool
goes_before a b = lexically a.instant b.instant (lexically b.kind a.kind (ltb a.task b.task))

abbrev pub in_turn : List Record → ℕ → Bool
in_turn rs i = eqb i 0 || goes_before (record_at rs (i - 1)) (record_at rs i)

-- how many of the first i records are releases
abbrev pub releases_before : List Record → ℕ → ℕ
releases_before rs i = length (releases (take i rs))

-- record i keeps this order, and a release keeps the rule of a legal job list
unfoldable pub record_legal : List Task → List Record → ℕ → Bool
record_legal ts rs i = in_turn rs i && (not (is_release (record_at rs i)) || job_legal ts (ticks_of rs) (releases rs) (releases_before rs i))

-- the lowest index of a record that does not
unfoldable pub bad_record : List Task → List Record → Option ℕ
bad_record ts rs = first (λ i. not (record_legal ts rs i)) (length rs)

-- ---- writing

unfoldable pub record_bytes : Stamped → List ℕ
record_bytes r = number_bytes r.kind ++ number_bytes r.task ++ cond (eqb r.kind 0) (number_bytes r.work) [] ++ number_bytes r.stamp

unfoldable pub trace_bytes : List Stamped → List ℕ
trace_bytes [] = []
trace_bytes (r ∷ rs) = record_bytes r ++ trace_bytes rs

-- the stamps of records, by a counter that shows c at run tick 0
abbrev pub stamped_from : ℕ → List Record → List Stamped
stamped_from c rs = map (λ r. record { kind = r.kind; task = r.task; work = r.work; stamp = (c + r.instant) % 2 ^ 32 }) rs

-- each stamp later by c
abbrev pub shifted : ℕ → List Stamped → List Stamped
shifted c rs = map (λ r. record { kind = r.kind; task = r.task; work = r.work; stamp = (r.stamp + c) % 2 ^ 32 }) rs
