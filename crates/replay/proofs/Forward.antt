-- Reading goes forward: a record ends after it begins, and within the bytes
use Rattle.std.proofs.Common.{◌≡◌, ℕ, zero, suc, ◌<◌, ◌≤◌, Bool, true, false, cond, eqb, leb, List, [], ◌∷◌, length, refl, arith, le-leb}
use borrow.Author.Tests.{lt-leb}
use Rattle.scope.specs.Plan.{Read, Read.read, Read.bad, and_read, read_number}
use Rattle.scope.specs.Trace.{Stamped, read_kind, read_work, read_record, records_within}
use Rattle.theory.specs.Seven.{number_next}

-- a record in front of others
abbrev pub and_records : Stamped → Read (List Stamped) → Read (List Stamped)
and_records x (read rs end) = read (x ∷ rs) end
and_records x (bad offset) = bad offset

module _ (bytes : List ℕ) where
  -- what is read from an offset on ends there or later
  abbrev Ends : {A : Type 0} → ℕ → Read A → Type 0
  Ends at (read a next) = (at ≤ next) × (next ≤ length bytes)
  Ends at (bad offset) = Unit {0}

  -- and where it takes a byte at least, later
  abbrev Passes : {A : Type 0} → ℕ → Read A → Type 0
  Passes at (read a next) = (at < next) × (next ≤ length bytes)
  Passes at (bad offset) = Unit {0}

  ends_then : {A B : Type 0} (at : ℕ) (r : Read A) (f : A → ℕ → Read B) → Ends at r →
      ((a : A) (next : ℕ) → next ≤ length bytes → Ends next (f a next)) → Ends at (and_read r f)
  ends_then at (read a next) f h k = go (f a next) (k a next h.1)
    where
      go : {B : Type 0} (x : Read B) → Ends next x → Ends at x
      go (read b after) e = (omega (arith, h.0, e.0), e.1)
      go (bad offset) e = tt
  ends_then at (bad offset) f h k = tt

  passes_then : {A B : Type 0} (at : ℕ) (r : Read A) (f : A → ℕ → Read B) → Passes at r →
      ((a : A) (next : ℕ) → next ≤ length bytes → Ends next (f a next)) → Passes at (and_read r f)
  passes_then at (read a next) f h k = go (f a next) (k a next h.1)
    where
      go : {B : Type 0} (x : Read B) → Ends next x → Passes at x
      go (read b after) e = (omega (arith, h.0, e.0), e.1)
      go (bad offset) e = tt
  passes_then at (bad offset) f h k = tt

  passes_ends : {A : Type 0} (at : ℕ) (r : Read A) → Passes at r → Ends at r
  passes_ends at (read a next) h = (omega (arith, h.0), h.1)
  passes_ends at (bad offset) h = tt

  number_passes : (at : ℕ) → Passes at (read_number bytes at)
  number_passes at = go (read_number bytes at) refl
    where
      go : (x : Read ℕ) → read_number bytes at ≡ x → Passes at x
      go (read n next) e = let p = number_next bytes at n next e in (p.0, p.2)
      go (bad offset) e = tt

  kind_passes : (at : ℕ) → Passes at (read_kind bytes at)
  kind_passes at = passes_then at (read_number bytes at) _ (number_passes at) (λ kind next h. go (leb kind 1) kind next h)
    where
      go : (t : Bool) (kind next : ℕ) → next ≤ length bytes → Ends next (cond t (read kind next) (bad at))
      go true kind next h = (omega arith, h)
      go false kind next h = tt

  work_ends : (kind at : ℕ) → at ≤ length bytes → Ends at (read_work kind bytes at)
  work_ends kind at h = go (eqb kind 0)
    where
      go : (t : Bool) → Ends at (cond t (read_number bytes at) (read 0 at))
      go true = passes_ends at (read_number bytes at) (number_passes at)
      go false = (omega arith, h)

  record_passes : (at : ℕ) → Passes at (read_record bytes at)
  unfolding read_record
  record_passes at =
      passes_then at (read_kind bytes at) _ (kind_passes at) (λ kind afterKind h.
      ends_then afterKind (read_number bytes afterKind) _ (passes_ends afterKind (read_number bytes afterKind) (number_passes afterKind)) (λ task afterTask h.
      ends_then afterTask (read_work kind bytes afterTask) _ (work_ends kind afterTask h) (λ work afterWork h.
      ends_then afterWork (read_number bytes afterWork) _ (passes_ends afterWork (read_number bytes afterWork) (number_passes afterWork)) (λ stamp next h.
      (omega arith, h)))))

  pub record_next : (at : ℕ) (x : Stamped) (next : ℕ) → read_record bytes at ≡ read x next → (at < next) × (next ≤ length bytes)
  record_next at x next e = go (read_record bytes at) (record_passes at) e
    where
      go : (y : Read Stamped) → Passes at y → y ≡ read x next → (at < next) × (next ≤ length bytes)
      go (read z after) h q = let p : after ≡ next = cc in (omega (arith, h.0), omega (arith, h.1))
      go (bad offset) h q = let z : ◌≡◌ {A = ℕ} 0 1 = cc in absurd (omega arith)

  -- ---- records one after another

  pub records_end : (f at : ℕ) → length bytes ≤ at → records_within f bytes at ≡ read [] at
  unfolding records_within
  records_end zero at h = refl
  records_end (suc f) at h = rw (le-leb (length bytes) at h)

  pub records_bad : (f at o : ℕ) → at < length bytes → read_record bytes at ≡ bad o → records_within (suc f) bytes at ≡ bad o
  unfolding records_within
  records_bad f at o h e = rw (lt-leb (length bytes) at h, e)

  pub records_next : (f at : ℕ) (x : Stamped) (next : ℕ) → at < length bytes → read_record bytes at ≡ read x next →
      records_within (suc f) bytes at ≡ and_records x (records_within f bytes next)
  unfolding records_within
  records_next f at x next h e = rw (lt-leb (length bytes) at h, e) (go (records_within f bytes next))
    where
      go : (y : Read (List Stamped)) → and_read y (λ rs end. read (x ∷ rs) end) ≡ and_records x y
      go (read rs end) = refl
      go (bad offset) = refl
