-- Steps of the reader of records
use Rattle.std.proofs.Common.{◌≡◌, ℕ, ◌+◌, ◌-◌, ◌%◌, ◌^◌, ◌<◌, ◌≤◌, Bool, true, false, cond, leb, List, refl, ap, arith, eq-eqb, leb-true}
use Rattle.scope.specs.Plan.{Read, Read.read, Read.bad, and_read, read_number}
use Rattle.scope.specs.Trace.{read_kind, read_record, elapsed}
use Rattle.replay.specs.declared.read.Event.TheVariants.{Release, Completion}
use Rattle.replay.specs.Reading.{stamped_at}

-- ---- `?`: what is bad is bad, and what is read goes on

module _ {A B : Type 0} {r : Read A} (f : A → ℕ → Read B) where
  pub read_fails : {o : ℕ} → bad o ≡ r → bad o ≡ and_read r f
  read_fails e = rw (← e)

  pub read_goes_on : {a : A} {next : ℕ} {x : Read B} → read a next ≡ r → x ≡ f a next → x ≡ and_read r f
  read_goes_on e q = rw (← e) q

-- ---- a record

-- there are two kinds
kind_most : (bytes : List ℕ) (at kind next : ℕ) → read kind next ≡ read_kind bytes at → kind ≤ 1
kind_most bytes at kind next e = go (read_number bytes at) e
  where
    one : (v n : ℕ) (t : Bool) → leb v 1 ≡ t → read kind next ≡ cond t (read v n) (bad at) → kind ≤ 1
    one v n true h q = let z : kind ≡ v = cc in omega (arith, leb-true v 1 h)
    one v n false h q = let z : ◌≡◌ {A = ℕ} 0 1 = cc in absurd (omega arith)

    go : (r : Read ℕ) → read kind next ≡ and_read r (λ k n. cond (leb k 1) (read k n) (bad at)) → kind ≤ 1
    go (read v n) q = one v n (leb v 1) refl q
    go (bad o) q = let z : ◌≡◌ {A = ℕ} 0 1 = cc in absurd (omega arith)

module _ (bytes : List ℕ) (at : ℕ) where
  pub kind_fails : (o : ℕ) → bad o ≡ read_kind bytes at → bad o ≡ read_record bytes at
  unfolding read_record
  kind_fails o e = read_fails _ e

  module _ (kind after_kind : ℕ) (e : read kind after_kind ≡ read_kind bytes at) where
    pub task_fails : (o : ℕ) → bad o ≡ read_number bytes after_kind → bad o ≡ read_record bytes at
    unfolding read_record
    task_fails o f = read_goes_on _ e (read_fails _ f)

    module _ (task after_task : ℕ) (f : read task after_task ≡ read_number bytes after_kind) where
      -- a release
      module _ (zero : kind ≡ 0) where
        pub work_fails : (o : ℕ) → bad o ≡ read_number bytes after_task → bad o ≡ read_record bytes at
        unfolding read_record
        work_fails o g = read_goes_on _ e (read_goes_on _ f (rw (eq-eqb kind 0 zero) (read_fails _ g)))

        pub release_is : (work after_work : ℕ) → read work after_work ≡ read_number bytes after_task →
            stamped_at (Release task work) bytes after_work ≡ read_record bytes at
        unfolding read_record
        release_is work after_work g = read_goes_on _ e (read_goes_on _ f (rw (eq-eqb kind 0 zero) (read_goes_on _ g (rw zero))))

      pub completion_is : (kind ≡ 0 → ⊥) → stamped_at (Completion task) bytes after_task ≡ read_record bytes at
      unfolding read_record
      completion_is u =
          let one : kind ≡ 1 = omega (arith, kind_most bytes at kind after_kind e) in
          read_goes_on _ e (read_goes_on _ f (rw one))

-- what `wrapping_sub` answers has elapsed
pub wraps : (a b : ℕ) → a < 2 ^ 32 → (b + (2 ^ 32 - a)) % 2 ^ 32 ≡ elapsed a b
unfolding elapsed
wraps a b h = let z : b + (2 ^ 32 - a) ≡ b + 2 ^ 32 - a = omega arith in ap (λ (u : ℕ). u % 2 ^ 32) z
