-- The lent buffer, number by number
use mathlib.Core.Path.{◌≡◌, sym, ap, ◌∙◌, subst}
use mathlib.Core.List.{List, ◌++◌}
use Prim.Native.Nat.{ℕ, ◌+◌, ◌-◌, ◌/◌, ◌≤◌}
use native.Mathlib.Omega.{arith}
use lib.ListN.{length, get_or, drop, replicate, length-append}
use Rattle.std.proofs.lemmas.List.{length-replicate, length-drop, get_or-replicate, get_or_append_left, get_or-append_right, get_or-drop}
use Rattle.scope.specs.Jobs.{job, jobs_of}
use Rattle.theory.specs.Lists.{pieces_length}
use Rattle.machine.specs.Relation.{Kept, zeros}

-- ---- a front of zeros

pub kept_filled : (m : ℕ) (d z : List ℕ) → m ≤ length d → z ≡ replicate m 0 → Kept zeros m d (z ++ drop m d)
kept_filled m d z h e =
    let n : length z ≡ m = ap length e ∙ length-replicate m 0 in
    record {
      same = simp (length-append, length-drop) (omega arith);
      low = λ j a. get_or_append_left z (drop m d) 0 j (omega arith) ∙ ap (λ (l : List ℕ). get_or l j 0) e ∙ get_or-replicate m j 0 0 a;
      high = λ j a.
          let q : m + (j - m) ≡ j = omega arith in
          get_or-append_right z (drop m d) m j 0 n a ∙ get_or-drop m d (j - m) 0 ∙ ap (λ (i : ℕ). get_or d i 0) q;
    }

-- as many as there are jobs
pub kept_all : (f : ℕ → ℕ) (jobs d l : List ℕ) → Kept f (length jobs / 3) d l → Kept f (length (jobs_of jobs)) d l
kept_all f jobs d l = subst (λ (m : ℕ). Kept f m d l) (sym (pieces_length _ 3 job jobs))
