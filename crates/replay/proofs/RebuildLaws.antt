-- The job list that is rebuilt from a trace
use Rattle.std.proofs.Common.{◌≡◌, ℕ, ◌+◌, ◌*◌, ◌<◌, ◌≤◌, List, [], ◌∷◌, ◌++◌, length, take, set, sym, ap, ◌∙◌, append_assoc, append-nil, arith, length-set}
use Rattle.scope.specs.Jobs.{Job, job}
use Rattle.scope.specs.Trace.{Record, releases}
use Rattle.theory.specs.Buffers.{three_more}
use Rattle.replay.specs.declared.read.Event.TheVariants.{Release, Completion}
use Rattle.replay.specs.declared.read.Record as recorded
use Rattle.replay.specs.Reading.{record_of}
use Rattle.replay.specs.Rebuilt.{numbers_of}

module _ (all : List Record) (jobs₀ : List ℕ) where
  -- j jobs stand at the front, and the others are left
  pub record Rebuilding (rest : List Record) (jobs : List ℕ) (j : ℕ) : Type 0 where
    pub size : length jobs ≡ length jobs₀
    pub room : 3 * length (releases all) ≤ length jobs₀
    pub count : j + length (releases rest) ≡ length (releases all)
    pub front : take (3 * j) jobs ++ numbers_of (releases rest) ≡ numbers_of (releases all)

  module _ (rest more : List Record) (x : recorded.Record) (jobs : List ℕ) (j : ℕ) (p : Rebuilding rest jobs j) (is : rest ≡ record_of x ∷ more) where
    -- a release
    module _ (task work : ℕ) (e : x.event ≡ Release task work) where
      split : releases rest ≡ job x.instant task work ∷ releases more
      unfolding releases
      split = ap releases is ∙ rw e

      pub rebuilding_room : 3 * j + 2 < length jobs
      rebuilding_room = omega (arith, p.size, p.room, p.count, ap length split)

      abbrev l₁ : List ℕ
      l₁ = set jobs (3 * j) x.instant

      abbrev l₂ : List ℕ
      l₂ = set l₁ (3 * j + 1) task

      abbrev l₃ : List ℕ
      l₃ = set l₂ (3 * j + 2) work

      pub rebuilding_put : Rebuilding more l₃ (j + 1)
      unfolding numbers_of
      rebuilding_put =
          let y : 3 * (j + 1) ≡ 3 * j + 3 = omega arith in
          let put : take (3 * (j + 1)) l₃ ≡ take (3 * j) jobs ++ (x.instant ∷ task ∷ work ∷ []) =
          ap (λ (k : ℕ). take k l₃) y ∙ three_more jobs (3 * j) x.instant task work (omega (arith, rebuilding_room)) in
          record {
            size = omega (arith, p.size, length-set jobs (3 * j) x.instant, length-set l₁ (3 * j + 1) task, length-set l₂ (3 * j + 2) work);
            room = p.room;
            count = omega (arith, p.count, ap length split);
            front =
                ap (λ (l : List ℕ). l ++ numbers_of (releases more)) put
                ∙ append_assoc (take (3 * j) jobs) (x.instant ∷ task ∷ work ∷ []) (numbers_of (releases more))
                ∙ sym (ap (λ (l : List Job). take (3 * j) jobs ++ numbers_of l) split)
                ∙ p.front;
          }

    -- a completion
    pub rebuilding_pass : (task : ℕ) → x.event ≡ Completion task → Rebuilding more jobs j
    unfolding releases
    rebuilding_pass task e =
        let z : releases rest ≡ releases more = ap releases is ∙ rw e in
        record {
          size = p.size;
          room = p.room;
          count = omega (arith, p.count, ap length z);
          front = sym (ap (λ (l : List Job). take (3 * j) jobs ++ numbers_of l) z) ∙ p.front;
        }

  pub rebuilding_end : (rest : List Record) (jobs : List ℕ) (j : ℕ) → Rebuilding rest jobs j → rest ≡ [] →
      take (3 * length (releases all)) jobs ≡ numbers_of (releases all)
  unfolding releases numbers_of
  rebuilding_end rest jobs j p z =
      let y : length (releases all) ≡ j = omega (arith, p.count, ap (λ (l : List Record). length (releases l)) z) in
      ap (λ (k : ℕ). take (3 * k) jobs) y
      ∙ sym (append-nil (take (3 * j) jobs))
      ∙ sym (ap (λ (l : List Record). take (3 * j) jobs ++ numbers_of (releases l)) z)
      ∙ p.front
