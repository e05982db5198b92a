-- From record to record: what is left of both sides has the first difference of the whole
use Rattle.std.proofs.Common.{◌≡◌, ℕ, zero, suc, ◌+◌, ◌-◌, ◌<◌, ◌≤◌, Bool, true, false, cond, ◌&&◌, eqb, List, [], ◌∷◌, length, sym, refl, ap, ◌∙◌, arith, eqb-true}
use mathlib.Core.Option.{Option, none, some}
use Rattle.scope.specs.Numbers.{IsFirst}
use Rattle.scope.specs.Jobs.{Job, task_of}
use Rattle.scope.specs.Trace.{Record, Completion, completion, completions}
use Rattle.scope.specs.Replay.{Difference, first_difference}
use Rattle.theory.specs.Numbers.{and_both}
use Rattle.std.specs.declared.option.Option as std
use Rattle.std.specs.Option.{option_eq}
use Rattle.replay.specs.contracts.ending.CompletionPartialEq.TheImpl.{eq-value as the_test}
use Rattle.replay.specs.declared.ending.Completion as ended
use Rattle.replay.specs.declared.read.Event.TheVariants.{Release, Completion as Completed}
use Rattle.replay.specs.declared.read.Record as recorded
use Rattle.replay.specs.Reading.{record_of}
use Rattle.replay.specs.Rebuilt.{records_of}
use Rattle.replay.specs.Ending.{finish, ends_within, next_end, completion_in, told_seen}
use Rattle.replay.specs.Compared.{and_endings, endings_from, compared_from, same, differ_in}
use Rattle.replay.proofs.EndingLaws.{inside_is, found_is}

-- a pair by the derived test of two completions
same_is : (a b : std.Option ended.Completion) → option_eq the_test.it a b ≡ same (told_seen a) (told_seen b)
same_is std.TheVariants.None std.TheVariants.None = refl
same_is std.TheVariants.None (std.TheVariants.Some m) = refl
same_is (std.TheVariants.Some c) std.TheVariants.None = refl
same_is (std.TheVariants.Some c) (std.TheVariants.Some m) = refl

module _ (a b : std.Option ended.Completion) where
  pub pair_same : option_eq the_test.it a b ≡ true → none ≡ differ_in (told_seen a) (told_seen b)
  unfolding differ_in
  pair_same e = rw (← same_is a b, e)

  pub pair_differs : option_eq the_test.it a b ≡ false → some (record { trace = told_seen a; machine = told_seen b }) ≡ differ_in (told_seen a) (told_seen b)
  unfolding differ_in
  pair_differs e = rw (← same_is a b, e)

-- what is there is not nothing
some_not_none : {A : Type 0} {a : A} → some a ≡ none → ⊥
some_not_none e = cc

module _ (bytes : List ℕ) (js : List Job) (cs : List ℕ) (last : ℕ) where
  abbrev found : ℕ → Option ℕ
  found after = next_end js cs after last (length js)

  pub record Comparing (rest : List Record) (after : ℕ) : Type 0 where
    pub fuel : ℕ
    pub enough : last ≤ after + fuel
    pub is : first_difference (completions rest) (endings_from js cs last fuel after) ≡ compared_from bytes js cs last

  pub comparing_first : (rest : List Record) → rest ≡ records_of bytes → Comparing rest 0
  unfolding compared_from
  comparing_first rest e = rw e (record { fuel = last; enough = omega arith; is = refl })

  -- the next completion and those after it
  opened : (fuel after : ℕ) → last ≤ after + fuel → endings_from js cs last fuel after ≡ and_endings js cs (found after) (endings_from js cs last (fuel - 1))
  unfolding endings_from
  opened (suc fuel) after h = let z : suc fuel - 1 ≡ fuel = omega arith in rw z
  opened zero after h = go (found after) (found_is js cs after last (length js))
    where
      go : (o : Option ℕ) → IsFirst (ends_within js cs after last) (finish js cs) (length js) o → [] ≡ and_endings js cs o (endings_from js cs last (0 - 1))
      go none i = refl
      go (some j) i = let p = inside_is js cs after last j i.1 in absurd (omega (arith, p.1, p.2))

  abbrev machine : ℕ → Option Completion
  machine after = completion_in js cs (found after)

  -- at the end of the trace
  pub comparing_end : (rest : List Record) (after : ℕ) → Comparing rest after → rest ≡ [] → differ_in none (machine after) ≡ compared_from bytes js cs last
  unfolding first_difference completions differ_in
  comparing_end rest after p z =
      go (found after) ∙ sym (ap (first_difference []) (opened p.fuel after p.enough))
      ∙ sym (ap (λ (l : List Record). first_difference (completions l) (endings_from js cs last p.fuel after)) z) ∙ p.is
    where
      go : (o : Option ℕ) → differ_in none (completion_in js cs o) ≡ first_difference [] (and_endings js cs o (endings_from js cs last (p.fuel - 1)))
      go none = refl
      go (some j) = refl

  module _ (rest more : List Record) (x : recorded.Record) (after : ℕ) (p : Comparing rest after) (is : rest ≡ record_of x ∷ more) where
    -- a release says nothing
    pub comparing_pass : (task work : ℕ) → x.event ≡ Release task work → Comparing more after
    unfolding completions
    comparing_pass task work e =
        let z : completions rest ≡ completions more = ap completions is ∙ rw e in
        record {
          fuel = p.fuel;
          enough = p.enough;
          is = sym (ap (λ (l : List Completion). first_difference l (endings_from js cs last p.fuel after)) z) ∙ p.is;
        }

    -- a completion against the machine's next one
    module _ (task : ℕ) (e : x.event ≡ Completed task) where
      abbrev c : Completion
      c = completion x.instant task

      abbrev later : ℕ → List Completion
      later = endings_from js cs last (p.fuel - 1)

      split : first_difference (c ∷ completions more) (and_endings js cs (found after) later) ≡ compared_from bytes js cs last
      unfolding completions
      split =
          let z : completions rest ≡ c ∷ completions more = ap completions is ∙ rw e in
          sym (ap (first_difference (c ∷ completions more)) (opened p.fuel after p.enough))
          ∙ sym (ap (λ (l : List Completion). first_difference l (endings_from js cs last p.fuel after)) z) ∙ p.is

      abbrev whole : Option Difference
      whole = compared_from bytes js cs last

      abbrev at : ℕ → Completion
      at j = completion (finish js cs j) (task_of js j)

      abbrev same_one : ℕ → Bool
      same_one j = eqb x.instant (finish js cs j) && eqb task (task_of js j)

      -- a pair that differs is the first
      pub comparing_found : (d : Difference) → some d ≡ differ_in (some c) (machine after) → some d ≡ whole
      unfolding differ_in first_difference
      comparing_found d q = go (found after) q split
        where
          one : (j : ℕ) (u : Bool) → some d ≡ cond u none (some (record { trace = some c; machine = some (at j) })) →
              cond u (first_difference (completions more) (later (finish js cs j))) (some (record { trace = some c; machine = some (at j) })) ≡ whole →
              some d ≡ whole
          one j true h s = absurd (some_not_none h)
          one j false h s = h ∙ s

          go : (o : Option ℕ) → some d ≡ differ_in (some c) (completion_in js cs o) → first_difference (c ∷ completions more) (and_endings js cs o later) ≡ whole →
              some d ≡ whole
          go none h s = h ∙ s
          go (some j) h s = one j (same_one j) h s

      -- and one that does not is passed
      pub comparing_next : none ≡ differ_in (some c) (machine after) → Comparing more x.instant
      unfolding differ_in first_difference
      comparing_next q = go (found after) (found_is js cs after last (length js)) q split
        where
          one : (j : ℕ) → after < finish js cs j → (u : Bool) → same_one j ≡ u → ◌≡◌ {A = Option Difference} none (cond u none (some (record { trace = some c; machine = some (at j) }))) →
              cond u (first_difference (completions more) (later (finish js cs j))) (some (record { trace = some c; machine = some (at j) })) ≡ whole →
              Comparing more x.instant
          one j l false w h s = absurd (some_not_none (sym h))
          one j l true w h s =
              let both = and_both (eqb x.instant (finish js cs j)) (eqb task (task_of js j)) w in
              let z : x.instant ≡ finish js cs j = eqb-true x.instant (finish js cs j) both.0 in
              record {
                fuel = p.fuel - 1;
                enough = omega (arith, p.enough, z, l);
                is = ap (λ (k : ℕ). first_difference (completions more) (later k)) z ∙ s;
              }

          go : (o : Option ℕ) → IsFirst (ends_within js cs after last) (finish js cs) (length js) o → none ≡ differ_in (some c) (completion_in js cs o) →
              first_difference (c ∷ completions more) (and_endings js cs o later) ≡ whole → Comparing more x.instant
          go none i h s = absurd (some_not_none (sym h))
          go (some j) i h s = one j (inside_is js cs after last j i.1).1 (same_one j) refl h s
