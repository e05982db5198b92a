-- A plan's windows as threes of owner 0, in memory that has room for the threes of the longest list
use mathlib.Core.Path.{◌≡◌, sym, ◌∙◌}
use mathlib.Core.List.{List}
use Prim.Native.Nat.{ℕ, ◌*◌, ◌≤◌}
use native.Mathlib.Omega.{arith}
use lib.ListN.{length, take, drop}
use lib.Seq.{length-take-le, take-append_seam}
use borrow.Author.Tests.{le-ltb}
use Rattle.scope.specs.Numbers.{written}
use Rattle.scope.specs.Limits.{most_windows}
use Rattle.scope.specs.Answers.{Fault.fine, Answer.given, Answer.refused, room_fault}
use Rattle.scope.specs.Shared.{as_owned, as_owned_answer, as_owned_out}
use Rattle.theory.specs.Answers.{fault_not_fine, unless_given, unless_refused_lem}
use Rattle.theory.specs.Alone.{owned_length}

module _ (o : ℕ) (ws : List ℕ) (short : length ws ≤ 2 * most_windows) where
  abbrev threes : List ℕ
  threes = as_owned o ws

  threes_few : length threes ≤ 3 * most_windows
  threes_few = omega (arith, owned_length o ws)

  -- there is always room
  pub not_refused : (room n p : ℕ) → 3 * most_windows ≤ room → refused n p ≡ as_owned_answer o ws room → ⊥
  unfolding as_owned_answer room_fault
  not_refused room n p h e =
      fault_not_fine (sym (unless_refused_lem (room_fault (length threes) room) _ n p (sym e)) ∙ rw (le-ltb room (length threes) (omega (arith, threes_few))))

  room_given : (room n : ℕ) → given n ≡ as_owned_answer o ws room → (room_fault (length threes) room ≡ fine) × (length threes ≡ n)
  unfolding as_owned_answer
  room_given room n e = unless_given (room_fault (length threes) room) _ n (sym e)

  -- and the threes are the front of it
  pub owned_few : (room n : ℕ) → given n ≡ as_owned_answer o ws room → n ≤ 3 * most_windows
  owned_few room n e = omega (arith, threes_few, (room_given room n e).1)

  pub owned_front : (before after : List ℕ) (n : ℕ) → given n ≡ as_owned_answer o ws (length before) → after ≡ as_owned_out o ws before → take n after ≡ threes
  unfolding as_owned_out written
  owned_front before after n e is =
      let u = room_given (length before) n e in
      rw (is, u.0, ← u.1) (take-append_seam threes (drop (length threes) before))

-- what a use of the threes asks for
pub ruleset as_threes = (not_refused, owned_few, length-take-le)
