-- The lowest late job, as the code looks for it: task by task, on numbers
use mathlib.Core.Path.{◌≡◌}
use mathlib.Core.List.{List}
use Prim.Native.Nat.{ℕ, ◌+◌}
use native.Mathlib.Numerals.{add-one}
use Rattle.machine.specs.declared.places.Place.{Place}
use Rattle.machine.specs.Places.{due_at, held_at, lower_in, late_to}

pub late_next : (pending : ℕ) (places : List Place) (t i : ℕ) →
    late_to pending places t (i + 1) ≡ lower_in pending (due_at places i) (held_at places i) t i (late_to pending places t i)
unfolding late_to
late_next pending places t i = rw (add-one i)
