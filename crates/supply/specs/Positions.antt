-- What the code knows of its positions in the endless row of windows
use Rattle.std.specs.Prelude.{ℕ, ◌+◌, ◌-◌, ◌*◌, ◌/◌, ◌≤◌, cond, List, ltb, length}
use Rattle.scope.specs.Limits.{most_frame}
use Rattle.scope.specs.Ticks.{supply}
use Rattle.scope.specs.Windows.{Board, supplied_by}
use Rattle.theory.specs.Answers.{LegalTable}
use Rattle.theory.specs.Rows as rows
use Rattle.theory.specs.Rows.{start_of, end_of, table_row}
use Rattle.supply.specs.declared.row.Position.{Position}
use Rattle.supply.specs.declared.row.Ticks.{Ticks}
use Rattle.supply.specs.declared.row.Ticks.TheVariants.{On, Off}

-- the first window of the first frame
abbrev pub first : Position
first = record { index = 0; base = 0; before = 0 }

-- the ticks at which the window of a position starts and ends
abbrev pub opens : List ℕ → Position → ℕ
opens ws p = p.base + start_of ws p.index

abbrev pub closes : List ℕ → Position → ℕ
closes ws p = p.base + end_of ws p.index

-- the position of the next window: in this frame, or the first one of the next
unfoldable pub following : Board → List ℕ → Position → Position
following b ws p =
    let n : ℕ = p.before + (end_of ws p.index - start_of ws p.index) in
    cond (ltb (p.index + 1) (length ws / 2)) (record { index = p.index + 1; base = p.base; before = n })
    (record { index = 0; base = p.base + b.frame; before = n })

-- the ticks from x on up to the next edge: those before the window of a position, or those that are left of it
unfoldable pub ticks_from : List ℕ → Position → ℕ → Ticks
ticks_from ws p x = cond (ltb x (opens ws p)) (Off (opens ws p - x)) (On (closes ws p - x))

-- a position in the row of a legal table, whose numbers are small
pub record Stands (b : Board) (ws : List ℕ) (p : Position) : Type 0 where
  pub legal : LegalTable b ws
  pub at : rows.Position _ _ _ _ _ (table_row b ws legal) p.index p.base p.before
  pub near : p.base ≤ 3 * most_frame

-- and not past tick x: no more ticks are supplied before its window than before x
pub record Behind (b : Board) (ws : List ℕ) (p : Position) (x : ℕ) : Type 0 where
  pub stands : Stands b ws p
  pub fewer : p.before ≤ supply (supplied_by b ws) 0 x
