-- What the code knows of the least supply from a length on
use Rattle.std.specs.Prelude.{ℕ, ◌+◌, ◌/◌, ◌≤◌, ◌<◌, min, max, Bool, cond, List, eqb, length}
use Rattle.scope.specs.Windows.{Board, supplied_by}
use Rattle.theory.specs.Answers.{LegalTable}
use Rattle.theory.specs.Rows.{end_of}
use Rattle.theory.specs.Pieces as pieces
use Rattle.supply.specs.declared.row.Ticks.{Ticks}
use Rattle.supply.specs.declared.row.Ticks.TheVariants.{On, Off}
use Rattle.supply.specs.declared.pieces.Ahead.{Ahead}
use Rattle.supply.specs.declared.pieces.Piece.{Piece}

-- how many they are
abbrev pub far_of : Ticks → ℕ
far_of (On far) = far
far_of (Off far) = far

-- one start more, whose stretch has `over` ticks more than the least supply
unfoldable pub joined_of : Ahead → Ticks → ℕ → Ahead
joined_of a (On far) over = record { flat = a.flat; rise = min a.rise (far + over) }
joined_of a (Off far) over = cond (eqb over 0) (record { flat = max a.flat far; rise = a.rise }) (record { flat = a.flat; rise = min a.rise over })

-- of all the starts where a window ends, within the frame
pub record Foreseen (b : Board) (ws : List ℕ) (t : ℕ) (a : Ahead) : Type 0 where
  pub legal : LegalTable b ws
  pub some : 0 < a.rise
  pub most : t + a.rise ≤ b.frame
  pub ahead : pieces.Ahead (supplied_by b ws) b.frame (end_of ws) t (length ws / 2) a.flat a.rise

-- a piece from length t on, within the frame
pub record Told (σ : ℕ → Bool) (P t : ℕ) (p : Piece) : Type 0 where
  pub piece : pieces.Piece σ P t p.rising p.end p.least
  pub most : p.end ≤ P
