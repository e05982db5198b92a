-- A walk over the pieces of a frame: where it stands, and its steps
use Rattle.std.specs.Prelude.{ℕ, ◌≡◌, ◌≤◌, ◌<◌}
use Rattle.std.specs.declared.option.Option.{Option}
use Rattle.std.specs.declared.option.Option.TheVariants.{Some, None}
use Rattle.scope.specs.Windows.{framed, supplied_by}
use Rattle.tables.specs.declared.table.Table.{Table}
use Rattle.supply.specs.declared.pieces.Piece.{Piece}
use Rattle.supply.specs.declared.walk.Pieces.{Pieces}
use Rattle.supply.specs.Ahead.{Told}

abbrev pub At : Table → ℕ → Pieces → Type 0
At b t s = (s.table ≡ b) × (s.t ≡ t)

abbrev pub Steps : Pieces → Option (ℕ × Piece) → Pieces → Type 0
Steps s None s' = (s.table.frame ≤ s.t) × (s' ≡ s)
Steps s (Some x) s' = (s.t < s.table.frame) × (x.0 ≡ s.t) × Told (supplied_by (framed s.table.frame) s.table.windows.now) s.table.frame s.t x.1 × At s.table x.1.end s'
