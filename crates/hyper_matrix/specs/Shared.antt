-- A matrix's cells in a list.
use Rattle.std.specs.Prelude.{◌≡◌, ◌<◌, ℕ, List}
use Rattle.cells.specs.Bounds.{IsDimension, AreWithin}
use Rattle.cells.specs.Order.{Rise}
use Rattle.cells.specs.declared.cell.Cell.{Cell}
use Rattle.hyper_matrix.specs.Counts.{Place}
use Rattle.hyper_matrix.specs.Cells.{cell_total}

-- an entry at a place within these dimensions
abbrev pub LiesWithin : ℕ → ℕ → Place × ℕ → Type 0
LiesWithin rows cols e = (e.0.0 < rows) × (e.0.1 < cols)

-- cells as a matrix of these dimensions and this total keeps them: each place once, by row and then by column
pub record Holds (rows cols sum : ℕ) (cells : List Cell) : Type 0 where
  pub is_rows : IsDimension rows
  pub is_cols : IsDimension cols
  pub rises : Rise cells
  pub within : AreWithin rows cols cells
  pub kept : sum ≡ cell_total cells
