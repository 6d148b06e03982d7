-- What every matrix keeps: dimensions from 1 to 2^60, and each cell within them.
use Rattle.std.specs.Prelude.{ℕ, ◌<◌, ◌≤◌, ◌^◌, List, All}
use Rattle.cells.specs.declared.cell.Cell.{Cell}

abbrev pub IsDimension : ℕ → Type 0
IsDimension n = (1 ≤ n) × (n ≤ 2 ^ 60)

abbrev pub IsWithin : ℕ → ℕ → Cell → Type 0
IsWithin rows cols cell = (cell.row < rows) × (cell.col < cols)

-- each cell of the list lies within these dimensions
abbrev pub AreWithin : ℕ → ℕ → List Cell → Type 0
AreWithin rows cols cells = All (IsWithin rows cols) cells
