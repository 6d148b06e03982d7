-- A list of cells that may be shared.
use Rattle.std.specs.Prelude.{List, [], Option, Some, None}
use Rattle.std.specs.Arc.{arc_value}
use Rattle.std.specs.declared.sync.Arc.{Arc}
use Rattle.cells.specs.declared.cell.Cell.{Cell}

abbrev pub shared_cells : {Z : Type 0} → Option (Arc (List Cell) Z) → List Cell
shared_cells None = []
shared_cells (Some list) = arc_value list
