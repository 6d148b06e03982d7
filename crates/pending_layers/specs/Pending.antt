-- Layers, and cells that wait in a list to be added to them.
use Rattle.std.specs.Prelude.{◌≡◌, ℕ, ◌+◌, ◌<◌, ◌^◌, List}
use Rattle.cells.specs.Bounds.{AreWithin}
use Rattle.cells.specs.declared.cell.Cell.{Cell}
use Rattle.hyper_matrix.specs.Cells.{built_of, cell_total}
use Rattle.hyper_matrix.specs.Counts.{ewise_add, total}
use Rattle.hyper_matrix.specs.Matrix.{Matrix, matrix}
use Rattle.layer_compaction.specs.Shared.{content}
use Rattle.layer_cascade.specs.Layering.{Layering}

-- the matrix that layers and the cells of a list add up to
abbrev pub with_pending : Layering → List Cell → Matrix
with_pending v cells = matrix v.rows v.cols (ewise_add (content v.layers) (built_of cells))

-- the cells lie within the layers' dimensions, and `sum` is the total of the layers and the cells together
pub record KeepsPending (v : Layering) (cells : List Cell) (sum : ℕ) : Type 0 where
  pub within : AreWithin v.rows v.cols cells
  pub total_is : sum ≡ total (content v.layers) + cell_total cells
  pub fits : sum < 2 ^ 64
