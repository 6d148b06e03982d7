-- Why a file makes no batch.
--     Fits            the file has no more rows and no more columns than the setup
--     RefusesFile     by cases: what is so where `Batch::make` answers a fault, and that no earlier one stands
use Rattle.std.specs.Prelude.{◌<◌, ◌≤◌, ◌^◌, ◌⊎◌, List}
use Rattle.cells.specs.declared.cell.Cell.{Cell}
use Rattle.mm_text.specs.declared.file.MmFile.{MmFile}
use Rattle.hyper_matrix.specs.Cells.{cell_total}
use Rattle.batch_store.specs.declared.fault.BatchFault.{BatchFault}
use Rattle.batch_store.specs.declared.fault.BatchFault.TheVariants.{Memory, DimensionsTooLarge, SumTooLarge}
use Rattle.batch_store.specs.Setups.{Setting}

-- why cells make no matrix of dimensions that they lie within
abbrev pub RefusesCells : List Cell → BatchFault → Type 0
RefusesCells cells Memory = cell_total cells < 2 ^ 64
RefusesCells cells DimensionsTooLarge = ⊥
RefusesCells cells SumTooLarge = 2 ^ 64 ≤ cell_total cells

abbrev pub Fits : Setting → MmFile → Type 0
Fits v file = (file.rows ≤ v.rows) × (file.cols ≤ v.cols)

-- why a file makes no batch for a setup, in this order
abbrev pub RefusesFile : Setting → MmFile → BatchFault → Type 0
RefusesFile v file DimensionsTooLarge = (v.rows < file.rows) ⊎ (v.cols < file.cols)
RefusesFile v file SumTooLarge = Fits v file × (2 ^ 64 ≤ cell_total file.cells.items)
RefusesFile v file Memory = Fits v file × (cell_total file.cells.items < 2 ^ 64)
