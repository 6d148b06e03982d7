use Rattle.std.proofs.Common.{ap, arith}
use Rattle.std.specs.FinMap.{len}
use Rattle.mm_laws.proofs.CellsBuilt.{cells_counted}
use Rattle.snap_report.proofs.check.entries_of.Goals as goal

pub returns : goal.returns
returns c = omega (
  arith,
  c.len.ensures,
  cells_counted c.in_ok-cells.cells.items c.in_ok-cells.ensures.rises,
  ap len c.in_ok-cells.ensures.sum,
)
