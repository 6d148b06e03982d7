use Rattle.std.proofs.Common.{take}
use Rattle.snap_export.specs.Labels.{HaveSame, numbers_of}
use Rattle.snap_export.proofs.axis.numbers_in.Given as goal

abbrev pub invariant-cells : goal.invariant-cells
invariant-cells l = HaveSame l.list.items (numbers_of l.axis (take l.cell-index l.cells))
