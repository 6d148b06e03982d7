use Rattle.std.proofs.Common.{◌≡◌}
use Rattle.wire_proto.proofs.CellLemmas.{first_cells}
use Rattle.wire_proto.proofs.cell_bodies.cells_in.Given as goal

abbrev pub invariant-loop-i : goal.invariant-loop-i
invariant-loop-i l = l.list.items ≡ first_cells l.i l.bytes
