use Rattle.std.proofs.Common.{◌≡◌, ◌++◌, take}
use Rattle.std.specs.Prelude.{flat_map}
use Rattle.hyper_matrix.specs.Cells.{entry_of}
use Rattle.wire_proto.specs.Questions.{entry_bytes}
use Rattle.wire_proto.proofs.long_replies.push_cells.Given as goal

abbrev pub invariant-cells : goal.invariant-cells
invariant-cells l =
    l.out.items ≡ l.initial.out.items ++ flat_map (λ cell. entry_bytes (entry_of cell)) (take l.cell-index l.cells)
