use Rattle.std.proofs.Common.{◌∙◌, ap}
use Rattle.wire_proto.specs.CellBytes.{cells_of}
use Rattle.wire_proto.proofs.CellLemmas.{too_many_cells, cell_outside}
use Rattle.wire_proto.proofs.cell_bodies.batch_of_cells.Goals as goal

pub returns-then-len-gt-MAX_CELLS : goal.returns-then-len-gt-MAX_CELLS
returns-then-len-gt-MAX_CELLS c = too_many_cells c.args.setup.now c.args.body _ c.len.ensures.value
    c.if-len-gt-MAX_CELLS.true

pub returns-in-Err-IndexOutOfRange : goal.returns-in-Err-IndexOutOfRange
returns-in-Err-IndexOutOfRange c =
    cell_outside c.args.setup.now c.args.body _ _ _ c.in-Err-IndexOutOfRange.ensures.err
    c.in-Err-IndexOutOfRange.field-0-is (c.in-Ok.ensures ∙ ap cells_of c.as_slice.ensures)
