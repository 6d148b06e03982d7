use Rattle.std.proofs.Common.{◌∙◌, arith}
use Rattle.wire_proto.proofs.LongLemmas.{cells_pushed}
use Rattle.wire_proto.proofs.long_replies.push_cells.Goals as goal

pub returns : goal.returns
returns c = c.cells.invariant ∙ cells_pushed c.args.out.now.items c.args.cells.now c.cells.cell-index
    (omega (arith, c.cells-test.false))
