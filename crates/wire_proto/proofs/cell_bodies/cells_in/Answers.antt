use Rattle.std.proofs.Common.{◌∙◌, arith}
use Rattle.wire_proto.proofs.CellLemmas.{cells_are, next_cell}
use Rattle.wire_proto.proofs.cell_bodies.cells_in.Goals as goal

pub loop-i-preserved : goal.loop-i-preserved
loop-i-preserved c =
    c.in_ok-push.ensures.items ∙
    next_cell c.args.bytes.now c.loop-i.i c.loop-i.list.items c.cell_in.result c.loop-i.invariant c.cell_in.ensures

pub returns : goal.returns
returns c = c.loop-i.invariant ∙ cells_are c.args.bytes.now c.loop-i.i (omega (arith, c.loop-i-test.false))
