use Rattle.std.proofs.Common.{◌+◌, arith}
use Rattle.snap_salvage.proofs.PageLemmas.{pages_more, pages_part}
use Rattle.snap_salvage.proofs.joining.pages_of.Goals as goal

pub overflow_add-pages : goal.overflow_add-pages
overflow_add-pages c =
    let more = pages_more c.args.blocks.now c.loop-block.block-index c.block-item.result c.loop-block-test.true
    c.block-item.is in
    let all = pages_part c.args.blocks.now (c.loop-block.block-index + 1) in
    omega (arith, more, all, c.requires, c.loop-block.invariant, c.pages_of_one-pages.ensures)

pub loop-block-preserved : goal.loop-block-preserved
loop-block-preserved c =
    let more = pages_more c.args.blocks.now c.loop-block.block-index c.block-item.result c.loop-block-test.true
    c.block-item.is in
    omega (arith, more, c.loop-block.invariant, c.pages_of_one-pages.ensures)
