use Rattle.std.proofs.Common.{◌<◌, ◌^◌, [], arith, rules}
use Rattle.hyper_matrix.specs.Cells.{cell_total}
use Rattle.mm_sum.proofs.SumLemmas.{no_cells, total_is}
use Rattle.mm_sum.proofs.running_sum.RunningSum.new.Goals as goal

pub with_block-requires-clause-fits : goal.with_block-requires-clause-fits
with_block-requires-clause-fits c =
    let fits : cell_total c.args.block.now < 2 ^ 64 = search rules in
    omega (
      arith,
      fits,
      total_is c.args.size.rows c.args.size.cols [] c.in_ok-none.none
          (no_cells c.args.size.rows c.args.size.cols c.in_ok-none.none c.in_ok-none.ensures),
    )

pub returns-clause-ok : goal.returns-clause-ok
returns-clause-ok c =
    c.in_ok-layers.ensures c.args.size.rows c.args.size.cols []
    (no_cells c.args.size.rows c.args.size.cols c.in_ok-none.none c.in_ok-none.ensures)
