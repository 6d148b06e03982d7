use Rattle.std.proofs.Common.{rules}
use Rattle.mm_sum.proofs.SumLemmas.{sum_passes, sum_fits, on_err, not_below}
use Rattle.mm_sum.proofs.running_sum.add_block.Goals as goal

pub returns-then-not-fits_beside-clause-ok : goal.returns-then-not-fits_beside-clause-ok
returns-then-not-fits_beside-clause-ok c =
    sum_passes c.args.layers c.args.block.now (not_below c.fits_beside.result _ _ c.fits_beside.ensures (search rules))

pub returns-in_err-layers-clause-memory : goal.returns-in_err-layers-clause-memory
returns-in_err-layers-clause-memory c = on_err _ _ (sum_fits c.args.layers c.args.block.now (search rules))
