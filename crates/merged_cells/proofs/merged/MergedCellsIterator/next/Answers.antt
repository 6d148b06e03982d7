use Rattle.std.proofs.Common.{arith}
use Rattle.merged_cells.proofs.MergeLaws.{total_falls}
use Rattle.merged_cells.proofs.merged.MergedCellsIterator.next.Goals as goal

pub pull_sum-requires-clause-fits : goal.pull_sum-requires-clause-fits
pull_sum-requires-clause-fits c = let small = c.self.invariant.fits in omega (arith, small)

pub invariant_of-self : goal.invariant_of-self
invariant_of-self c = record {
  kept = c.pull_sum.ensures.kept;
  fits = omega (arith, c.self.invariant.fits, total_falls _ _ _ c.pull_sum.ensures.steps);
}
