use Rattle.std.proofs.Common.{arith}
use Rattle.std.specs.BinaryHeap.{heap_items}
use Rattle.merged_cells.specs.Fronts.{fronts_of, fronts_sum}
use Rattle.merged_cells.proofs.SkipLaws.{total_skipped}
use Rattle.merged_cells.proofs.merged.MergedCells.skip_to.Goals as goal

pub invariant_of-self : goal.invariant_of-self
invariant_of-self c = record {
  kept = c.skip_fronts.ensures.kept;
  fits = omega (
    arith,
    c.self.invariant.fits,
    total_skipped c.args.place (fronts_sum (fronts_of c.self.inside.first (heap_items c.self.inside.others)))
        (fronts_sum (fronts_of c.skip_fronts.new.first (heap_items c.skip_fronts.new.others)))
        c.skip_fronts.ensures.left,
  );
}
