use Rattle.std.proofs.Common.{◌≡◌}
use Rattle.std.specs.BinaryHeap.{heap_items}
use Rattle.std.specs.FinMap.{entries}
use Rattle.hyper_matrix.specs.Search.{cells_from}
use Rattle.merged_cells.specs.Fronts.{fronts_of, fronts_sum, cells_left, AreFronts}
use Rattle.merged_cells.proofs.merged.skip_fronts.Given as goal

abbrev pub invariant-skip : goal.invariant-skip
invariant-skip l = record {
  kept : AreFronts l.first (heap_items l.others);
  same : cells_from l.place (entries (fronts_sum (fronts_of l.first (heap_items l.others)))) ≡
      cells_from l.place (entries (fronts_sum (fronts_of l.fn.first (heap_items l.fn.others))));
}

abbrev pub decreases-skip : goal.decreases-skip
decreases-skip l = cells_left (fronts_of l.first (heap_items l.others))
