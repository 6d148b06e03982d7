use Rattle.std.proofs.Common.{◌≡◌, [], ◌∷◌}
use Rattle.std.specs.BinaryHeap.{heap_items}
use Rattle.hyper_matrix.specs.Counts.{ewise_add, built}
use Rattle.hyper_matrix.specs.Cells.{place_of, entry_of}
use Rattle.merged_cells.specs.Fronts.{fronts_of, fronts_sum, cells_left, AreFronts, NoneBefore}
use Rattle.merged_cells.proofs.merged.pull_sum.Given as goal

abbrev pub invariant-places : goal.invariant-places
invariant-places l = record {
  kept : AreFronts l.first (heap_items l.others);
  sum : fronts_sum (fronts_of l.fn.first (heap_items l.fn.others)) ≡
      ewise_add (built (entry_of l.sum ∷ [])) (fronts_sum (fronts_of l.first (heap_items l.others)));
  behind : NoneBefore (place_of l.sum) (fronts_of l.first (heap_items l.others));
}

abbrev pub decreases-places : goal.decreases-places
decreases-places l = cells_left (fronts_of l.first (heap_items l.others))
