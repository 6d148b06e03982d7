use Rattle.merged_cells.proofs.MergeLaws.{no_sources}
use Rattle.merged_cells.proofs.merged.Sources.new.Goals as goal

pub invariant_of-result : goal.invariant_of-result
invariant_of-result c = no_sources _ c.new.ensures.items c.new.ensures.heap_order
