use Rattle.std.specs.FinMap.{entries_sorted}
use Rattle.matrix_tests.proofs.merges.ranges.page_of.Goals as goal

pub range_of-requires : goal.range_of-requires
range_of-requires g c = entries_sorted c.args.sum.now
