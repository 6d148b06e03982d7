use Rattle.layer_compaction.specs.Shared.{values}
use Rattle.layer_compaction.proofs.CountedLemmas.{counts_none}
use Rattle.layer_compaction.proofs.KeptRunLemmas.{keeps_none}
use Rattle.layer_compaction.proofs.layer.Layer.new.Goals as goal

pub invariant_of-result : goal.invariant_of-result
invariant_of-result c = (
  keeps_none c.args.rows c.args.cols c.new.result.items c.requires.rows c.requires.cols c.new.ensures.items,
  counts_none (values c.new.result.items),
  tt,
)
