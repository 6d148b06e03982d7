use Rattle.layer_cascade.proofs.KeptLemmas.{exchanged}
use Rattle.layer_cascade.proofs.compaction.exchange.Goals as goal

pub returns : goal.returns
returns c = exchanged c.args.layers.now c.args.place c.in_ok-layers.field-0 _ c.requires c.in_ok-layers.ensures.ok
