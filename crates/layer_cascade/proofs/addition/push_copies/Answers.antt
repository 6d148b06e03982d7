use Rattle.layer_compaction.proofs.LayerLemmas.{pushed_copy}
use Rattle.layer_cascade.proofs.addition.push_copies.Goals as goal

pub copies-preserved : goal.copies-preserved
copies-preserved c = pushed_copy _ _ _ _ _ _ c.copies.invariant c.in_ok-push.ensures.items c.in_ok-copy.ensures
