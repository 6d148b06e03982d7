use Rattle.std.proofs.Common.{length}
use Rattle.plain_engine.proofs.fold.+fold_from.Given as goal

abbrev pub decreases-fold_from : goal.decreases-fold_from
decreases-fold_from l = length l.shards.now
