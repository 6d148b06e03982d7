use Rattle.std.proofs.Common.{length}
use Rattle.hyper_matrix.proofs.list_sum.+push_several.Given as goal

abbrev pub decreases-push_several : goal.decreases-push_several
decreases-push_several l = length l.lists.now
