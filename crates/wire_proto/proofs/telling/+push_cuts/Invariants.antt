use Rattle.std.proofs.Common.{length}
use Rattle.wire_proto.proofs.telling.+push_cuts.Given as goal

abbrev pub decreases-push_cuts : goal.decreases-push_cuts
decreases-push_cuts l = length l.cuts.now
