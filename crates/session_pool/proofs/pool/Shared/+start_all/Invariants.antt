use Rattle.std.proofs.Common.{length}
use Rattle.session_pool.proofs.pool.Shared.+start_all.Given as goal

abbrev pub decreases-start_all : goal.decreases-start_all
decreases-start_all g l = length l.seats.now
