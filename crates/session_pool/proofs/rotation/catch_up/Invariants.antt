use Rattle.std.proofs.Common.{◌≡◌, ◌-◌, false, length}
use Rattle.session_pool.proofs.rotation.catch_up.Given as goal

abbrev pub invariant-loop-new : goal.invariant-loop-new
invariant-loop-new g l = l.new.failed ≡ false

abbrev pub decreases-loop-new : goal.decreases-loop-new
decreases-loop-new g l = l.count - length l.new.durable
