use Rattle.std.proofs.Common.{◌-◌, ◌≤◌, length}
use Rattle.hyper_matrix.specs.Refusals.{LeavesDimensions}
use Rattle.batch_store.proofs.listed.cells_before_outside.Given as goal

abbrev pub invariant-cells : goal.invariant-cells
invariant-cells l = (w : LeavesDimensions l.rows l.cols l.cells) → l.i ≤ length w.before

abbrev pub decreases-cells : goal.decreases-cells
decreases-cells l = length l.cells - l.i
