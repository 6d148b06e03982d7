use Rattle.snap_export.proofs.MinusLemmas.{came_between}
use Rattle.snap_export.proofs.minus_laws.batches_between_are_the_difference.Goals as goal

pub returns : goal.returns
returns c = came_between
