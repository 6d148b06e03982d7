use Rattle.layer_compaction.specs.Runs.{CountsPlaces}
use Rattle.layer_compaction.specs.Shared.{values}
use Rattle.layer_compaction.proofs.runs.places_by_walks.Given as goal

abbrev pub invariant-runs : goal.invariant-runs
invariant-runs l = CountsPlaces l.i l.places (values l.runs)
