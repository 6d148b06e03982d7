use Rattle.std.proofs.Common.{◌≡◌, length}
use Rattle.layer_compaction.specs.Runs.{from_place, left_with}
use Rattle.layer_compaction.proofs.walk.advanced.Given as goal

abbrev pub invariant-passed : goal.invariant-passed
invariant-passed l =
    from_place l.place (left_with l.head l.cells) ≡ from_place l.place (left_with l.fn.head l.fn.cells)

abbrev pub decreases-passed : goal.decreases-passed
decreases-passed l = length (left_with l.head l.cells)
