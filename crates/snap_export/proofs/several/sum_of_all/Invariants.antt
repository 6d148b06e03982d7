use Rattle.std.proofs.Common.{◌<◌}
use Rattle.snap_export.specs.Steps.{HaveSummed}
use Rattle.snap_export.proofs.several.sum_of_all.Given as goal

abbrev pub invariant-files : goal.invariant-files
invariant-files g l = record {
  some : 0 < l.number;
  summed : HaveSummed g.F.SnapshotFiles.load_gives l.fn.files l.files l.number l.rows l.cols l.sum;
}
