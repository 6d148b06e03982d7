use Rattle.std.proofs.Common.{Err}
use Rattle.snap_file.specs.Snapshots.{Saved}
use Rattle.snap_report.specs.declared.fault.CheckFault.{CheckFault}
use Rattle.snap_report.proofs.JoinedLemmas.{unread_file}
use Rattle.snapshot_tests.proofs.exports.given.told.Goals as goal

pub returns : goal.returns
returns c = unread_file {T = Saved} (Err c.from.result) c.args.fault c.from.ensures c.requires
