use Rattle.snap_roll.proofs.StepLemmas.{rolled_taken}
use Rattle.snap_roll.proofs.roll_laws.rolled_windows_are_taken_in.Goals as goal

pub returns : goal.returns
returns g c = rolled_taken g.S.SnapshotFiles.load_gives
