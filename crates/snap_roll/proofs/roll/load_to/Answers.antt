use Rattle.snap_file.specs.Snapshots.{saved}
use Rattle.snap_roll.proofs.HasLemmas.{passed_on}
use Rattle.snap_roll.proofs.StepLemmas.{to_told}
use Rattle.snap_roll.proofs.TellLemmas.{loaded_seen}
use Rattle.snap_roll.proofs.roll.load_to.Goals as goal

pub returns-in_err-judge_to-in-Ok-clause-err : goal.returns-in_err-judge_to-in-Ok-clause-err
returns-in_err-judge_to-in-Ok-clause-err g c =
    let x = c.snapshot.inside in
    passed_on c.from_residual.result _ c.in_err-judge_to-in-Ok.field-0.0 c.from_residual.ensures.1
    (to_told g.F.SnapshotFile.load_gives c.args.to.now c.load.new.self c.in-Ok.snapshot
    c.in_err-judge_to-in-Ok.field-0.0
    (loaded_seen g.F.SnapshotFile.load_gives c.args.to.now c.load.new.self (saved x.origin x.setup x.list)
    c.in-Ok.snapshot c.snapshot.view_is c.in-Ok.ensures.answer c.snapshot.invariant.kept.accepted)
    c.in_err-judge_to-in-Ok.ensures.err)
