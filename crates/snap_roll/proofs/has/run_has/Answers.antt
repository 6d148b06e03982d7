use Rattle.snap_file.specs.Snapshots.{saved}
use Rattle.snap_report.proofs.KeptLemmas.{has_loaded, all_later_told}
use Rattle.snap_roll.proofs.HasLemmas.{if_ok_with}
use Rattle.snap_roll.proofs.has.run_has.Goals as goal

pub returns-clause-ok : goal.returns-clause-ok
returns-clause-ok g c = if_ok_with c.write_found.result (λ found h. (
  saved c.snapshot.inside.origin c.snapshot.inside.setup c.snapshot.inside.list,
  has_loaded g.F.SnapshotFile.load_gives c.args.file.now c.load.new.self c.snapshot.inside.origin c.snapshot.inside.setup
      c.snapshot.inside.list c.in_ok-snapshot.snapshot c.snapshot.view_is c.in_ok-snapshot.ensures.answer
      c.snapshot.invariant.kept.accepted,
  h.0,
  h.1,
)) c.write_found.ensures.ok

pub returns-clause-output : goal.returns-clause-output
returns-clause-output g c fault is =
    let told = c.write_found.ensures.output fault is in (
      saved c.snapshot.inside.origin c.snapshot.inside.setup c.snapshot.inside.list,
      told.0,
      has_loaded g.F.SnapshotFile.load_gives c.args.file.now c.load.new.self c.snapshot.inside.origin
          c.snapshot.inside.setup c.snapshot.inside.list c.in_ok-snapshot.snapshot c.snapshot.view_is
          c.in_ok-snapshot.ensures.answer c.snapshot.invariant.kept.accepted,
      told.1,
      told.2,
    )

pub returns-clause-told : goal.returns-clause-told
returns-clause-told g c = all_later_told g.F.SnapshotFile.load_gives c.args.file.now c.load.new.self
    c.write_found.result
    (saved c.snapshot.inside.origin c.snapshot.inside.setup c.snapshot.inside.list)
    (has_loaded g.F.SnapshotFile.load_gives c.args.file.now c.load.new.self c.snapshot.inside.origin
    c.snapshot.inside.setup c.snapshot.inside.list c.in_ok-snapshot.snapshot c.snapshot.view_is
    c.in_ok-snapshot.ensures.answer c.snapshot.invariant.kept.accepted)
    c.write_found.ensures.later
