use Rattle.std.proofs.Common.{refl}
use Rattle.snap_roll.proofs.HasLemmas.{passed_on}
use Rattle.snap_roll.proofs.TellLemmas.{has_rolled, is_kept, made, told_keep}
use Rattle.snap_roll.proofs.roll.roll_windows.Goals as goal

pub returns-in_err-keep-clause-err : goal.returns-in_err-keep-clause-err
returns-in_err-keep-clause-err g c =
    let held = c.in_ok-read.ensures.ok in
    passed_on c.from_residual-in_err-keep.result _ c.in_err-keep.field-0.0 c.from_residual-in_err-keep.ensures.1
    (told_keep g.F.SnapshotFile.load_gives g.F.SnapshotFile.save_gives g.S.SnapshotFiles.load_gives c.args.client
    c.args.given.now c.args.to.now c.load_to.new.to c.args.files.now c.take_all.new.files c.in_ok-found.found held.0
    held.1 c.in_ok-read.read c.in_ok-found.ensures.found held.2 held.3 held.4 c.keep.new.to c.in_err-keep.field-0.0
    c.in_err-keep.ensures.err)

pub returns-clause-ok : goal.returns-clause-ok
returns-clause-ok g c =
    let held = c.in_ok-read.ensures.ok in (
      made g.F.SnapshotFile.load_gives g.F.SnapshotFile.save_gives g.S.SnapshotFiles.load_gives c.args.client
          c.args.given.now c.args.to.now c.load_to.new.to c.args.files.now c.take_all.new.files c.in_ok-found.found
          held.0 held.1 c.in_ok-read.read c.in_ok-found.ensures.found held.2 held.3 held.4,
      has_rolled g.F.SnapshotFile.load_gives g.F.SnapshotFile.save_gives g.S.SnapshotFiles.load_gives c.args.client
          c.args.given.now c.args.to.now c.load_to.new.to c.args.files.now c.take_all.new.files c.in_ok-found.found
          held.0 held.1 c.in_ok-read.read c.in_ok-found.ensures.found held.2 held.3 held.4,
      is_kept g.F.SnapshotFile.load_gives g.F.SnapshotFile.save_gives g.S.SnapshotFiles.load_gives c.args.client
          c.args.given.now c.args.to.now c.load_to.new.to c.args.files.now c.take_all.new.files c.in_ok-found.found
          held.0 held.1 c.in_ok-read.read c.in_ok-found.ensures.found held.2 held.3 held.4 c.keep.new.to
          c.in_ok-keep.ensures.ok,
      refl,
    )
