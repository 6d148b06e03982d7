use Rattle.snap_export.proofs.SavedLemmas.{passed_on}
use Rattle.snap_export.proofs.SeveralLemmas.{all_passed, read_told, holds_sum}
use Rattle.snap_export.proofs.several.load_sum.Goals as goal

pub returns-in_err-found-clause-err : goal.returns-in_err-found-clause-err
returns-in_err-found-clause-err g c =
    passed_on c.from_residual.result _ c.in_err-found.field-0.0 c.from_residual.ensures.1
    (read_told g.F.SnapshotFiles.load_gives c.args.files.now c.sum_of_all.new.files c.args.count
    c.in_err-found.field-0.0 c.in_err-found.ensures.err)

pub returns-in-Some-clause-ok : goal.returns-in-Some-clause-ok
returns-in-Some-clause-ok g c =
    let held = c.in_ok-found.ensures.ok in
    let sum = holds_sum g.F.SnapshotFiles.load_gives c.args.files.now c.sum_of_all.new.files c.args.count held.0 held.1
    c.in_ok-found.found c.in-Some.sum c.in-Some.is held.2 c.total-total.ensures.fits in (
      held.0,
      held.1,
      sum.0,
      sum.1,
      sum.2,
    )

pub returns-in-None-clause-err : goal.returns-in-None-clause-err
returns-in-None-clause-err g c =
    let held = c.in_ok-found.ensures.ok in
    all_passed g.F.SnapshotFiles.load_gives c.args.files.now c.sum_of_all.new.files c.args.count held.0 held.1
    c.in_ok-found.found c.in-None.is held.2
