use Rattle.std.proofs.Common.{arith}
use Rattle.snap_export.proofs.SeveralLemmas.{told_behind, next_summed}
use Rattle.snap_export.proofs.SavedLemmas.{passed_on}
use Rattle.snap_export.proofs.several.sum_of_all.Goals as goal

pub returns-in_err-sum-clause-err : goal.returns-in_err-sum-clause-err
returns-in_err-sum-clause-err g c =
    let held = c.files.invariant.summed in
    passed_on c.from_residual-in_err-sum.result _ c.in_err-sum.field-0.0 c.from_residual-in_err-sum.ensures.1
    (told_behind g.F.SnapshotFiles.load_gives c.args.files.now c.files.files c.next_sum.new.files c.files.number
    c.in_ok-rows.rows c.in_ok-rows.cols held.xs c.files.invariant.some held.count_is held.loaded c.in_err-sum.field-0.0
    (c.in_err-sum.ensures.err held.xs held.sum_is))

pub files-preserved : goal.files-preserved
files-preserved g c =
    let held = c.files.invariant.summed in
    record {
      some = omega (arith, c.files.invariant.some);
      summed = next_summed g.F.SnapshotFiles.load_gives c.args.files.now c.files.files c.next_sum.new.files
          c.files.number c.in_ok-rows.rows c.in_ok-rows.cols held.xs c.in_ok-sum.sum held.count_is held.loaded
          (c.in_ok-sum.ensures.ok held.xs held.sum_is);
    }
