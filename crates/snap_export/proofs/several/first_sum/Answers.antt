use Rattle.std.proofs.Common.{[], ap, sym, ◌∙◌}
use Rattle.snap_file.specs.Snapshots.{Saved}
use Rattle.snap_export.specs.declared.fault.ExportFault.TheVariants.{Memory}
use Rattle.snap_export.proofs.SeveralLemmas.{first_unread, first_unsummed, first_summed, nothing_summed}
use Rattle.snap_export.proofs.SavedLemmas.{passed_on}
use Rattle.snap_export.proofs.several.first_sum.Goals as goal

pub returns-in_err-snapshot-clause-err : goal.returns-in_err-snapshot-clause-err
returns-in_err-snapshot-clause-err g c =
    passed_on c.from_residual.result _ c.in_err-snapshot.field-0.0 c.from_residual.ensures.1
    (first_unread g.F.SnapshotFiles.load_gives c.args.files.now c.load_next.new.files c.in_err-snapshot.field-0.0
    c.in_err-snapshot.ensures.err)

pub returns-in_err-sum-clause-err : goal.returns-in_err-sum-clause-err
returns-in_err-sum-clause-err g c =
    passed_on c.from_residual-in_err-sum.result _ Memory c.from_residual-in_err-sum.ensures.1
    (first_unsummed g.F.SnapshotFiles.load_gives c.args.files.now c.load_next.new.files c.in_ok-snapshot.snapshot
    c.in_ok-snapshot.ensures.ok
    (c.in_err-sum.ensures.memory c.rows-rows.result c.cols-cols.result []
    (nothing_summed c.rows-rows.result c.cols-cols.result c.new-none.result c.new-none.ensures)))

pub returns-clause-ok : goal.returns-clause-ok
returns-clause-ok g c =
    first_summed g.F.SnapshotFiles.load_gives c.args.files.now c.load_next.new.files c.in_ok-snapshot.snapshot
    c.rows-rows.result c.cols-cols.result c.in_ok-sum.sum
    (ap (λ (x : Saved). x.setup.rows) (sym c.snapshot.view_is) ∙ sym c.rows-rows.ensures.value)
    (ap (λ (x : Saved). x.setup.cols) (sym c.snapshot.view_is) ∙ sym c.cols-cols.ensures.value)
    c.in_ok-snapshot.ensures.ok
    (c.in_ok-sum.ensures.sum c.rows-rows.result c.cols-cols.result []
    (nothing_summed c.rows-rows.result c.cols-cols.result c.new-none.result c.new-none.ensures))
