use Rattle.std.proofs.Common.{◌≡◌, ◌⊎◌, ap, subst}
use Rattle.file_folder.specs.Files.{WhereTold}
use Rattle.hyper_matrix.specs.Cells.{built_of}
use Rattle.hyper_matrix.specs.Counts.{Counts}
use Rattle.hyper_matrix.specs.Matrix.{Matrix}
use Rattle.snap_file.specs.declared.fault.SaveFault.{SaveFault}
use Rattle.snap_file.specs.declared.fault.SaveFault.TheVariants.{Rename}
use Rattle.snap_export.specs.Compact.{IsCompact}
use Rattle.snap_export.specs.Saved.{SaysWhy, KeepsNamed}
use Rattle.snap_export.specs.Several.{TellsSum}
use Rattle.snap_export.specs.Told.{compact_parts}
use Rattle.snap_export.specs.declared.fault.ExportFault.TheVariants.{Memory, Save}
use Rattle.snap_export.proofs.SeveralLemmas.{compact_told, unsummed}
use Rattle.snap_export.proofs.SavedLemmas.{passed_on, passed_is}
use Rattle.snap_export.proofs.compact.run_compact.Goals as goal

pub returns-in_err-sum-clause-told : goal.returns-in_err-sum-clause-told
returns-in_err-sum-clause-told g c =
    passed_on c.from_residual.result _ c.in_err-sum.field-0.0 c.from_residual.ensures.1
    (compact_told g.F.SnapshotFiles.load_gives c.args.files.now c.load_sum.new.files c.args.count
    c.in_err-sum.field-0.0 c.in_err-sum.ensures.err)

pub returns-in_err-sum-clause-save : goal.returns-in_err-sum-clause-save
returns-in_err-sum-clause-save g c = λ why result.
    absurd (subst (TellsSum g.F.SnapshotFiles.load_gives c.args.files.now c.load_sum.new.files c.args.count)
    (passed_is c.from_residual.result c.in_err-sum.field-0.0 (Save why) c.from_residual.ensures.1 result)
    c.in_err-sum.ensures.err)

pub returns-in_err-compact-clause-told : goal.returns-in_err-compact-clause-told
returns-in_err-compact-clause-told g c =
    let held = c.in_ok-sum.ensures.ok in
    passed_on c.from_residual-in_err-compact.result _ Memory c.from_residual-in_err-compact.ensures.1
    (unsummed g.F.SnapshotFiles.load_gives c.args.files.now c.load_sum.new.files c.args.count held.0 held.1 held.2
    held.3)

pub returns-in-Ok-clause-ok : goal.returns-in-Ok-clause-ok
returns-in-Ok-clause-ok g c =
    let held = c.in_ok-sum.ensures.ok in
    let x = c.in_ok-compact.compact in (
      held.0,
      held.1,
      held.2,
      x.rows.items,
      x.cols.items,
      built_of x.cells.items,
      held.3,
      subst (λ (m : Counts). IsCompact m x.rows.items x.cols.items (built_of x.cells.items))
          (ap (λ (m : Matrix). m.counts) held.4) c.in_ok-compact.ensures.compact,
      c.in-Ok.ensures.calls,
      c.in-Ok.ensures.saved,
    )

pub returns-clause-save : goal.returns-clause-save
returns-clause-save g c = λ why result.
    let held = c.in_ok-sum.ensures.ok in
    let x = c.in_ok-compact.compact in
    let same : c.in-Err.why ≡ why = cc in (
      held.0,
      held.1,
      held.2,
      x.rows.items,
      x.cols.items,
      built_of x.cells.items,
      held.3,
      subst (λ (m : Counts). IsCompact m x.rows.items x.cols.items (built_of x.cells.items))
          (ap (λ (m : Matrix). m.counts) held.4) c.in_ok-compact.ensures.compact,
      subst (SaysWhy g.D.Folder.call_gives g.D.Folder.write_takes g.D.Folder.failure_count c.args.folder.now
          c.save.new.folder (compact_parts x.rows.items x.cols.items (built_of x.cells.items))) same
          c.in-Err.ensures.why,
      subst (λ (f : SaveFault). (f ≡ Rename) ⊎ WhereTold
          (KeepsNamed (compact_parts x.rows.items x.cols.items (built_of x.cells.items)))
          (g.D.Folder.files c.args.folder.now) (g.D.Folder.files c.save.new.folder)) same c.in-Err.ensures.kept,
    )
