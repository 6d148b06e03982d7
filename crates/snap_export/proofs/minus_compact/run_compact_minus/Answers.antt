use Rattle.std.proofs.Common.{◌≡◌, ◌⊎◌, inr, subst}
use Rattle.file_folder.specs.Files.{WhereTold}
use Rattle.hyper_matrix.specs.Cells.{built_of}
use Rattle.snap_file.specs.declared.fault.SaveFault.{SaveFault}
use Rattle.snap_file.specs.declared.fault.SaveFault.TheVariants.{Rename}
use Rattle.snap_export.specs.Minus.{TellsMore}
use Rattle.snap_export.specs.Saved.{SaysWhy, KeepsNamed}
use Rattle.snap_export.specs.Told.{compact_parts}
use Rattle.snap_export.specs.declared.minus_fault.DifferenceFault.TheVariants.{Memory, Save}
use Rattle.snap_export.proofs.SavedLemmas.{passed_on, passed_is}
use Rattle.snap_export.proofs.MinusLemmas.{more_told, no_save}
use Rattle.snap_export.proofs.minus_compact.run_compact_minus.Goals as goal

pub returns-in_err-more-clause-told : goal.returns-in_err-more-clause-told
returns-in_err-more-clause-told g c =
    passed_on c.from_residual.result _ c.in_err-more.field-0.0 c.from_residual.ensures.1
    (more_told g.F.SnapshotFiles.load_gives c.args.files.now c.load_more.new.files c.in_err-more.field-0.0
    c.in_err-more.ensures.err)

pub returns-in_err-more-clause-save : goal.returns-in_err-more-clause-save
returns-in_err-more-clause-save g c = λ why result.
    absurd (no_save g.F.SnapshotFiles.load_gives c.args.files.now c.load_more.new.files why
    (subst (TellsMore g.F.SnapshotFiles.load_gives c.args.files.now c.load_more.new.files)
    (passed_is c.from_residual.result c.in_err-more.field-0.0 (Save why) c.from_residual.ensures.1 result)
    c.in_err-more.ensures.err))

pub returns-in_err-compact-clause-told : goal.returns-in_err-compact-clause-told
returns-in_err-compact-clause-told g c =
    let held = c.in_ok-more.ensures.ok in
    passed_on c.from_residual-in_err-compact.result _ Memory c.from_residual-in_err-compact.ensures.1
    (inr (inr (held.0, held.1, held.2, inr (held.3, tt))))

pub returns-in-Ok-clause-ok : goal.returns-in-Ok-clause-ok
returns-in-Ok-clause-ok g c =
    let held = c.in_ok-more.ensures.ok in
    let x = c.in_ok-compact.compact in (
      held.0,
      held.1,
      built_of c.in_ok-more.more.cells.items,
      x.rows.items,
      x.cols.items,
      built_of x.cells.items,
      held.2,
      held.3,
      held.4.is_more,
      c.in_ok-compact.ensures.compact,
      c.in-Ok.ensures.calls,
      c.in-Ok.ensures.saved,
    )

pub returns-clause-save : goal.returns-clause-save
returns-clause-save g c = λ why result.
    let held = c.in_ok-more.ensures.ok in
    let x = c.in_ok-compact.compact in
    let same : c.in-Err.why ≡ why = cc in (
      held.0,
      held.1,
      built_of c.in_ok-more.more.cells.items,
      x.rows.items,
      x.cols.items,
      built_of x.cells.items,
      held.2,
      held.3,
      held.4.is_more,
      c.in_ok-compact.ensures.compact,
      subst (SaysWhy g.D.Folder.call_gives g.D.Folder.write_takes g.D.Folder.failure_count c.args.folder.now
          c.save.new.folder (compact_parts x.rows.items x.cols.items (built_of x.cells.items))) same
          c.in-Err.ensures.why,
      subst (λ (f : SaveFault). (f ≡ Rename) ⊎ WhereTold
          (KeepsNamed (compact_parts x.rows.items x.cols.items (built_of x.cells.items)))
          (g.D.Folder.files c.args.folder.now) (g.D.Folder.files c.save.new.folder)) same c.in-Err.ensures.kept,
    )
