use Rattle.std.proofs.Common.{List, ap, ◌∙◌, subst, OnOk, IfErr, ◌≡◌, ◌⊎◌}
use Rattle.file_folder.specs.Files.{WhereTold}
use Rattle.snap_file.specs.declared.fault.SaveFault.{SaveFault}
use Rattle.snap_file.specs.declared.fault.SaveFault.TheVariants.{Rename}
use Rattle.snap_export.specs.Compact.{dimension}
use Rattle.snap_export.specs.Saved.{FilePart, HasAll, AreSaved, SaysWhy, KeepsNamed}
use Rattle.snap_export.proofs.CompactLemmas.{parts_same, within_dimensions}
use Rattle.snap_export.proofs.compact.save.Goals as goal

pub returns-clause-saved : goal.returns-clause-saved
returns-clause-saved g c =
    let same = parts_same c.args.compact.now.rows.items c.args.compact.now.cols.items c.deref.result.now
    c.deref-2.result.now c.args.compact.now.cells.items c.deref-5.result.now c.dimension.result c.dimension-2.result
    c.deref.ensures.value c.deref-2.ensures.value c.deref-5.ensures.value
    (c.dimension.ensures ∙ ap dimension c.deref-3.ensures.value)
    (c.dimension-2.ensures ∙ ap dimension c.deref-4.ensures.value) c.requires.rises in
    subst (λ (parts : List FilePart). OnOk c.save_files.result (WhereTold (HasAll parts)
    (g.D.Folder.files c.args.folder.now) (g.D.Folder.files c.save_files.new.f))) same
    c.save_files.ensures.saved

pub returns-clause-calls : goal.returns-clause-calls
returns-clause-calls g c =
    let same = parts_same c.args.compact.now.rows.items c.args.compact.now.cols.items c.deref.result.now
    c.deref-2.result.now c.args.compact.now.cells.items c.deref-5.result.now c.dimension.result c.dimension-2.result
    c.deref.ensures.value c.deref-2.ensures.value c.deref-5.ensures.value
    (c.dimension.ensures ∙ ap dimension c.deref-3.ensures.value)
    (c.dimension-2.ensures ∙ ap dimension c.deref-4.ensures.value) c.requires.rises in
    subst (λ (parts : List FilePart). OnOk c.save_files.result (AreSaved g.D.Folder.call_gives
    g.D.Folder.write_takes g.D.Folder.failure_count c.args.folder.now c.save_files.new.f parts)) same
    c.save_files.ensures.calls

pub returns-clause-why : goal.returns-clause-why
returns-clause-why g c =
    let same = parts_same c.args.compact.now.rows.items c.args.compact.now.cols.items c.deref.result.now
    c.deref-2.result.now c.args.compact.now.cells.items c.deref-5.result.now c.dimension.result c.dimension-2.result
    c.deref.ensures.value c.deref-2.ensures.value c.deref-5.ensures.value
    (c.dimension.ensures ∙ ap dimension c.deref-3.ensures.value)
    (c.dimension-2.ensures ∙ ap dimension c.deref-4.ensures.value) c.requires.rises in
    subst (λ (parts : List FilePart). IfErr c.save_files.result (SaysWhy g.D.Folder.call_gives
    g.D.Folder.write_takes g.D.Folder.failure_count c.args.folder.now c.save_files.new.f parts)) same
    c.save_files.ensures.why

pub returns-clause-kept : goal.returns-clause-kept
returns-clause-kept g c =
    let same = parts_same c.args.compact.now.rows.items c.args.compact.now.cols.items c.deref.result.now
    c.deref-2.result.now c.args.compact.now.cells.items c.deref-5.result.now c.dimension.result c.dimension-2.result
    c.deref.ensures.value c.deref-2.ensures.value c.deref-5.ensures.value
    (c.dimension.ensures ∙ ap dimension c.deref-3.ensures.value)
    (c.dimension-2.ensures ∙ ap dimension c.deref-4.ensures.value) c.requires.rises in
    subst (λ (parts : List FilePart). IfErr c.save_files.result (λ (why : SaveFault). (why ≡ Rename)
    ⊎ WhereTold (KeepsNamed parts) (g.D.Folder.files c.args.folder.now) (g.D.Folder.files c.save_files.new.f))) same
    c.save_files.ensures.kept

pub save_files-requires-clause-sound : goal.save_files-requires-clause-sound
save_files-requires-clause-sound g c = (
  tt,
  tt,
  within_dimensions c.args.compact.now.rows.items c.args.compact.now.cols.items c.args.compact.now.cells.items
      c.deref-5.result.now c.dimension.result c.dimension-2.result
      (c.dimension.ensures ∙ ap dimension c.deref-3.ensures.value)
      (c.dimension-2.ensures ∙ ap dimension c.deref-4.ensures.value) c.deref-5.ensures.value c.requires.few
      c.requires.within,
)
