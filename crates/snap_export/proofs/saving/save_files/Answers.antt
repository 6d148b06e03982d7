use Rattle.std.proofs.Common.{sym, subst}
use Rattle.snap_file.specs.declared.fault.SaveFault.{SaveFault}
use Rattle.snap_export.specs.Saved.{SaysWhy}
use Rattle.snap_export.specs.Files.{parts_of}
use Rattle.snap_export.proofs.SavedLemmas.{told_moved, on_ok_with, if_err_with}
use Rattle.snap_export.proofs.saving.save_files.Goals as goal

pub returns-clause-saved : goal.returns-clause-saved
returns-clause-saved g c =
    on_ok_with c.take_names.result (told_moved (g.L.Content.text c.args.rows.now) (g.L.Content.text c.args.cols.now)
    (g.M.Content.text c.args.matrix.now) (g.F.Folder.files c.args.f.now) (g.F.Folder.files c.make_files.new.f)
    (g.F.Folder.files c.take_names.new.f) c.in_ok-make_files.ensures.made) c.take_names.ensures.moved

pub returns-clause-calls : goal.returns-clause-calls
returns-clause-calls g c =
    on_ok_with c.take_names.result (λ named. record {
      made = c.make_files.new.f;
      are_made = c.in_ok-make_files.ensures.calls;
      are_named = named (g.L.Content.text c.args.rows.now) (g.L.Content.text c.args.cols.now)
          (g.M.Content.text c.args.matrix.now);
    }) c.take_names.ensures.calls

pub returns-clause-why : goal.returns-clause-why
returns-clause-why g c =
    if_err_with c.take_names.result (λ fault why.
    subst (λ (f : SaveFault). SaysWhy g.F.Folder.call_gives g.F.Folder.write_takes g.F.Folder.failure_count
    c.args.f.now c.take_names.new.f (parts_of (g.L.Content.text c.args.rows.now) (g.L.Content.text c.args.cols.now)
    (g.M.Content.text c.args.matrix.now)) f) (sym why.0) (record {
      made = c.make_files.new.f;
      are_made = c.in_ok-make_files.ensures.calls;
      stops = why.1 (g.L.Content.text c.args.rows.now) (g.L.Content.text c.args.cols.now)
          (g.M.Content.text c.args.matrix.now);
    })) c.take_names.ensures.why
