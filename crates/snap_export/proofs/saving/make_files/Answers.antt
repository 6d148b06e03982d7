use Rattle.std.proofs.Common.{[], ◌∷◌, refl}
use Rattle.snap_export.specs.Files.{rows_name, cols_name, matrix_name}
use Rattle.snap_export.proofs.SavedLemmas.{passed_on, on_ok_with, if_err_with}
use Rattle.snap_export.proofs.saving.make_files.Goals as goal

pub returns-in_err-make_file-clause-why : goal.returns-in_err-make_file-clause-why
returns-in_err-make_file-clause-why g c =
    passed_on c.from_residual.result _ c.in_err-make_file.field-0.0 c.from_residual.ensures.1 (record {
      before = [];
      part = (rows_name, g.L.Content.text c.args.rows.now);
      behind = (cols_name, g.L.Content.text c.args.cols.now) ∷ (matrix_name, g.M.Content.text c.args.matrix.now) ∷ [];
      parts_are = refl;
      made = c.args.f.now;
      are_made = refl;
      why = c.in_err-make_file.ensures.why;
    })

pub returns-in_err-make_file-2-clause-why : goal.returns-in_err-make_file-2-clause-why
returns-in_err-make_file-2-clause-why g c =
    passed_on c.from_residual-in_err-make_file-2.result _ c.in_err-make_file-2.field-0.0
    c.from_residual-in_err-make_file-2.ensures.1 (record {
      before = (rows_name, g.L.Content.text c.args.rows.now) ∷ [];
      part = (cols_name, g.L.Content.text c.args.cols.now);
      behind = (matrix_name, g.M.Content.text c.args.matrix.now) ∷ [];
      parts_are = refl;
      made = c.make_file.new.f;
      are_made = (c.make_file.new.f, c.in_ok-make_file.ensures.calls, refl);
      why = c.in_err-make_file-2.ensures.why;
    })

pub returns-clause-calls : goal.returns-clause-calls
returns-clause-calls g c =
    on_ok_with c.make_file-3.result (λ last. (
      c.make_file.new.f,
      c.in_ok-make_file.ensures.calls,
      (c.make_file-2.new.f, c.in_ok-make_file-2.ensures.calls, (c.make_file-3.new.f, last, refl)),
    )) c.make_file-3.ensures.calls

pub returns-clause-why : goal.returns-clause-why
returns-clause-why g c =
    if_err_with c.make_file-3.result (λ fault why. record {
      before = (rows_name, g.L.Content.text c.args.rows.now) ∷ (cols_name, g.L.Content.text c.args.cols.now) ∷ [];
      part = (matrix_name, g.M.Content.text c.args.matrix.now);
      behind = [];
      parts_are = refl;
      made = c.make_file-2.new.f;
      are_made = (
        c.make_file.new.f,
        c.in_ok-make_file.ensures.calls,
        (c.make_file-2.new.f, c.in_ok-make_file-2.ensures.calls, refl),
      );
      why = why;
    }) c.make_file-3.ensures.why
