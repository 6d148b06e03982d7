use Rattle.std.proofs.Common.{[], ◌∷◌, refl}
use Rattle.snap_export.specs.Files.{rows_name, cols_name, matrix_name}
use Rattle.snap_export.proofs.SavedLemmas.{there_second, there_third, told_all_moved, passed_on, on_ok_with}
use Rattle.snap_export.proofs.SavedLemmas.{if_err_with}
use Rattle.snap_export.proofs.saving.take_names.Goals as goal

pub returns-in_err-take_name-clause-why : goal.returns-in_err-take_name-clause-why
returns-in_err-take_name-clause-why g c =
    passed_on c.from_residual.result _ c.in_err-take_name.field-0.0 c.from_residual.ensures.1 (
      c.in_err-take_name.ensures.why.0,
      λ rows cols matrix. record {
        before = [];
        part = (rows_name, rows);
        behind = (cols_name, cols) ∷ (matrix_name, matrix) ∷ [];
        parts_are = refl;
        named = c.args.f.now;
        are_named = refl;
        why = c.in_err-take_name.ensures.why.1;
      },
    )

pub take_name-requires-2-clause-is_there : goal.take_name-requires-2-clause-is_there
take_name-requires-2-clause-is_there g c =
    there_second (g.F.Folder.files c.args.f.now) (g.F.Folder.files c.take_name.new.f) c.requires.are_there
    c.in_ok-take_name.ensures.moved

pub returns-in_err-take_name-2-clause-why : goal.returns-in_err-take_name-2-clause-why
returns-in_err-take_name-2-clause-why g c =
    passed_on c.from_residual-in_err-take_name-2.result _ c.in_err-take_name-2.field-0.0
    c.from_residual-in_err-take_name-2.ensures.1 (
      c.in_err-take_name-2.ensures.why.0,
      λ rows cols matrix. record {
        before = (rows_name, rows) ∷ [];
        part = (cols_name, cols);
        behind = (matrix_name, matrix) ∷ [];
        parts_are = refl;
        named = c.take_name.new.f;
        are_named = (c.take_name.new.f, c.in_ok-take_name.ensures.call, refl);
        why = c.in_err-take_name-2.ensures.why.1;
      },
    )

pub take_name-requires-3-clause-is_there : goal.take_name-requires-3-clause-is_there
take_name-requires-3-clause-is_there g c =
    there_third (g.F.Folder.files c.args.f.now) (g.F.Folder.files c.take_name.new.f)
    (g.F.Folder.files c.take_name-2.new.f) c.requires.are_there c.in_ok-take_name.ensures.moved
    c.in_ok-take_name-2.ensures.moved

pub returns-clause-moved : goal.returns-clause-moved
returns-clause-moved g c =
    on_ok_with c.take_name-3.result (told_all_moved (g.F.Folder.files c.args.f.now) (g.F.Folder.files c.take_name.new.f)
    (g.F.Folder.files c.take_name-2.new.f) (g.F.Folder.files c.take_name-3.new.f) c.in_ok-take_name.ensures.moved
    c.in_ok-take_name-2.ensures.moved) c.take_name-3.ensures.moved

pub returns-clause-calls : goal.returns-clause-calls
returns-clause-calls g c =
    on_ok_with c.take_name-3.result (λ last rows cols matrix. (
      c.take_name.new.f,
      c.in_ok-take_name.ensures.call,
      (c.take_name-2.new.f, c.in_ok-take_name-2.ensures.call, (c.take_name-3.new.f, last, refl)),
    )) c.take_name-3.ensures.call

pub returns-clause-why : goal.returns-clause-why
returns-clause-why g c =
    if_err_with c.take_name-3.result (λ fault why. (
      why.0,
      λ rows cols matrix. record {
        before = (rows_name, rows) ∷ (cols_name, cols) ∷ [];
        part = (matrix_name, matrix);
        behind = [];
        parts_are = refl;
        named = c.take_name-2.new.f;
        are_named = (
          c.take_name.new.f,
          c.in_ok-take_name.ensures.call,
          (c.take_name-2.new.f, c.in_ok-take_name-2.ensures.call, refl),
        );
        why = why.1;
      },
    )) c.take_name-3.ensures.why
