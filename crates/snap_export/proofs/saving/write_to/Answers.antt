use Rattle.std.proofs.Common.{refl}
use Rattle.snap_file.proofs.SaveLemmas.{ok_mapped, err_mapped, sink_keeps}
use Rattle.snap_export.proofs.saving.write_to.Goals as goal

pub returns-clause-same_reference : goal.returns-clause-same_reference
returns-clause-same_reference g c =
    sink_keeps c.write_to.result _ _ c.args.new_file.now c.write_to.new.w _ c.write_to.ensures.ok
    c.write_to.ensures.err (λ s. s.folder.ghost_name) (λ x offered answer y h. h.0)

pub returns-clause-ok : goal.returns-clause-ok
returns-clause-ok g c =
    ok_mapped c.write_to.result _ _ c.args.new_file.now c.write_to.new.w _ c.write_to.ensures.ok
    g.F.Folder.write_takes g.F.Folder.failure_count (λ s. s.folder.now) (λ x offered answer y h. h.1) (λ x. refl)

pub returns-clause-err : goal.returns-clause-err
returns-clause-err g c =
    err_mapped c.write_to.result _ _ c.args.new_file.now c.write_to.new.w _ c.write_to.ensures.err
    g.F.Folder.write_takes g.F.Folder.failure_count (λ s. s.folder.now) (λ x offered answer y h. h.1) (λ x. refl)
