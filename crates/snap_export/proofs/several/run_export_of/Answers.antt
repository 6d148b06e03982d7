use Rattle.std.proofs.Common.{◌≡◌, subst}
use Rattle.byte_io.specs.Writing.{HasTaken, HasStopped}
use Rattle.byte_io.specs.declared.fault.WriteFault.{WriteFault}
use Rattle.hyper_matrix.specs.Matrix.{Matrix}
use Rattle.mm_laws.specs.MatrixText.{matrix_text}
use Rattle.snap_export.specs.Several.{sum_text, TellsSum}
use Rattle.snap_export.specs.declared.fault.ExportFault.TheVariants.{Output}
use Rattle.snap_export.proofs.SavedLemmas.{passed_on, passed_is}
use Rattle.snap_export.proofs.SeveralLemmas.{sum_told}
use Rattle.snap_export.proofs.several.run_export_of.Goals as goal

pub returns-in-Ok-clause-ok : goal.returns-in-Ok-clause-ok
returns-in-Ok-clause-ok g c =
    let held = c.in_ok-sum.ensures.ok in (
      held.0,
      held.1,
      held.2,
      held.3,
      subst (λ (m : Matrix). HasTaken g.W.Sink.write_takes g.W.Sink.failure_count c.args.w.now c.write_hyper.new.w
          (matrix_text m)) held.4 c.in-Ok.ensures.ok,
    )

pub returns-clause-output : goal.returns-clause-output
returns-clause-output g c = λ fault result.
    let held = c.in_ok-sum.ensures.ok in
    let same : c.in-Err.fault ≡ fault = cc in (
      held.0,
      held.1,
      held.2,
      held.3,
      subst (λ (f : WriteFault). HasStopped g.W.Sink.write_takes g.W.Sink.failure_count c.args.w.now
          c.write_hyper.new.w (sum_text held.0 held.1 held.2) f.written) same
          (subst (λ (m : Matrix). HasStopped g.W.Sink.write_takes g.W.Sink.failure_count c.args.w.now
          c.write_hyper.new.w (matrix_text m) c.in-Err.fault.written) held.4 c.in-Err.ensures.err),
    )

pub returns-in_err-sum-clause-told : goal.returns-in_err-sum-clause-told
returns-in_err-sum-clause-told g c =
    passed_on c.from_residual.result _ c.in_err-sum.field-0.0 c.from_residual.ensures.1
    (sum_told g.F.SnapshotFiles.load_gives c.args.files.now c.load_sum.new.files c.args.count
    c.in_err-sum.field-0.0 c.in_err-sum.ensures.err)

pub returns-in_err-sum-clause-output : goal.returns-in_err-sum-clause-output
returns-in_err-sum-clause-output g c = λ fault result.
    absurd (subst (TellsSum g.F.SnapshotFiles.load_gives c.args.files.now c.load_sum.new.files c.args.count)
    (passed_is c.from_residual.result c.in_err-sum.field-0.0 (Output fault) c.from_residual.ensures.1 result)
    c.in_err-sum.ensures.err)
