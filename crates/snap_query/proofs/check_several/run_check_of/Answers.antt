use Rattle.std.proofs.Common.{◌≡◌, ℕ, List, subst}
use Rattle.byte_io.specs.Writing.{HasTaken, HasStopped}
use Rattle.byte_io.specs.declared.fault.WriteFault.{WriteFault}
use Rattle.snap_export.specs.Several.{TellsSum}
use Rattle.snap_export.specs.declared.fault.ExportFault.TheVariants.{Output}
use Rattle.snap_export.proofs.SavedLemmas.{passed_on, passed_is}
use Rattle.snap_export.proofs.SeveralLemmas.{sum_told}
use Rattle.snap_query.specs.Spans.{span_line}
use Rattle.snap_query.proofs.check_several.run_check_of.Goals as goal

pub returns-in_err-line-clause-told : goal.returns-in_err-line-clause-told
returns-in_err-line-clause-told g c =
    passed_on c.from_residual.result _ c.in_err-line.field-0.0 c.from_residual.ensures.1
    (sum_told g.F.SnapshotFiles.load_gives c.args.files.now c.line_of_all.new.files c.args.count c.in_err-line.field-0.0
    c.in_err-line.ensures.err)

pub returns-in_err-line-clause-output : goal.returns-in_err-line-clause-output
returns-in_err-line-clause-output g c = λ fault result.
    absurd (subst (TellsSum g.F.SnapshotFiles.load_gives c.args.files.now c.line_of_all.new.files c.args.count)
    (passed_is c.from_residual.result c.in_err-line.field-0.0 (Output fault) c.from_residual.ensures.1 result)
    c.in_err-line.ensures.err)

pub returns-in-Ok-clause-ok : goal.returns-in-Ok-clause-ok
returns-in-Ok-clause-ok g c =
    let held = c.in_ok-line.ensures.ok in (
      held.0,
      held.1,
      held.2,
      held.3,
      subst (HasTaken g.W.Sink.write_takes g.W.Sink.failure_count c.args.w.now c.write_line.new.w) held.4
          c.in-Ok.ensures.ok,
    )

pub returns-in-Err-clause-output : goal.returns-in-Err-clause-output
returns-in-Err-clause-output g c = λ fault result.
    let held = c.in_ok-line.ensures.ok in
    let same : c.in-Err.fault ≡ fault = cc in (
      held.0,
      held.1,
      held.2,
      held.3,
      subst (λ (f : WriteFault). HasStopped g.W.Sink.write_takes g.W.Sink.failure_count c.args.w.now
          c.write_line.new.w (span_line held.0 held.1 held.2) f.written) same
          (subst (λ (text : List ℕ). HasStopped g.W.Sink.write_takes g.W.Sink.failure_count c.args.w.now
          c.write_line.new.w text c.in-Err.fault.written) held.4 c.in-Err.ensures.err),
    )
