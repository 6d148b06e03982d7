use Rattle.std.proofs.Common.{◌≡◌, ℕ, List, subst}
use Rattle.byte_io.specs.Writing.{HasTaken, HasStopped}
use Rattle.byte_io.specs.declared.fault.WriteFault.{WriteFault}
use Rattle.hyper_matrix.specs.Cells.{built_of}
use Rattle.snap_export.specs.Minus.{more_text}
use Rattle.snap_export.proofs.SavedLemmas.{passed_on}
use Rattle.snap_export.proofs.MinusLemmas.{more_told, more_written}
use Rattle.snap_export.proofs.minus.run_export_minus.Goals as goal

pub returns-in_err-more-clause-told : goal.returns-in_err-more-clause-told
returns-in_err-more-clause-told g c =
    passed_on c.from_residual.result _ c.in_err-more.field-0.0 c.from_residual.ensures.1
    (more_told g.F.SnapshotFiles.load_gives c.args.files.now c.load_more.new.files c.in_err-more.field-0.0
    c.in_err-more.ensures.err)

pub returns-in-Ok-clause-ok : goal.returns-in-Ok-clause-ok
returns-in-Ok-clause-ok g c =
    let held = c.in_ok-more.ensures.ok in
    let more = c.in_ok-more.more in (
      held.0,
      held.1,
      built_of more.cells.items,
      held.2,
      held.3,
      held.4.is_more,
      subst (λ (text : List ℕ). HasTaken g.W.Sink.write_takes g.W.Sink.failure_count c.args.w.now c.write_matrix.new.w
          text)
          (more_written held.0 held.1 more.rows more.cols more.cells.items c.deref.result.now c.deref.ensures.value held.4)
          c.in-Ok.ensures.ok,
    )

pub returns-clause-output : goal.returns-clause-output
returns-clause-output g c = λ fault result.
    let held = c.in_ok-more.ensures.ok in
    let more = c.in_ok-more.more in
    let same : c.in-Err.fault ≡ fault = cc in (
      held.0,
      held.1,
      built_of more.cells.items,
      held.2,
      held.3,
      held.4.is_more,
      subst (λ (f : WriteFault). HasStopped g.W.Sink.write_takes g.W.Sink.failure_count c.args.w.now
          c.write_matrix.new.w (more_text held.0 (built_of more.cells.items)) f.written) same
          (subst (λ (text : List ℕ). HasStopped g.W.Sink.write_takes g.W.Sink.failure_count c.args.w.now
          c.write_matrix.new.w text c.in-Err.fault.written)
          (more_written held.0 held.1 more.rows more.cols more.cells.items c.deref.result.now c.deref.ensures.value held.4)
          c.in-Err.ensures.err),
    )
