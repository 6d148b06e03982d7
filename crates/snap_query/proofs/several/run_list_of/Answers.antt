use Rattle.std.proofs.Common.{◌≡◌, ℕ, List, ap, sym, subst}
use Rattle.byte_io.specs.Writing.{HasTaken, HasStopped}
use Rattle.byte_io.specs.declared.fault.WriteFault.{WriteFault}
use Rattle.cells.specs.Bounds.{IsDimension, AreWithin}
use Rattle.snap_export.specs.Several.{TellsSum}
use Rattle.snap_export.specs.declared.fault.ExportFault.TheVariants.{Memory, Output}
use Rattle.snap_export.proofs.SavedLemmas.{passed_on, passed_is}
use Rattle.snap_export.proofs.SeveralLemmas.{sum_told, unsummed}
use Rattle.snap_query.specs.Spans.{span_text}
use Rattle.snap_query.proofs.SpanLemmas.{text_of_all}
use Rattle.snap_query.proofs.several.run_list_of.Goals as goal

pub write_matrix-requires-clause-rows : goal.write_matrix-requires-clause-rows
write_matrix-requires-clause-rows g c =
    subst IsDimension (sym (ap (λ (d : ℕ × ℕ). d.0) c.dims-rows.ensures.value)) c.dims-rows.ensures.rows

pub write_matrix-requires-clause-cols : goal.write_matrix-requires-clause-cols
write_matrix-requires-clause-cols g c =
    subst IsDimension (sym (ap (λ (d : ℕ × ℕ). d.1) c.dims-rows.ensures.value)) c.dims-rows.ensures.cols

pub write_matrix-requires-clause-within : goal.write_matrix-requires-clause-within
write_matrix-requires-clause-within g c =
    subst (AreWithin c.dims-rows.result.0 c.dims-rows.result.1) (sym c.deref.ensures.value)
    (subst (λ (d : ℕ × ℕ). AreWithin d.0 d.1 c.kept_in-kept.result.items) (sym c.dims-rows.ensures.value)
    (c.kept_in-kept.ensures.within _ _ c.in_ok-cells.ensures.within))

pub returns-in_err-sum-clause-told : goal.returns-in_err-sum-clause-told
returns-in_err-sum-clause-told g c =
    passed_on c.from_residual.result _ c.in_err-sum.field-0.0 c.from_residual.ensures.1
    (sum_told g.F.SnapshotFiles.load_gives c.args.files.now c.load_sum.new.files c.args.count c.in_err-sum.field-0.0
    c.in_err-sum.ensures.err)

pub returns-in_err-sum-clause-output : goal.returns-in_err-sum-clause-output
returns-in_err-sum-clause-output g c = λ fault result.
    absurd (subst (TellsSum g.F.SnapshotFiles.load_gives c.args.files.now c.load_sum.new.files c.args.count)
    (passed_is c.from_residual.result c.in_err-sum.field-0.0 (Output fault) c.from_residual.ensures.1 result)
    c.in_err-sum.ensures.err)

pub returns-in_err-cells-clause-told : goal.returns-in_err-cells-clause-told
returns-in_err-cells-clause-told g c =
    let held = c.in_ok-sum.ensures.ok in
    passed_on c.from_residual-in_err-cells.result _ Memory c.from_residual-in_err-cells.ensures.1
    (unsummed g.F.SnapshotFiles.load_gives c.args.files.now c.load_sum.new.files c.args.count held.0 held.1 held.2
    held.3)

pub returns-in-Ok-clause-ok : goal.returns-in-Ok-clause-ok
returns-in-Ok-clause-ok g c =
    let held = c.in_ok-sum.ensures.ok in (
      held.0,
      held.1,
      held.2,
      held.3,
      subst (HasTaken g.W.Sink.write_takes g.W.Sink.failure_count c.args.w.now c.write_matrix.new.w)
          (text_of_all held.0 held.1 held.2 c.in_ok-sum.sum c.dims-rows.result c.args.range.now
          c.in_ok-cells.cells.items c.kept_in-kept.result.items c.deref.result.now held.4 c.dims-rows.ensures.value
          c.in_ok-cells.ensures.rises c.in_ok-cells.ensures.builds c.kept_in-kept.ensures.cells c.deref.ensures.value)
          c.in-Ok.ensures.ok,
    )

pub returns-clause-output : goal.returns-clause-output
returns-clause-output g c = λ fault result.
    let held = c.in_ok-sum.ensures.ok in
    let same : c.in-Err.fault ≡ fault = cc in (
      held.0,
      held.1,
      held.2,
      held.3,
      subst (λ (f : WriteFault). HasStopped g.W.Sink.write_takes g.W.Sink.failure_count c.args.w.now
          c.write_matrix.new.w (span_text held.0 held.1 c.args.range.now held.2) f.written) same
          (subst (λ (text : List ℕ). HasStopped g.W.Sink.write_takes g.W.Sink.failure_count c.args.w.now
          c.write_matrix.new.w text c.in-Err.fault.written)
          (text_of_all held.0 held.1 held.2 c.in_ok-sum.sum c.dims-rows.result c.args.range.now
          c.in_ok-cells.cells.items c.kept_in-kept.result.items c.deref.result.now held.4 c.dims-rows.ensures.value
          c.in_ok-cells.ensures.rises c.in_ok-cells.ensures.builds c.kept_in-kept.ensures.cells c.deref.ensures.value)
          c.in-Err.ensures.err),
    )
