use Rattle.std.proofs.Common.{◌≡◌, subst, sym}
use Rattle.std.specs.FinMap.{entries}
use Rattle.byte_io.specs.Writing.{HasStopped}
use Rattle.byte_io.specs.declared.fault.WriteFault.{WriteFault}
use Rattle.hyper_matrix.specs.Matrix.{Matrix}
use Rattle.cell_queries.specs.Tallies.{tallies}
use Rattle.cell_queries.specs.Tops.{IsTop}
use Rattle.snap_export.specs.Several.{TellsSum}
use Rattle.snap_export.specs.declared.fault.ExportFault.TheVariants.{Memory, Output}
use Rattle.snap_export.proofs.SavedLemmas.{passed_on, passed_is}
use Rattle.snap_export.proofs.SeveralLemmas.{sum_told, unsummed}
use Rattle.snap_query.specs.Queries.{by_side, row_lines}
use Rattle.snap_query.proofs.several.run_top_of.Goals as goal

pub returns-in_err-sum-clause-told : goal.returns-in_err-sum-clause-told
returns-in_err-sum-clause-told g c =
    passed_on c.from_residual.result _ c.in_err-sum.field-0.0 c.from_residual.ensures.1
    (sum_told g.F.SnapshotFiles.load_gives c.args.files.now c.load_sum.new.files c.args.count c.in_err-sum.field-0.0
    c.in_err-sum.ensures.err)

pub returns-in_err-sum-clause-output : goal.returns-in_err-sum-clause-output
returns-in_err-sum-clause-output g c = λ fault result.
    absurd (subst (TellsSum g.F.SnapshotFiles.load_gives c.args.files.now c.load_sum.new.files c.args.count)
    (passed_is c.from_residual.result c.in_err-sum.field-0.0 (Output fault) c.from_residual.ensures.1 result)
    c.in_err-sum.ensures.err)

pub returns-in_err-top-clause-told : goal.returns-in_err-top-clause-told
returns-in_err-top-clause-told g c =
    let held = c.in_ok-sum.ensures.ok in
    passed_on c.from_residual-in_err-top.result _ Memory c.from_residual-in_err-top.ensures.1
    (unsummed g.F.SnapshotFiles.load_gives c.args.files.now c.load_sum.new.files c.args.count held.0 held.1 held.2
    held.3)

pub returns-in-Ok-clause-ok : goal.returns-in-Ok-clause-ok
returns-in-Ok-clause-ok g c =
    let held = c.in_ok-sum.ensures.ok in
    let q = c.args.query.now in (
      held.0,
      held.1,
      held.2,
      c.deref.result.now,
      held.3,
      subst (λ (m : Matrix). IsTop q.by q.most (tallies (entries (by_side q.side m.counts))) c.deref.result.now) held.4
          (subst (IsTop q.by q.most (tallies (entries (by_side q.side c.in_ok-sum.sum.counts))))
          (sym c.deref.ensures.value) c.in_ok-top.ensures),
      c.in-Ok.ensures.ok,
    )

pub returns-clause-output : goal.returns-clause-output
returns-clause-output g c = λ fault result.
    let held = c.in_ok-sum.ensures.ok in
    let q = c.args.query.now in
    let same : c.in-Err.fault ≡ fault = cc in (
      held.0,
      held.1,
      held.2,
      c.deref.result.now,
      held.3,
      subst (λ (m : Matrix). IsTop q.by q.most (tallies (entries (by_side q.side m.counts))) c.deref.result.now) held.4
          (subst (IsTop q.by q.most (tallies (entries (by_side q.side c.in_ok-sum.sum.counts))))
          (sym c.deref.ensures.value) c.in_ok-top.ensures),
      subst (λ (f : WriteFault). HasStopped g.W.Sink.write_takes g.W.Sink.failure_count c.args.w.now
          c.write_lines.new.w (row_lines c.deref.result.now) f.written) same c.in-Err.ensures.err,
    )
