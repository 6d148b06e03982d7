use Rattle.std.proofs.Common.{ap, subst, flat_map, arith}
use Rattle.std.proofs.lemmas.List.{take_all}
use Rattle.std.proofs.lemmas.Result.{err_from_is_err_and}
use Rattle.byte_io.specs.Writing.{HasTaken}
use Rattle.byte_io.proofs.BufferLemmas.{written_whole}
use Rattle.snap_export.specs.Labels.{label_line}
use Rattle.snap_export.proofs.LineLemmas.{on_ok_both, stopped_before}
use Rattle.snap_export.proofs.label_lines.write_labels.Goals as goal

pub returns-in_err-make_room-clause-err : goal.returns-in_err-make_room-clause-err
returns-in_err-make_room-clause-err g c =
    let p = err_from_is_err_and c.from_residual.result c.from_residual.ensures.1 in rw (p.1, p.2)
    (stopped_before c.args.labels.now c.labels.label-index 0 c.labels-test.true _ _ _ _ _
    (c.in_err-make_room.ensures.err _ _ c.labels.invariant.written))

pub returns-clause-ok : goal.returns-clause-ok
returns-clause-ok g c =
    on_ok_both c.flush.result (λ none ok.
    subst (HasTaken g.W.Sink.write_takes g.W.Sink.failure_count c.args.w.now c.flush.new.w)
    (ap (flat_map label_line)
    (take_all c.labels.label-index c.args.labels.now (omega (arith, c.labels-test.false))))
    (written_whole _ _ c.args.w.now _ _ _ (ok c.args.w.now _ c.labels.invariant.written) none))
    c.flush.ensures.pending c.flush.ensures.ok
