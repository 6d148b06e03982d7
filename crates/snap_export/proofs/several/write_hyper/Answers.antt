use Rattle.std.proofs.Common.{◌∙◌, subst, refl, List, ℕ, ◌++◌, map, length, ap, arith}
use Rattle.std.specs.List.{AllByRecursion}
use Rattle.std.proofs.lemmas.Result.{err_from_is_err_and}
use Rattle.mm_text.specs.Canonical.{canonical_head, entry_line, entry_lines}
use Rattle.byte_io.specs.Writing.{HasStopped}
use Rattle.byte_io.proofs.BufferLemmas.{written_nothing}
use Rattle.byte_io.proofs.SinkLemmas.{has_stopped_longer}
use Rattle.hyper_matrix.specs.Shared.{LiesWithin}
use Rattle.mm_laws.specs.MatrixText.{cell_of}
use Rattle.snap_export.proofs.LineLemmas.{text_begins, lines_counted, line_next}
use Rattle.snap_export.proofs.several.write_hyper.Goals as goal

pub loop-cell-init : goal.loop-cell-init
loop-cell-init g c =
    let m = c.args.m.now in
    let same = c.into_iter-cell-iterator.ensures.into_iter_gives in
    let order = same ∙ c.iter-cell-items.ensures.order in
    let head = canonical_head c.dims-rows.result.0 c.dims-rows.result.1 c.entries.result in
    record {
      can = tt;
      finite = tt;
      failures = refl;
      declared = lines_counted m c.entries.result _ _ c.entries.ensures c.new-writer.ensures.left order;
      dims = (
        c.new-writer.ensures.dims.0 ∙ ap (λ d. d.0) c.dims-rows.ensures.value,
        c.new-writer.ensures.dims.1
            ∙ ap (λ d. d.1) c.dims-rows.ensures.value,
      );
      within = rw same c.iter-cell-items.ensures.within;
      written = (
        head,
        written_nothing _ _ c.args.w.now head c.new-writer.result.buffer c.new-writer.ensures.taken
            c.new-writer.ensures.pending,
        text_begins m _ _ c.entries.result _ c.dims-rows.ensures.value c.entries.ensures order,
      );
    }

pub loop-cell-preserved : goal.loop-cell-preserved
loop-cell-preserved g c =
    let m = c.args.m.now in
    let step = c.in-Some.ensures.steps in
    let old = c.loop-cell.invariant in
    let within = subst (AllByRecursion (LiesWithin m.rows m.cols)) step old.within in
    record {
      can = tt;
      finite = tt;
      failures = c.in_ok-write_cell.ensures.failures ∙ old.failures;
      declared = omega (arith, c.in_ok-write_cell.ensures.left, old.declared, ap length step);
      dims = (c.in_ok-write_cell.ensures.dims.0 ∙ old.dims.0, c.in_ok-write_cell.ensures.dims.1 ∙ old.dims.1);
      within = within.1;
      written = (
        old.written.0 ++ entry_line c.in-Some.cell,
        c.in_ok-write_cell.ensures.ok c.args.w.now old.written.0 old.written.1,
        line_next old.written.0 _ c.loop-cell.cell-iterator c.next.new.self c.in-Some.cell step old.written.2,
      );
    }

pub returns-in_err-write_cell-clause-err : goal.returns-in_err-write_cell-clause-err
returns-in_err-write_cell-clause-err g c =
    let p = err_from_is_err_and c.from_residual.result c.from_residual.ensures.1 in
    let old = c.loop-cell.invariant.written in
    rw (p.1, p.2)
    (subst (λ (text : List ℕ). HasStopped g.W.Sink.write_takes g.W.Sink.failure_count c.args.w.now c.write_cell.new.w
    text c.in_err-write_cell.field-0.0.written)
    (line_next old.0 _ c.loop-cell.cell-iterator c.next.new.self c.in-Some.cell c.in-Some.ensures.steps old.2)
    (has_stopped_longer _ _ c.args.w.now c.write_cell.new.w (old.0 ++ entry_line c.in-Some.cell)
    (entry_lines (map cell_of c.next.new.self)) _
    (c.in_err-write_cell.ensures.err c.args.w.now old.0 old.1)))
