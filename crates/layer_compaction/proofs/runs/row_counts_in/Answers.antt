use Rattle.std.proofs.Common.{◌+◌, take, sym, ap, ◌∙◌, arith}
use Rattle.hyper_matrix.specs.Counts.{total}
use Rattle.hyper_matrix.proofs.CountLaws.{total-ewise_add, total-empty}
use Rattle.layer_compaction.specs.Shared.{content, values, all_counts}
use Rattle.hyper_matrix.specs.RowOf.{row_of}
use Rattle.layer_compaction.proofs.LayerLemmas.{sum_more, more_fits, layer_dims}
use Rattle.layer_compaction.proofs.RowLemmas.{row_of-empty, row_of-ewise_add, row_fits}
use Rattle.layer_compaction.proofs.runs.row_counts_in.Goals as goal

pub rows-init : goal.rows-init
rows-init c = record {
  summed = sym (ap total (row_of-empty c.args.row) ∙ total-empty);
  outside = λ rows cols dims h. omega arith;
}

pub overflow_add-sum : goal.overflow_add-sum
overflow_add-sum c =
    let runs = c.args.runs.now in
    omega (
      arith,
      c.requires,
      more_fits runs c.rows.run-index c.run-item.result c.matrix.result.now (omega arith) c.run-item.is
          (c.matrix.ensures ∙ c.deref.ensures),
      c.rows.invariant.summed,
      c.row_total-sum.ensures.total,
      row_fits (content (take c.rows.run-index (all_counts (values runs)))) c.args.row,
      row_fits c.matrix.result.now.counts c.args.row,
    )

pub rows-preserved : goal.rows-preserved
rows-preserved c =
    let runs = c.args.runs.now in
    let before = content (take c.rows.run-index (all_counts (values runs))) in
    let here = c.matrix.result.now.counts in
    record {
      summed =
          ap (λ n. n + c.row_total-sum.result.total) c.rows.invariant.summed
          ∙ ap (λ n. total (row_of before c.args.row) + n) c.row_total-sum.ensures.total
          ∙ sym (ap (λ m. total (row_of m c.args.row))
          (sum_more runs c.rows.run-index c.run-item.result c.matrix.result.now (omega arith) c.run-item.is
          (c.matrix.ensures ∙ c.deref.ensures)) ∙ ap total (row_of-ewise_add before here c.args.row)
          ∙ total-ewise_add (row_of before c.args.row) (row_of here c.args.row));
      outside = λ rows cols have h.
          let dims = layer_dims runs c.rows.run-index c.run-item.result c.matrix.result.now (omega arith)
          c.run-item.is (c.matrix.ensures ∙ c.deref.ensures) rows cols have in
          omega (
            arith,
            c.rows.invariant.outside rows cols have h,
            (c.row_total-sum.ensures.outside (omega (arith, dims.0, h))).1,
          );
    }
