use Rattle.std.proofs.Common.{◌+◌, take, sym, ap, ◌∙◌, arith}
use Rattle.hyper_matrix.specs.Counts.{Counts, total}
use Rattle.hyper_matrix.proofs.CountLaws.{total-ewise_add, total-empty}
use Rattle.layer_compaction.specs.Shared.{content, values, all_counts}
use Rattle.hyper_matrix.specs.RowOf.{row_of}
use Rattle.layer_compaction.proofs.LayerLemmas.{sum_more, more_fits}
use Rattle.layer_cascade.proofs.KeptLemmas.{seen_dims, stored_fits, all_read}
use Rattle.layer_compaction.proofs.RowLemmas.{row_of-empty, row_of-ewise_add, row_fits}
use Rattle.layer_cascade.proofs.layers.Layers.row_counts.Goals as goal

pub rows-init : goal.rows-init
rows-init c = record {
  summed = sym (ap total (row_of-empty c.args.row) ∙ total-empty);
  outside = λ h. omega arith;
}

pub overflow_add-sum : goal.overflow_add-sum
overflow_add-sum c =
    let items = c.deref-layer-items.result.now in
    let more = more_fits items c.rows.layer-index c.layer-item.result c.deref.result.now (omega arith) c.layer-item.is
    c.deref.ensures in
    omega (
      arith,
      stored_fits _ _ _ _ _ c.self.invariant,
      more,
      ap (λ s. total (content (all_counts (values s)))) c.deref-layer-items.ensures.value,
      c.rows.invariant.summed,
      c.row_counts-sum.ensures.value,
      row_fits (content (take c.rows.layer-index (all_counts (values items)))) c.args.row,
      row_fits c.deref.result.now.counts c.args.row,
    )

pub rows-preserved : goal.rows-preserved
rows-preserved c =
    let items = c.deref-layer-items.result.now in
    let before = content (take c.rows.layer-index (all_counts (values items))) in
    let here = c.deref.result.now.counts in
    let dims = seen_dims c.self.inside.layers.items items c.rows.layer-index c.layer-item.result c.deref.result.now _ _
    _ _ _ c.args.self.now c.deref-layer-items.ensures.value (omega arith) c.layer-item.is c.deref.ensures
    c.self.invariant.dims c.self.view_is in
    record {
      summed =
          ap (λ n. n + c.row_counts-sum.result) c.rows.invariant.summed
          ∙ ap (λ n. total (row_of before c.args.row) + n) c.row_counts-sum.ensures.value
          ∙ sym (ap (λ m. total (row_of m c.args.row))
          (sum_more items c.rows.layer-index c.layer-item.result c.deref.result.now (omega arith) c.layer-item.is
          c.deref.ensures) ∙ ap total (row_of-ewise_add before here c.args.row)
          ∙ total-ewise_add (row_of before c.args.row) (row_of here c.args.row));
      outside = λ h. omega (
        arith,
        c.rows.invariant.outside h,
        c.row_counts-sum.ensures.outside (omega (arith, dims.0, h)),
      );
    }

pub returns-clause-value : goal.returns-clause-value
returns-clause-value c =
    c.rows.invariant.summed ∙ ap (λ (m : Counts). total (row_of m c.args.row))
    (all_read c.self.inside.layers.items c.deref-layer-items.result.now c.rows.layer-index _ _ _ _
    c.deref-layer-items.ensures.value c.rows-test.false c.self.view_is)
