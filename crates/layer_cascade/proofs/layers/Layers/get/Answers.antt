use Rattle.std.proofs.Common.{take, sym, ap, ◌∙◌, refl, inl, inr, arith}
use Rattle.std.specs.FinMap.{get, get-empty}
use Rattle.hyper_matrix.specs.Counts.{Place, Counts, place_cmp, plus, total}
use Rattle.hyper_matrix.proofs.CountLaws.{get-ewise_add}
use Rattle.std.specs.Prelude.{unwrap_or}
use Rattle.layer_compaction.specs.Shared.{content, values, all_counts}
use Rattle.layer_compaction.proofs.LayerLemmas.{sum_more, more_fits}
use Rattle.layer_cascade.proofs.KeptLemmas.{seen_dims, stored_fits, all_read}
use Rattle.layer_compaction.proofs.RowLemmas.{count_below}
use Rattle.layer_cascade.proofs.layers.Layers.get.Goals as goal

pub returns-clause-value : goal.returns-clause-value
returns-clause-value c =
    c.counts.invariant.found ∙ ap (λ (m : Counts). get m (c.args.row, c.args.col))
    (all_read c.self.inside.layers.items c.deref-layer-items.result.now c.counts.layer-index _ _ _ _
    c.deref-layer-items.ensures.value c.counts-test.false c.self.view_is)

pub counts-init : goal.counts-init
counts-init c = record {
  found = sym (get-empty place_cmp (c.args.row, c.args.col));
  outside = λ h. refl;
}

pub plus-count-requires : goal.plus-count-requires
plus-count-requires c =
    let items = c.deref-layer-items.result.now in
    let more = more_fits items c.counts.layer-index c.layer-item.result c.deref.result.now (omega arith) c.layer-item.is
    c.deref.ensures in
    omega (
      arith,
      stored_fits _ _ _ _ _ c.self.invariant,
      more,
      ap (λ s. total (content (all_counts (values s)))) c.deref-layer-items.ensures.value,
      ap (λ o. unwrap_or o 0) c.counts.invariant.found,
      ap (λ o. unwrap_or o 0) c.get.ensures.value,
      count_below (content (take c.counts.layer-index (all_counts (values items)))) (c.args.row, c.args.col),
      count_below c.deref.result.now.counts (c.args.row, c.args.col),
    )

pub counts-preserved : goal.counts-preserved
counts-preserved c =
    let items = c.deref-layer-items.result.now in
    let q : Place = (c.args.row, c.args.col) in
    let before = content (take c.counts.layer-index (all_counts (values items))) in
    let dims = seen_dims c.self.inside.layers.items items c.counts.layer-index c.layer-item.result c.deref.result.now _
    _ _ _ _ c.args.self.now c.deref-layer-items.ensures.value (omega arith) c.layer-item.is c.deref.ensures
    c.self.invariant.dims c.self.view_is in
    record {
      found =
          c.plus-count.ensures ∙ ap (λ o. plus o c.get.result) c.counts.invariant.found
          ∙ ap (plus (get before q)) c.get.ensures.value
          ∙ sym (ap (λ m. get m q) (sum_more items c.counts.layer-index c.layer-item.result c.deref.result.now
          (omega arith) c.layer-item.is c.deref.ensures) ∙ get-ewise_add before c.deref.result.now.counts q);
      outside = λ h.
          c.plus-count.ensures ∙ ap (λ o. plus o c.get.result) (c.counts.invariant.outside h)
          ∙ c.get.ensures.outside (elim h [
            | inl r ↦ inl (omega (arith, dims.0, r))
            | inr k ↦
                inr (omega (arith, dims.1, k))
          ]);
    }
