use Rattle.std.proofs.Common.{take, sym, ap, ◌∙◌, subst, arith}
use Rattle.hyper_matrix.specs.Counts.{ewise_add}
use Rattle.hyper_matrix.proofs.CountLaws.{ewise_add_assoc, ewise_add-empty}
use Rattle.merged_cells.specs.Within.{LieWithin}
use Rattle.layer_compaction.specs.Shared.{content, values, all_counts}
use Rattle.layer_compaction.proofs.LayerLemmas.{sum_more}
use Rattle.layer_cascade.proofs.KeptLemmas.{seen_dims, all_read}
use Rattle.layer_cascade.proofs.layers.Layers.add_to.Goals as goal

pub layers-init : goal.layers-init
layers-init c = record {
  told = sym (ewise_add-empty c.args.sources.now);
  within = λ all. all;
}

pub layers-preserved : goal.layers-preserved
layers-preserved c =
    let items = c.deref-layer-items.result.now in
    let here = c.deref.result.now in
    let before = c.args.sources.now in
    let done = content (take c.layers.layer-index (all_counts (values items))) in
    let old = c.layers.sources in
    let new = c.add_to.new.sources in
    let dims = seen_dims c.self.inside.layers.items items c.layers.layer-index c.layer-item.result here _ _ _ _ _ _
    c.deref-layer-items.ensures.value (omega arith) c.layer-item.is c.deref.ensures c.self.invariant.dims
    c.self.view_is in
    record {
      told = c.in_ok-add_to.ensures.sum
          ∙ ap (λ b. ewise_add b here.counts) c.layers.invariant.told
          ∙ ewise_add_assoc before done here.counts
          ∙ ap (ewise_add before)
          (sym (sum_more items c.layers.layer-index c.layer-item.result here (omega arith) c.layer-item.is
          c.deref.ensures));
      within = λ all.
          subst (λ n. LieWithin n c.args.self.now.cols new) dims.0
          (subst (λ n. LieWithin here.rows n new) dims.1
          (c.in_ok-add_to.ensures.within
          (subst (λ n. LieWithin here.rows n old) (sym dims.1)
          (subst (λ n. LieWithin n c.args.self.now.cols old) (sym dims.0) (c.layers.invariant.within all)))));
    }

pub returns-clause-sum : goal.returns-clause-sum
returns-clause-sum c =
    c.layers.invariant.told ∙ ap (ewise_add c.args.sources.now)
    (all_read c.self.inside.layers.items c.deref-layer-items.result.now c.layers.layer-index _ _ _ _
    c.deref-layer-items.ensures.value c.layers-test.false c.self.view_is)
