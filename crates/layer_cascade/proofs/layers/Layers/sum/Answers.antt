use Rattle.std.proofs.Common.{◌≡◌, take, ap, sym, ◌∙◌, arith}
use Rattle.hyper_matrix.specs.Counts.{total}
use Rattle.hyper_matrix.specs.Matrix.{Matrix, matrix}
use Rattle.layer_compaction.specs.Shared.{content, values, all_counts}
use Rattle.layer_compaction.proofs.LayerLemmas.{sum_more, more_fits, sum_at}
use Rattle.layer_cascade.proofs.KeptLemmas.{seen_dims, stored_fits, all_read}
use Rattle.layer_cascade.proofs.layers.Layers.sum.Goals as goal

dims : (c : goal.After-deref) → (c.deref.result.now.rows ≡ c.args.self.now.rows)
    × (c.deref.result.now.cols ≡ c.args.self.now.cols)
dims c = seen_dims c.self.inside.layers.items c.deref-layer-items.result.now c.layers.layer-index c.layer-item.result
    c.deref.result.now _ _ _ _ _ c.args.self.now c.deref-layer-items.ensures.value (omega arith) c.layer-item.is
    c.deref.ensures c.self.invariant.dims c.self.view_is

pub added-requires-clause-rows : goal.added-requires-clause-rows
added-requires-clause-rows c = ap (λ (m : Matrix). m.rows) c.layers.invariant ∙ sym (dims c).0

pub added-requires-clause-cols : goal.added-requires-clause-cols
added-requires-clause-cols c = ap (λ (m : Matrix). m.cols) c.layers.invariant ∙ sym (dims c).1

pub added-requires-clause-fits : goal.added-requires-clause-fits
added-requires-clause-fits c =
    let items = c.deref-layer-items.result.now in
    let more = more_fits items c.layers.layer-index c.layer-item.result c.deref.result.now (omega arith) c.layer-item.is
    c.deref.ensures in
    omega (
      arith,
      stored_fits _ _ _ _ _ c.self.invariant,
      ap (λ (m : Matrix). total m.counts) c.layers.invariant,
      more,
      ap (λ s. total (content (all_counts (values s)))) c.deref-layer-items.ensures.value,
    )

pub layers-preserved : goal.layers-preserved
layers-preserved c =
    let items = c.deref-layer-items.result.now in
    sum_at _ _ (matrix c.args.self.now.rows c.args.self.now.cols
    (content (take c.layers.layer-index (all_counts (values items))))) _ _ c.in_ok-sum.ensures c.layers.invariant
    (sum_more items c.layers.layer-index c.layer-item.result c.deref.result.now (omega arith) c.layer-item.is
    c.deref.ensures)

pub returns-clause-sum : goal.returns-clause-sum
returns-clause-sum c =
    c.layers.invariant ∙ ap (matrix c.args.self.now.rows c.args.self.now.cols)
    (all_read c.self.inside.layers.items c.deref-layer-items.result.now c.layers.layer-index _ _ _ _
    c.deref-layer-items.ensures.value c.layers-test.false c.self.view_is)
