use Rattle.std.proofs.Common.{◌+◌, take, ap, sym, ◌∙◌, arith}
use Rattle.hyper_matrix.specs.Counts.{total}
use Rattle.hyper_matrix.proofs.CountLaws.{total-empty}
use Rattle.layer_compaction.specs.Shared.{content, values, all_counts}
use Rattle.layer_compaction.proofs.LayerLemmas.{total_more, more_fits}
use Rattle.layer_cascade.proofs.KeptLemmas.{stored_fits, all_read}
use Rattle.layer_cascade.proofs.layers.Layers.total.Goals as goal

pub totals-init : goal.totals-init
totals-init c = sym total-empty

pub overflow_add-sum : goal.overflow_add-sum
overflow_add-sum c =
    let items = c.deref-layer-items.result.now in
    let more = more_fits items c.totals.layer-index c.layer-item.result c.deref.result.now (omega arith) c.layer-item.is
    c.deref.ensures in
    omega (
      arith,
      stored_fits _ _ _ _ _ c.self.invariant,
      c.totals.invariant,
      c.total-sum.ensures.value,
      more,
      ap (λ s. total (content (all_counts (values s)))) c.deref-layer-items.ensures.value,
    )

pub totals-preserved : goal.totals-preserved
totals-preserved c =
    let items = c.deref-layer-items.result.now in
    ap (λ n. n + c.total-sum.result) c.totals.invariant
    ∙ ap (λ n. total (content (take c.totals.layer-index (all_counts (values items)))) + n)
    c.total-sum.ensures.value ∙ sym (total_more items c.totals.layer-index c.layer-item.result c.deref.result.now
    (omega arith) c.layer-item.is c.deref.ensures)

pub returns-clause-value : goal.returns-clause-value
returns-clause-value c =
    c.totals.invariant ∙ ap total
    (all_read c.self.inside.layers.items c.deref-layer-items.result.now c.totals.layer-index _ _ _ _
    c.deref-layer-items.ensures.value c.totals-test.false c.self.view_is)
