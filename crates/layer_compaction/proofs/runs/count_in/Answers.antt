use Rattle.std.proofs.Common.{take, sym, ap, ◌∙◌, refl, inl, inr, arith}
use Rattle.std.specs.FinMap.{get, get-empty}
use Rattle.hyper_matrix.specs.Counts.{Place, place_cmp, plus}
use Rattle.hyper_matrix.proofs.CountLaws.{get-ewise_add}
use Rattle.std.specs.Prelude.{unwrap_or}
use Rattle.layer_compaction.specs.Shared.{content, values, all_counts}
use Rattle.layer_compaction.proofs.LayerLemmas.{sum_more, more_fits, layer_dims}
use Rattle.layer_compaction.proofs.RowLemmas.{count_below}
use Rattle.layer_compaction.proofs.runs.count_in.Goals as goal

pub counts-init : goal.counts-init
counts-init c = record {
  found = sym (get-empty place_cmp (c.args.row, c.args.col));
  outside = λ rows cols dims h. refl;
}

pub plus-count-requires : goal.plus-count-requires
plus-count-requires c =
    let runs = c.args.runs.now in
    omega (
      arith,
      c.requires,
      more_fits runs c.counts.run-index c.run-item.result c.deref.result.now (omega arith) c.run-item.is
          c.deref.ensures,
      ap (λ o. unwrap_or o 0) c.counts.invariant.found,
      ap (λ o. unwrap_or o 0) c.get.ensures.value,
      count_below (content (take c.counts.run-index (all_counts (values runs)))) (c.args.row, c.args.col),
      count_below c.deref.result.now.counts (c.args.row, c.args.col),
    )

pub counts-preserved : goal.counts-preserved
counts-preserved c =
    let runs = c.args.runs.now in
    let q : Place = (c.args.row, c.args.col) in
    let before = content (take c.counts.run-index (all_counts (values runs))) in
    record {
      found =
          c.plus-count.ensures ∙ ap (λ o. plus o c.get.result) c.counts.invariant.found
          ∙ ap (plus (get before q)) c.get.ensures.value
          ∙ sym (ap (λ m. get m q) (sum_more runs c.counts.run-index c.run-item.result c.deref.result.now
          (omega arith) c.run-item.is c.deref.ensures) ∙ get-ewise_add before c.deref.result.now.counts q);
      outside = λ rows cols have h.
          let dims = layer_dims runs c.counts.run-index c.run-item.result c.deref.result.now (omega arith)
          c.run-item.is c.deref.ensures rows cols have in
          c.plus-count.ensures ∙ ap (λ o. plus o c.get.result) (c.counts.invariant.outside rows cols have h)
          ∙ c.get.ensures.outside (elim h [
            | inl r ↦ inl (omega (arith, dims.0, r))
            | inr k ↦
                inr (omega (arith, dims.1, k))
          ]);
    }
