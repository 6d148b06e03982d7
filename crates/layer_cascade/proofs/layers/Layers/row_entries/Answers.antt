use Rattle.std.proofs.Common.{◌≡◌, ℕ, ◌-◌, drop, ap, sym, ◌∙◌, arith, refl}
use Rattle.std.specs.FinMap.{len}
use Rattle.hyper_matrix.specs.Counts.{Counts}
use Rattle.hyper_matrix.specs.RowOf.{row_of}
use Rattle.layer_compaction.specs.Shared.{content, values, all_counts}
use Rattle.layer_cascade.specs.Layering.{Layering}
use Rattle.layer_cascade.proofs.KeptLemmas.{seen_dims, content-seen}
use Rattle.layer_cascade.proofs.RowEntryLemmas.{none_behind, found_deeper, found_there}
use Rattle.layer_cascade.proofs.layers.Layers.row_entries.Goals as goal

pub layers-init : goal.layers-init
layers-init c = record {
  columns = none_behind c.as_slice-layers.result.now _ c.args.self.now.rows c.args.row refl;
  place = omega arith;
}

rows : (c : goal.After-deref) → c.deref.result.now.rows ≡ c.args.self.now.rows
rows c = (seen_dims c.self.inside.layers.items c.as_slice-layers.result.now (c.layers.place - 1)
    c.index-layers-place.result c.deref.result.now _ _ _ _ _ c.args.self.now c.as_slice-layers.ensures.value
    (omega (arith, c.layers-test.true, c.layers.invariant.place)) c.index-layers-place.is c.deref.ensures
    c.self.invariant.dims c.self.view_is).0

pub columns_with_layer-entries-requires : goal.columns_with_layer-entries-requires
columns_with_layer-entries-requires c =
    found_deeper c.as_slice-layers.result.now c.layers.place c.index-layers-place.result c.deref.result.now
    c.layers-test.true c.layers.invariant.place c.index-layers-place.is c.deref.ensures c.args.self.now.rows c.args.row
    (rows c) c.layers.entries c.layers.invariant.columns

pub layers-preserved : goal.layers-preserved
layers-preserved c = record {
  columns = found_there c.as_slice-layers.result.now c.layers.place c.index-layers-place.result c.deref.result.now
      c.layers-test.true c.layers.invariant.place c.index-layers-place.is c.deref.ensures c.args.self.now.rows c.args.row
      (seen_dims c.self.inside.layers.items c.as_slice-layers.result.now (c.layers.place - 1)
      c.index-layers-place.result c.deref.result.now _ _ _ _ _ c.args.self.now c.as_slice-layers.ensures.value
      (omega (arith, c.layers-test.true, c.layers.invariant.place)) c.index-layers-place.is c.deref.ensures
      c.self.invariant.dims c.self.view_is).0 c.columns_with_layer-entries.result c.columns_with_layer-entries.ensures;
  place = omega (arith, c.layers.invariant.place);
}

pub returns-clause-value : goal.returns-clause-value
returns-clause-value c =
    let items = c.as_slice-layers.result.now in
    c.layers.invariant.columns.counted
    ∙ ap (λ (k : ℕ). len (row_of (content (all_counts (values (drop k items)))) c.args.row)) {x = c.layers.place} {y = 0}
    (omega (arith, c.layers-test.false))
    ∙ ap (λ s. len (row_of (content (all_counts (values s))) c.args.row)) c.as_slice-layers.ensures.value
    ∙ ap (λ (m : Counts). len (row_of m c.args.row))
    (sym (content-seen (all_counts (values c.self.inside.layers.items)))
    ∙ ap (λ (v : Layering). content v.layers) c.self.view_is)
