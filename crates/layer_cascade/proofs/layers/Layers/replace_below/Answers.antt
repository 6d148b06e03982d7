use Rattle.std.proofs.Common.{◌≡◌, ◌+◌, set, ap, sym, subst, ◌∙◌, arith}
use Rattle.std.specs.Arc.{arc_value, arc_slice_items}
use Rattle.hyper_matrix.specs.Matrix.{matrix}
use Rattle.layer_compaction.specs.Shared.{values, all_counts}
use Rattle.layer_cascade.specs.Layering.{Layering, layering}
use Rattle.layer_cascade.specs.Stored.{KeepsLayers, seen_layers, lowest}
use Rattle.layer_cascade.proofs.KeptLemmas.{lowest_at, exchanged}
use Rattle.layer_cascade.proofs.layers.Layers.replace_below.Goals as goal

same : (c : goal.After-self-1) → values (set c.self.inside.layers.items (c.len-place.result + 1) c.replace.new.dest) ≡
    values c.self.inside.layers.items
same c =
    let a = c.self.inside in
    exchanged a.layers.items (c.len-place.result + 1) c.replace.new.dest
    (matrix a.rows a.cols (lowest (all_counts (values a.layers.items))))
    (lowest_at a.rows a.cols (c.len-place.result + 1) (values a.layers.items) c.self.invariant.dims
    (omega (arith, c.self.invariant.count, c.len-place.ensures)))
    (ap arc_value c.replace.ensures.after ∙ c.requires
    ∙ sym (ap (λ (v : Layering). matrix v.rows v.cols v.below) c.self.view_is))

pub invariant_of-self : goal.invariant_of-self
invariant_of-self c =
    let a = c.self.inside in
    subst (λ l. KeepsLayers a.rows a.cols (arc_slice_items a.cuts) l (arc_value a.empty)) (sym (same c))
    c.self.invariant

pub returns : goal.returns
returns c =
    let a = c.self.inside in
    ap (λ l. layering a.rows a.cols (arc_slice_items a.cuts) (seen_layers (all_counts l)) (lowest (all_counts l)))
    (same c) ∙ c.self.view_is
