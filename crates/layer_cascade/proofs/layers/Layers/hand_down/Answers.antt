use Rattle.std.proofs.Common.{◌≡◌, ap, sym, ◌∙◌, arith}
use Rattle.std.specs.Arc.{arc_value, arc_slice_items}
use Rattle.hyper_matrix.specs.Counts.{total}
use Rattle.hyper_matrix.specs.Matrix.{Matrix, matrix}
use Rattle.layer_compaction.specs.Shared.{content, values, all_counts}
use Rattle.layer_cascade.specs.Layering.{Layering, layers_on}
use Rattle.layer_cascade.proofs.KeptLemmas.{stored_fits, content-seen}
use Rattle.layer_cascade.proofs.layers.Layers.hand_down.Goals as goal

pub side_by_side-requires-clause-fits : goal.side_by_side-requires-clause-fits
side_by_side-requires-clause-fits c = omega (
  arith,
  stored_fits _ _ _ _ _ c.self.invariant,
  ap (λ l. total (content (all_counts (values l)))) c.deref.ensures.value,
)

-- all that was stored, as contracts see it
below : (c : goal.After-drop-self-inside-3) → arc_value c.in_ok-below.below ≡ matrix c.args.self.now.rows
    c.args.self.now.cols (content c.args.self.now.layers)
below c = c.in_ok-below.ensures.ok ∙ c.in_ok-all.ensures
    ∙ ap (λ l. matrix c.self.inside.rows c.self.inside.cols (content (all_counts (values l)))) c.deref.ensures.value
    ∙ ap (matrix c.self.inside.rows c.self.inside.cols)
    (sym (content-seen (all_counts (values c.self.inside.layers.items))))
    ∙ ap (λ (v : Layering). matrix v.rows v.cols (content v.layers)) c.self.view_is

pub returns-clause-handed : goal.returns-clause-handed
returns-clause-handed c =
    c.drop.view_is ∙ c.in_ok-layers.ensures
    ∙ ap (λ k. layers_on c.self.inside.rows c.self.inside.cols k (arc_value c.in_ok-below.below).counts)
    c.deref-2.ensures.value
    ∙ ap (λ (m : Matrix). layers_on c.self.inside.rows c.self.inside.cols (arc_slice_items c.self.inside.cuts) m.counts)
    (below c)
    ∙ ap (λ (v : Layering). layers_on v.rows v.cols v.cuts (content c.args.self.now.layers)) c.self.view_is

pub returns-clause-below : goal.returns-clause-below
returns-clause-below c = c.in_ok-shared.ensures ∙ below c
