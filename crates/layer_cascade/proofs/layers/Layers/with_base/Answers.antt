use Rattle.std.proofs.Common.{◌≡◌, ◌+◌, ◌++◌, List, ◌∷◌, [], length, replicate, ap, ◌∙◌, arith}
use Rattle.std.specs.Arc.{arc_value}
use Rattle.std.specs.FinMap.{len}
use Rattle.hyper_matrix.specs.Counts.{total}
use Rattle.hyper_matrix.specs.Matrix.{Matrix}
use Rattle.layer_compaction.specs.Shared.{values}
use Rattle.layer_compaction.proofs.LayerLemmas.{pushed}
use Rattle.layer_cascade.proofs.KeptLemmas.{first_layers, keeps_first}
use Rattle.layer_cascade.proofs.layers.Layers.with_base.Goals as goal

-- the empty layers, and the base
made : (c : goal.In_ok-cuts) → values c.push.new.self.items ≡ replicate (length c.args.cuts.now + 1)
    (arc_value c.in_ok-empty.empty) ++ arc_value c.args.base ∷ []
made c = pushed _ _ _ c.in_ok-push.ensures.items
    ∙ ap (λ (l : List Matrix). l ++ arc_value c.args.base ∷ []) (c.in_ok-push_copies.ensures
    ∙ ap (λ s. values s ++ replicate (length c.args.cuts.now + 1) (arc_value c.in_ok-empty.empty))
    c.in_ok-layers.ensures.items)

pub invariant_of-result : goal.invariant_of-result
invariant_of-result c =
    keeps_first c.args.rows c.args.cols c.args.cuts.now _ _ _ (arc_value c.args.base) c.in_ok-cuts.ensures.ok
    (c.in_ok-empty.ensures.ok ∙ c.new.ensures) (made c) c.requires.rows c.requires.cols c.requires.cuts
    c.requires.base_rows c.requires.base_cols
    (omega (arith, c.total-total.ensures.fits, ap (λ (m : Matrix). total m.counts) c.deref.ensures))
    (omega (arith, c.most_entries-most.ensures, ap (λ (m : Matrix). len m.counts) c.deref-2.ensures))

pub returns : goal.returns
returns c =
    first_layers c.args.rows c.args.cols c.args.cuts.now _ _ (arc_value c.in_ok-empty.empty) (arc_value c.args.base)
    c.in_ok-cuts.ensures.ok (c.in_ok-empty.ensures.ok ∙ c.new.ensures) (made c)
