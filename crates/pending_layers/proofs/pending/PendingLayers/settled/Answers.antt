use Rattle.std.proofs.Common.{length, refl, ap, sym, subst, ◌∙◌, arith}
use Rattle.cells.specs.Bounds.{AreWithin}
use Rattle.hyper_matrix.specs.Cells.{cell_total}
use Rattle.hyper_matrix.specs.Counts.{ewise_add, total}
use Rattle.hyper_matrix.proofs.BuiltOfLaws.{built_of-same, total-built_of}
use Rattle.layer_compaction.specs.Shared.{content}
use Rattle.pending_layers.proofs.PendingLemmas.{same_matrix, keeps_same, all_added}
use Rattle.pending_layers.proofs.pending.PendingLayers.settled.Goals as goal

pub invariant_of-result : goal.invariant_of-result
invariant_of-result c =
    keeps_same c.self.inside.layers c.self.inside.layers c.self.inside.pending.items c.into_summed-pending.result.items refl
    refl (ap (ewise_add (content c.self.inside.layers.layers)) (built_of-same _ _ c.into_summed-pending.ensures.sums)) _
    c.self.invariant
    (c.into_summed-pending.ensures.within c.self.inside.layers.rows c.self.inside.layers.cols c.self.invariant.within)

pub returns-then-len-self : goal.returns-then-len-self
returns-then-len-self c =
    same_matrix c.self.inside.layers c.self.inside.layers c.self.inside.pending.items c.into_summed-pending.result.items refl
    refl (ap (ewise_add (content c.self.inside.layers.layers)) (built_of-same _ _ c.into_summed-pending.ensures.sums))
    ∙ c.self.view_is

pub with_places-requires-clause-within : goal.with_places-requires-clause-within
with_places-requires-clause-within c =
    subst (AreWithin c.self.inside.layers.rows c.self.inside.layers.cols) (sym c.deref.ensures.value)
    (c.into_summed-pending.ensures.within c.self.inside.layers.rows c.self.inside.layers.cols c.self.invariant.within)

pub with_places-requires-clause-fits : goal.with_places-requires-clause-fits
with_places-requires-clause-fits c = omega (
  arith,
  c.self.invariant.fits,
  c.self.invariant.total_is,
  ap cell_total c.deref.ensures.value,
  ap total (built_of-same _ _ c.into_summed-pending.ensures.sums),
  total-built_of c.into_summed-pending.result.items,
  total-built_of c.self.inside.pending.items,
)

pub invariant_of-result-2 : goal.invariant_of-result-2
invariant_of-result-2 c =
    keeps_same c.self.inside.layers c.in_ok-layers.layers c.self.inside.pending.items c.clear.new.self.items
    c.in_ok-layers.ensures.dims.0 c.in_ok-layers.ensures.dims.1
    (all_added c.self.inside.layers c.in_ok-layers.layers c.self.inside.pending.items c.into_summed-pending.result.items _
    c.clear.new.self.items (built_of-same _ _ c.into_summed-pending.ensures.sums) c.deref.ensures.value c.in_ok-layers.ensures.sum
    (ap length c.clear.ensures.items)) _ c.self.invariant
    (λ k d h. absurd (omega (arith, h, ap length c.clear.ensures.items)))

pub returns : goal.returns
returns c =
    same_matrix c.self.inside.layers c.in_ok-layers.layers c.self.inside.pending.items c.clear.new.self.items
    c.in_ok-layers.ensures.dims.0 c.in_ok-layers.ensures.dims.1
    (all_added c.self.inside.layers c.in_ok-layers.layers c.self.inside.pending.items c.into_summed-pending.result.items _
    c.clear.new.self.items (built_of-same _ _ c.into_summed-pending.ensures.sums) c.deref.ensures.value c.in_ok-layers.ensures.sum
    (ap length c.clear.ensures.items))
    ∙ c.self.view_is
