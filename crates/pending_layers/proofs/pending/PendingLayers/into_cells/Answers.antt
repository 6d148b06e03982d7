use Rattle.std.proofs.Common.{ap, subst, ◌∙◌, arith}
use Rattle.hyper_matrix.specs.Cells.{built_of}
use Rattle.hyper_matrix.specs.Counts.{ewise_add, total}
use Rattle.hyper_matrix.specs.Matrix.{Matrix}
use Rattle.hyper_matrix.proofs.BuiltOfLaws.{built_of-same, total-built_of}
use Rattle.hyper_matrix.proofs.CountLaws.{ewise_add_comm, total-ewise_add}
use Rattle.cells.specs.Bounds.{AreWithin}
use Rattle.layer_compaction.specs.Shared.{content}
use Rattle.pending_layers.proofs.PendingLemmas.{total_fits}
use Rattle.pending_layers.proofs.pending.PendingLayers.into_cells.Goals as goal

pub returns-in_err-push_cells-clause-fits : goal.returns-in_err-push_cells-clause-fits
returns-in_err-push_cells-clause-fits c = total_fits _ _ _ c.args.self c.self.invariant c.self.view_is

pub returns-then-rises-clause-within : goal.returns-then-rises-clause-within
returns-then-rises-clause-within c =
    subst (λ (m : Matrix). AreWithin m.rows m.cols c.push_cells.new.out.items) c.self.view_is
    (c.in_ok-push_cells.ensures.within
    (c.into_summed-cells.ensures.within c.self.inside.layers.rows c.self.inside.layers.cols c.self.invariant.within))

pub returns-then-rises-clause-sum : goal.returns-then-rises-clause-sum
returns-then-rises-clause-sum c =
    c.in_ok-push_cells.ensures.sum
    ∙ ap (λ m. ewise_add m (content c.self.inside.layers.layers)) (built_of-same _ _ c.into_summed-cells.ensures.sums)
    ∙ ewise_add_comm (built_of c.self.inside.pending.items) (content c.self.inside.layers.layers)
    ∙ ap (λ (m : Matrix). m.counts) c.self.view_is

pub returns-then-rises-clause-fits : goal.returns-then-rises-clause-fits
returns-then-rises-clause-fits c = total_fits _ _ _ c.args.self c.self.invariant c.self.view_is

pub merged-requires : goal.merged-requires
merged-requires c =
    let layers = content c.self.inside.layers.layers in
    omega (
      arith,
      c.self.invariant.fits,
      c.self.invariant.total_is,
      ap total c.in_ok-push_cells.ensures.sum,
      ap total (built_of-same _ _ c.into_summed-cells.ensures.sums),
      total-built_of c.push_cells.new.out.items,
      total-built_of c.self.inside.pending.items,
      total-ewise_add (built_of c.into_summed-cells.result.items) layers,
    )

pub returns-in_err-list-clause-fits : goal.returns-in_err-list-clause-fits
returns-in_err-list-clause-fits c = total_fits _ _ _ c.args.self c.self.invariant c.self.view_is

pub returns-clause-within : goal.returns-clause-within
returns-clause-within c =
    subst (λ (m : Matrix). AreWithin m.rows m.cols c.in_ok-list.list.items) c.self.view_is
    (c.in_ok-list.ensures.within c.self.inside.layers.rows c.self.inside.layers.cols
    (c.in_ok-push_cells.ensures.within
    (c.into_summed-cells.ensures.within c.self.inside.layers.rows c.self.inside.layers.cols c.self.invariant.within)))

pub returns-clause-sum : goal.returns-clause-sum
returns-clause-sum c =
    c.in_ok-list.ensures.sums ∙ c.in_ok-push_cells.ensures.sum
    ∙ ap (λ m. ewise_add m (content c.self.inside.layers.layers)) (built_of-same _ _ c.into_summed-cells.ensures.sums)
    ∙ ewise_add_comm (built_of c.self.inside.pending.items) (content c.self.inside.layers.layers)
    ∙ ap (λ (m : Matrix). m.counts) c.self.view_is

pub returns-clause-fits : goal.returns-clause-fits
returns-clause-fits c = total_fits _ _ _ c.args.self c.self.invariant c.self.view_is
