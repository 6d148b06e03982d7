use Rattle.std.proofs.Common.{take, ap, sym, ◌∙◌, arith}
use Rattle.hyper_matrix.specs.Counts.{total}
use Rattle.hyper_matrix.specs.Matrix.{Matrix, matrix}
use Rattle.layer_compaction.specs.Shared.{content, values, all_counts}
use Rattle.layer_compaction.proofs.LayerLemmas.{layer_dims, sum_more, more_fits, sum_at}
use Rattle.layer_cascade.proofs.below.side_by_side.Goals as goal

pub over-requires-clause-rows : goal.over-requires-clause-rows
over-requires-clause-rows c = ap (λ (m : Matrix). m.rows) c.layers.invariant
    ∙ sym (layer_dims c.args.layers.now c.layers.layer-index c.layer-item.result c.deref.result.now (omega arith)
    c.layer-item.is c.deref.ensures c.args.rows c.args.cols c.requires.dims).0

pub over-requires-clause-cols : goal.over-requires-clause-cols
over-requires-clause-cols c = ap (λ (m : Matrix). m.cols) c.layers.invariant
    ∙ sym (layer_dims c.args.layers.now c.layers.layer-index c.layer-item.result c.deref.result.now (omega arith)
    c.layer-item.is c.deref.ensures c.args.rows c.args.cols c.requires.dims).1

pub over-requires-clause-fits : goal.over-requires-clause-fits
over-requires-clause-fits c =
    omega (
      arith,
      c.requires.fits,
      ap (λ (m : Matrix). total m.counts) c.layers.invariant,
      more_fits c.args.layers.now c.layers.layer-index c.layer-item.result c.deref.result.now (omega arith)
          c.layer-item.is c.deref.ensures,
    )

pub layers-preserved : goal.layers-preserved
layers-preserved c =
    sum_at _ _ (matrix c.args.rows c.args.cols
    (content (take c.layers.layer-index (all_counts (values c.args.layers.now))))) _ _ c.in_ok-all.ensures
    c.layers.invariant
    (sum_more c.args.layers.now c.layers.layer-index c.layer-item.result c.deref.result.now (omega arith)
    c.layer-item.is c.deref.ensures)
