use Rattle.std.proofs.Common.{◌≡◌, IfOk, ap, subst, sym, ◌∙◌, arith}
use Rattle.hyper_matrix.specs.Counts.{total}
use Rattle.hyper_matrix.specs.Matrix.{Matrix, matrix}
use Rattle.layer_compaction.specs.Shared.{values, all_counts, HaveDims}
use Rattle.layer_cascade.specs.Cascade.{with_first, EndsAt}
use Rattle.layer_cascade.proofs.addition.cascade_end.Goals as goal

pub end_of_carried-requires-clause-dims : goal.end_of_carried-requires-clause-dims
end_of_carried-requires-clause-dims c = subst (λ (m : Matrix). HaveDims m.rows m.cols (values c.args.layers.now))
    (sym (c.in_ok-layer.ensures ∙ c.in_ok-copy.ensures)) c.requires.dims

pub end_of_carried-requires-clause-fits : goal.end_of_carried-requires-clause-fits
end_of_carried-requires-clause-fits c = omega (
  arith,
  c.requires.fits,
  ap (λ (m : Matrix). total m.counts) (c.in_ok-layer.ensures ∙ c.in_ok-copy.ensures),
)

pub returns-clause-place : goal.returns-clause-place
returns-clause-place c = subst (λ (m : Matrix). IfOk c.end_of_carried.result
    (λ s. EndsAt (all_counts (values c.args.layers.now)) c.args.cuts.now m.counts s.place))
    (c.in_ok-layer.ensures ∙ c.in_ok-copy.ensures) c.end_of_carried.ensures.place

pub returns-clause-sum : goal.returns-clause-sum
returns-clause-sum c = subst (λ (m : Matrix). IfOk c.end_of_carried.result
    (λ s. s.layer ≡ matrix m.rows m.cols (with_first (all_counts (values c.args.layers.now)) m.counts s.place)))
    (c.in_ok-layer.ensures ∙ c.in_ok-copy.ensures) c.end_of_carried.ensures.sum
