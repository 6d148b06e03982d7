use Rattle.std.proofs.Common.{◌∙◌, arith}
use Rattle.cells.proofs.SumLaws.{sum_at-permutation, cell_total-permutation, within_same}
use Rattle.cells.proofs.add_up.into_summed.Goals as goal

pub added_up-requires-clause-fits : goal.added_up-requires-clause-fits
added_up-requires-clause-fits c =
    omega (arith, cell_total-permutation _ _ c.into_sorted.ensures.permutation, c.requires.fits)

pub returns-clause-sums : goal.returns-clause-sums
returns-clause-sums c q = c.added_up.ensures.sums q ∙ sum_at-permutation q _ _ c.into_sorted.ensures.permutation

pub returns-clause-total : goal.returns-clause-total
returns-clause-total c = c.added_up.ensures.total ∙ cell_total-permutation _ _ c.into_sorted.ensures.permutation

pub returns-clause-within : goal.returns-clause-within
returns-clause-within c = within_same c.args.cells.items c.added_up.result.items
    (λ q. c.added_up.ensures.sums q ∙ sum_at-permutation q _ _ c.into_sorted.ensures.permutation)
