use Rattle.std.proofs.Common.{ap, ◌∙◌, ◌≡◌, take, arith}
use Rattle.std.proofs.lemmas.Grind.{common_steps}
use Rattle.cells.specs.Sums.{cell_total, sum_at}
use Rattle.cells.proofs.add_up.added_up.Goals as goal

pub add_up-places-requires-clause-fits : goal.add_up-places-requires-clause-fits
add_up-places-requires-clause-fits c = omega (arith, ap cell_total c.deref_mut.ensures.value, c.requires.fits)

kept : (c : goal.After-truncate) → c.truncate.new.self.items ≡ take c.add_up-places.result c.add_up-places.new.cells
kept c = grind (arith, common_steps)

pub returns-clause-sums : goal.returns-clause-sums
returns-clause-sums c q =
    ap (sum_at q) (kept c) ∙ c.add_up-places.ensures.sums q ∙ ap (sum_at q) c.deref_mut.ensures.value

pub returns-clause-total : goal.returns-clause-total
returns-clause-total c =
    ap cell_total (kept c) ∙ c.add_up-places.ensures.total ∙ ap cell_total c.deref_mut.ensures.value
