use Rattle.mm_laws.proofs.SpellsFacts.{spells_bounds, spells_counts}
use Rattle.mm_laws.proofs.text_laws.spelled_cells_are_within.Goals as goal

pub returns : goal.returns
returns c = λ text limits rows cols cells s.
    let b = spells_bounds text limits rows cols cells s in
    (b.0, b.1, b.2, spells_counts text limits rows cols cells s)
