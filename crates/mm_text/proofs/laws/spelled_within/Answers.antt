use Rattle.mm_text.proofs.BoundLemmas.{spells_bounds}
use Rattle.mm_text.proofs.laws.spelled_within.Goals as goal

pub returns : goal.returns
returns c = spells_bounds
