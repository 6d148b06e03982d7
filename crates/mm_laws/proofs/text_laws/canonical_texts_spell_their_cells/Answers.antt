use Rattle.mm_laws.proofs.CanonicalText.{canonical_spells, canonical_one}
use Rattle.mm_laws.proofs.text_laws.canonical_texts_spell_their_cells.Goals as goal

pub returns-clause-spells : goal.returns-clause-spells
returns-clause-spells c = canonical_spells

pub returns-clause-one_list : goal.returns-clause-one_list
returns-clause-one_list c = canonical_one
