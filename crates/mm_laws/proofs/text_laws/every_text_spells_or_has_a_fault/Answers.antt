use Rattle.mm_laws.proofs.EveryText.{spells_or_faulty}
use Rattle.mm_laws.proofs.text_laws.every_text_spells_or_has_a_fault.Goals as goal

pub returns : goal.returns
returns c = spells_or_faulty
