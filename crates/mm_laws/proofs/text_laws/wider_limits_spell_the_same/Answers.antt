use Rattle.mm_laws.proofs.GrammarTexts.{spelled_wider}
use Rattle.mm_laws.proofs.text_laws.wider_limits_spell_the_same.Goals as goal

pub returns : goal.returns
returns c = spelled_wider
