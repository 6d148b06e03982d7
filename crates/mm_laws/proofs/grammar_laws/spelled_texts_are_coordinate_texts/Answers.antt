use Rattle.mm_laws.proofs.GrammarTexts.{spelled_is, is_spelled}
use Rattle.mm_laws.proofs.grammar_laws.spelled_texts_are_coordinate_texts.Goals as goal

pub returns-clause-is : goal.returns-clause-is
returns-clause-is c = spelled_is

pub returns-clause-spells : goal.returns-clause-spells
returns-clause-spells c = is_spelled
