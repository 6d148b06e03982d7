use Rattle.mm_laws.proofs.GrammarWords.{words_have, words_are}
use Rattle.mm_laws.proofs.grammar_laws.words_stand_between_blanks.Goals as goal

pub returns-clause-has : goal.returns-clause-has
returns-clause-has c = words_have

pub returns-clause-are : goal.returns-clause-are
returns-clause-are c = words_are
