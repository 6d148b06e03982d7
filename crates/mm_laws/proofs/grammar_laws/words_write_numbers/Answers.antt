use Rattle.mm_laws.proofs.GrammarNumbers.{number_writes, writes_number}
use Rattle.mm_laws.proofs.grammar_laws.words_write_numbers.Goals as goal

pub returns-clause-writes : goal.returns-clause-writes
returns-clause-writes c = number_writes

pub returns-clause-taken : goal.returns-clause-taken
returns-clause-taken c = writes_number
