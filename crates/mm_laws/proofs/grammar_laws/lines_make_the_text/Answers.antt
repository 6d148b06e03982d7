use Rattle.mm_laws.proofs.TextCuts.{lines_joined, joined_whole, joined_partial}
use Rattle.mm_laws.proofs.grammar_laws.lines_make_the_text.Goals as goal

pub returns-clause-joined : goal.returns-clause-joined
returns-clause-joined c = λ text. let l = lines_joined text in (l.1, l.0)

pub returns-clause-whole : goal.returns-clause-whole
returns-clause-whole c = joined_whole

pub returns-clause-partial : goal.returns-clause-partial
returns-clause-partial c = joined_partial
