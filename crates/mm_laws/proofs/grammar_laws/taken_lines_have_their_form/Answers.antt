use Rattle.mm_laws.proofs.GrammarBanner.{banner_is, banner_says}
use Rattle.mm_laws.proofs.GrammarLines.{entry_line_is, entry_line_says, size_line_is, size_line_says}
use Rattle.mm_laws.proofs.grammar_laws.taken_lines_have_their_form.Goals as goal

pub returns-clause-banner : goal.returns-clause-banner
returns-clause-banner c = banner_is

pub returns-clause-banner_taken : goal.returns-clause-banner_taken
returns-clause-banner_taken c = banner_says

pub returns-clause-size : goal.returns-clause-size
returns-clause-size c = size_line_is

pub returns-clause-size_taken : goal.returns-clause-size_taken
returns-clause-size_taken c = size_line_says

pub returns-clause-entry : goal.returns-clause-entry
returns-clause-entry c = entry_line_is

pub returns-clause-entry_taken : goal.returns-clause-entry_taken
returns-clause-entry_taken c = entry_line_says
