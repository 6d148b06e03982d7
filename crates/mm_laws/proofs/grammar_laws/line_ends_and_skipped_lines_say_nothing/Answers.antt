use Rattle.mm_laws.proofs.SameCells.{spells_lines, returns_more, returns_less, skipped_more, skipped_less}
use Rattle.mm_laws.proofs.grammar_laws.line_ends_and_skipped_lines_say_nothing.Goals as goal

pub returns-clause-last : goal.returns-clause-last
returns-clause-last c = spells_lines

pub returns-clause-returns : goal.returns-clause-returns
returns-clause-returns c = λ text text' limits rows cols cells plain is fits fits'. (
  returns_more text text' limits rows cols cells plain is fits',
  returns_less text text' limits rows cols cells plain is fits,
)

pub returns-clause-skipped : goal.returns-clause-skipped
returns-clause-skipped c =
    λ text text' limits rows cols cells first before after line is is' skipped short fits fits'. (
      skipped_more text text' limits rows cols cells first before after line is is' skipped short fits',
      skipped_less text text' limits rows cols cells first before after line is is' skipped fits,
    )
