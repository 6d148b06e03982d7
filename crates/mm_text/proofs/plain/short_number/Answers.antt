use Rattle.mm_text.proofs.DigitLemmas.{digits_alone}
use Rattle.mm_text.proofs.plain.short_number.Goals as goal

pub returns : goal.returns
returns c = digits_alone c.args.bytes.now _ _ c.more_digits.ensures
