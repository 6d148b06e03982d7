use Rattle.mm_text.proofs.LastLemmas.{HasTaken}
use Rattle.mm_text.proofs.plain.last_digits.Given as goal

abbrev pub invariant-loop-byte : goal.invariant-loop-byte
invariant-loop-byte l = HasTaken l.fn.value l.front l.byte-index l.value l.count l.goes_on
