use Rattle.std.proofs.Common.{arith, sym, ◌∙◌, get_or}
use Rattle.std.proofs.lemmas.List.{take_rest}
use Rattle.mm_text.proofs.NumberLemmas.{digit_is}
use Rattle.mm_text.proofs.DigitLemmas.{one_digit}
use Rattle.mm_text.proofs.plain.count_number.Goals as goal

pub returns : goal.returns
returns c =
    let digit = sym c.is_ascii_digit.ensures.value ∙ c.if-not-is_ascii_digit.false in
    let x = digit_is (get_or c.args.bytes.now 0 0) digit in
    let e = c.from.ensures in
    one_digit c.args.bytes.now _ _ digit (omega arith) (omega (arith, x.0, e)) (take_rest c.args.bytes.now 1)
