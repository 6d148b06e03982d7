use Rattle.std.proofs.Common.{arith}
use Rattle.mm_text.proofs.DigitLemmas.{eight_less, eight_more, digits_alone}
use Rattle.mm_text.proofs.plain.plain_number.Goals as goal

pub more_digits-requires : goal.more_digits-requires
more_digits-requires c = let h = eight_less _ _ _ c.in-Some.ensures in omega (arith, h)

pub returns-in_default-eight_digits : goal.returns-in_default-eight_digits
returns-in_default-eight_digits c =
    digits_alone c.args.bytes.now _ _ (eight_more 11 0 c.in-Some.high c.args.bytes.now _ _ c.in-Some.high _
    c.in-Some.ensures (omega arith) c.more_digits.ensures)

pub overflow_mul-high : goal.overflow_mul-high
overflow_mul-high c = let h = eight_less _ _ _ c.in-Some.ensures in omega (arith, h)

pub overflow_add-high : goal.overflow_add-high
overflow_add-high c =
    let h = eight_less _ _ _ c.in-Some.ensures in
    let l = eight_less _ _ _ c.in-Some-eight_digits.ensures in
    omega (arith, h, l)

pub last_digits-requires : goal.last_digits-requires
last_digits-requires c =
    let h = eight_less _ _ _ c.in-Some.ensures in
    let l = eight_less _ _ _ c.in-Some-eight_digits.ensures in
    omega (arith, h, l)

pub returns : goal.returns
returns c =
    let low = eight_more 3 c.in-Some.high _ c.in-Some.rest.now _ _ c.in-Some-eight_digits.low _
    c.in-Some-eight_digits.ensures (omega arith) c.last_digits.ensures in
    digits_alone c.args.bytes.now _ _ (eight_more 11 0 c.in-Some.high c.args.bytes.now _ _ c.in-Some.high _
    c.in-Some.ensures (omega arith) low)
