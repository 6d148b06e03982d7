use Rattle.std.proofs.Common.{◌+◌, ◌%◌, ◌^◌, ap, arith}
use Rattle.mm_text.proofs.EightLemmas.{digits_below, begins_with_eight}
use Rattle.mm_text.proofs.plain.eight_digits.Goals as goal

pub eight_value-requires : goal.eight_value-requires
eight_value-requires c = digits_below ((c.from_le_bytes-digits.result + 14974415777481871312) % 2 ^ 64) (omega arith)
    c.if-digits-ne0.false

pub returns : goal.returns
returns c =
    let below = digits_below ((c.from_le_bytes-digits.result + 14974415777481871312) % 2 ^ 64) (omega arith)
    c.if-digits-ne0.false in
    let parts = c.in_ok-front.ensures.cases in
    begins_with_eight c.args.bytes.now c.in_ok-front.front.now c.in_ok-front.rest.now
    ((c.from_le_bytes-digits.result + 14974415777481871312) % 2 ^ 64) c.eight_value.result
    parts.0 parts.1 parts.2 c.type_inv.bytes (ap (λ n. (n + 14974415777481871312) % 2 ^ 64)
    c.from_le_bytes-digits.ensures) below c.eight_value.ensures
