use Rattle.std.proofs.Common.{◌≤◌, length, take, arith, sym, ◌∙◌, length-take, rules}
use Rattle.mm_text.proofs.DigitLemmas.{digits_more, more_digit}
use Rattle.mm_text.proofs.plain.more_digits.Goals as goal

pub overflow_mul-value : goal.overflow_mul-value
overflow_mul-value c =
    let most : c.min.result ≤ c.args.most = search rules in
    let few : length (take c.min.result c.args.bytes.now) ≤ c.args.most =
    omega (arith, length-take c.min.result c.args.bytes.now) in
    let m = more_digit c.args.value c.args.most (take c.min.result c.args.bytes.now) c.loop-i.i c.requires
    c.loop-i.invariant.digits c.loop-i-test.true few (sym c.is_ascii_digit.ensures.value
    ∙ c.if-not-is_ascii_digit.false) in
    let v = c.loop-i.invariant.value in
    omega (arith, m.2, v)

pub overflow_add-value : goal.overflow_add-value
overflow_add-value c =
    let most : c.min.result ≤ c.args.most = search rules in
    let few : length (take c.min.result c.args.bytes.now) ≤ c.args.most =
    omega (arith, length-take c.min.result c.args.bytes.now) in
    let m = more_digit c.args.value c.args.most (take c.min.result c.args.bytes.now) c.loop-i.i c.requires
    c.loop-i.invariant.digits c.loop-i-test.true few (sym c.is_ascii_digit.ensures.value
    ∙ c.if-not-is_ascii_digit.false) in
    let v = c.loop-i.invariant.value in
    let n = c.from.ensures in
    omega (arith, m.0, m.1, m.2, v, n)

pub loop-i-preserved : goal.loop-i-preserved
loop-i-preserved c =
    let most : c.min.result ≤ c.args.most = search rules in
    let few : length (take c.min.result c.args.bytes.now) ≤ c.args.most =
    omega (arith, length-take c.min.result c.args.bytes.now) in
    let digit = sym c.is_ascii_digit.ensures.value ∙ c.if-not-is_ascii_digit.false in
    let m = more_digit c.args.value c.args.most (take c.min.result c.args.bytes.now) c.loop-i.i c.requires
    c.loop-i.invariant.digits c.loop-i-test.true few digit in
    let v = c.loop-i.invariant.value in
    let n = c.from.ensures in
    record {
      digits = digits_more (take c.min.result c.args.bytes.now) c.loop-i.i c.loop-i.invariant.digits c.loop-i-test.true
          digit;
      value = rw (v, n) (sym m.3);
    }
