use Rattle.std.proofs.Common.{◌≤◌, ◌<◌, take, length, get_or, arith, refl, sym, ◌∙◌, ap, length-take, get_or-take}
use Rattle.std.proofs.lemmas.List.{take_rest}
use Rattle.std.specs.Prelude.{nat_lt}
use Rattle.std.specs.Int.{from_bool}
use Rattle.mm_text.proofs.LastLemmas.{value_small, taken_next, taken_all}
use Rattle.mm_text.proofs.plain.last_digits.Goals as goal

pub overflow_mul-value : goal.overflow_mul-value
overflow_mul-value c =
    let size : length (take 3 c.args.bytes.now) ≤ 3 = omega (arith, length-take 3 c.args.bytes.now) in
    let small = value_small _ _ _ _ _ _ c.requires size c.loop-byte-test.true c.loop-byte.invariant in
    omega arith

pub overflow_add-value : goal.overflow_add-value
overflow_add-value c =
    let size : length (take 3 c.args.bytes.now) ≤ 3 = omega (arith, length-take 3 c.args.bytes.now) in
    let small = value_small _ _ _ _ _ _ c.requires size c.loop-byte-test.true c.loop-byte.invariant in
    let e = c.from.ensures in
    omega arith

pub loop-byte-preserved : goal.loop-byte-preserved
loop-byte-preserved c =
    let size : length (take 3 c.args.bytes.now) ≤ 3 = omega (arith, length-take 3 c.args.bytes.now) in
    let at = c.loop-byte-test.true in
    let byte : get_or (take 3 c.args.bytes.now) c.loop-byte.byte-index 0 < 256 =
    rw (get_or-take 3 c.args.bytes.now c.loop-byte.byte-index 0 (omega arith))
    (c.type_inv.bytes c.loop-byte.byte-index).fits in
    taken_next c.args.value (take 3 c.args.bytes.now) c.loop-byte.byte-index c.loop-byte.value c.loop-byte.count
    c.loop-byte.goes_on _ c.from.result c.from-goes_on.result c.requires size at refl byte c.from.ensures
    (c.from-goes_on.ensures ∙ ap (λ n. from_bool (nat_lt n 10)) (sym c.from.ensures)) c.loop-byte.invariant

pub returns : goal.returns
returns c =
    let size : length (take 3 c.args.bytes.now) ≤ 3 = omega (arith, length-take 3 c.args.bytes.now) in
    let three : c.loop-byte.byte-index ≤ 3 = let e = c.loop-byte.auto.byte-index-end in omega arith in
    rw (take_rest c.args.bytes.now c.loop-byte.count)
    (taken_all c.args.value c.args.bytes.now c.loop-byte.byte-index c.loop-byte.value c.loop-byte.count
    c.loop-byte.goes_on three c.loop-byte.invariant)
