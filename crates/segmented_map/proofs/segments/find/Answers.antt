use Rattle.std.proofs.Common.{◌≡◌, suc, ◌+◌, ◌-◌, sym, ◌∙◌, ap, arith, Some}
use Rattle.segmented_map.proofs.SegmentLaws.{step_len, entry_step, position_step, position_before}
use Rattle.segmented_map.proofs.segments.find.Goals as goal

pub overflow_sub-before : goal.overflow_sub-before
overflow_sub-before g c =
    let is : c.segments.i ≡ suc (c.segments.i - 1) = omega (arith, c.segments-test.true) in
    omega (
      arith,
      c.segments.invariant.before,
      c.len-before.ensures.len,
      step_len c.args.segments.now _ _ _ is c.segments.invariant.within c.index-segments-i.is,
    )

pub returns-in-Some-clause-index : goal.returns-in-Some-clause-index
returns-in-Some-clause-index g c =
    let is : c.segments.i ≡ suc (c.segments.i - 1) = omega (arith, c.segments-test.true) in
    let at = c.index-segments-i.is in
    let within = c.segments.invariant.within in
    let len = step_len c.args.segments.now _ _ _ is within at in
    ap Some {x = c.segments.before - c.len-before.result + c.in-Some.index}
    (omega (arith, c.segments.invariant.before, c.len-before.ensures.len, len))
    ∙ sym (position_step c.args.segments.now _ _ _ is within at g.met.K.Eq.laws c.requires.unique c.args.key.now
    c.in-Some.index (sym c.in-Some.ensures.index))
    ∙ sym c.segments.invariant.index

pub returns-in-Some-clause-entry : goal.returns-in-Some-clause-entry
returns-in-Some-clause-entry g c =
    let is : c.segments.i ≡ suc (c.segments.i - 1) = omega (arith, c.segments-test.true) in
    let at = c.index-segments-i.is in
    let within = c.segments.invariant.within in
    let len = step_len c.args.segments.now _ _ _ is within at in
    entry_step c.args.segments.now _ _ _ is within at _ c.in-Some.index _
    (omega (arith, c.segments.invariant.before, c.len-before.ensures.len, len)) c.in-Some.ensures.entry

pub segments-preserved : goal.segments-preserved
segments-preserved g c =
    let is : c.segments.i ≡ suc (c.segments.i - 1) = omega (arith, c.segments-test.true) in
    let at = c.index-segments-i.is in
    let within = c.segments.invariant.within in
    let len = step_len c.args.segments.now _ _ _ is within at in
    record {
      within = omega (arith, within);
      before = omega (arith, c.segments.invariant.before, c.len-before.ensures.len, len);
      index = c.segments.invariant.index
          ∙ position_before c.args.segments.now _ _ _ is within at (g.K.PartialEq.eq c.args.key.now)
          (sym c.in_default.ensures.index);
    }
