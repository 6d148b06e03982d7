use Rattle.std.proofs.Common.{◌≡◌, suc, ◌-◌, sym, ◌∙◌, arith}
use Rattle.segmented_map.proofs.SegmentLaws.{step_len, get_step, get_before}
use Rattle.segmented_map.proofs.segments.entry_at.Goals as goal

pub overflow_sub-before : goal.overflow_sub-before
overflow_sub-before g c =
    let is : c.segments.i ≡ suc (c.segments.i - 1) = omega (arith, c.segments-test.true) in
    omega (
      arith,
      c.segments.invariant.before,
      c.len-before.ensures.len,
      step_len c.args.segments.now _ _ _ is c.segments.invariant.within c.index-segments-i.is,
    )

pub returns-then-index-before : goal.returns-then-index-before
returns-then-index-before g c =
    let is : c.segments.i ≡ suc (c.segments.i - 1) = omega (arith, c.segments-test.true) in
    let at = c.index-segments-i.is in
    let within = c.segments.invariant.within in
    let len = step_len c.args.segments.now _ _ _ is within at in
    c.get_index.ensures.entry
    ∙ sym (get_step c.args.segments.now _ _ _ is within at c.args.index _ (omega (
      arith,
      c.segments.invariant.before,
      c.len-before.ensures.len,
      len,
      c.if-index-before.true,
    )))
    ∙ sym c.segments.invariant.entry

pub segments-preserved : goal.segments-preserved
segments-preserved g c =
    let is : c.segments.i ≡ suc (c.segments.i - 1) = omega (arith, c.segments-test.true) in
    let at = c.index-segments-i.is in
    let within = c.segments.invariant.within in
    let len = step_len c.args.segments.now _ _ _ is within at in
    record {
      within = omega (arith, within);
      before = omega (arith, c.segments.invariant.before, c.len-before.ensures.len, len);
      entry = c.segments.invariant.entry
          ∙ get_before c.args.segments.now _ _ _ is within at c.args.index (omega (
            arith,
            c.segments.invariant.before,
            c.len-before.ensures.len,
            len,
            c.if-index-before.false,
          ));
    }
