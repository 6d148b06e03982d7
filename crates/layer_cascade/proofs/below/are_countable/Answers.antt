use Rattle.std.proofs.Common.{◌+◌, ◌-◌, get_or, sym, ap, ◌∙◌, arith}
use Rattle.std.specs.Arc.{arc_value}
use Rattle.std.specs.FinMap.{len}
use Rattle.hyper_matrix.specs.Matrix.{Matrix}
use Rattle.layer_compaction.proofs.RunLemmas.{len-ewise_add-le}
use Rattle.layer_cascade.proofs.BelowLemmas.{last_is}
use Rattle.layer_cascade.proofs.below.are_countable.Goals as goal

pub returns : goal.returns
returns c = λ _.
    let layers = c.args.layers.now in
    let own = c.index-layers-last.result in
    let below = c.index-layers-last-2.result in
    omega (
      arith,
      c.if-own-below.false,
      c.most_entries-own.ensures,
      c.most_entries-below.ensures,
      ap (λ (m : Matrix). len m.counts) c.deref.ensures,
      ap (λ (m : Matrix). len m.counts) c.deref-2.ensures,
      ap len (last_is layers c.in-Some.last (c.in-Some.last + 1) own (omega (arith, c.in-Some.ensures)) (omega arith)
          (c.index-layers-last.is
          ∙ ap (λ j. get_or layers j own) {x = c.in-Some.last} {y = c.in-Some.last + 1 - 1} (omega arith))
          below (omega arith) c.index-layers-last-2.is),
      len-ewise_add-le (arc_value own).counts (arc_value below).counts,
    )
