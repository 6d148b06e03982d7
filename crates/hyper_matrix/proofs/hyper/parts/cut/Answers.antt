use Rattle.std.proofs.Common.{List, length, get_or, sym, subst, ap, ◌∙◌, arith}
use Rattle.cells.specs.Bounds.{AreWithin}
use Rattle.cells.specs.Order.{Rise}
use Rattle.cells.specs.declared.cell.Cell.{Cell}
use Rattle.hyper_matrix.specs.Cells.{built_of, cell_total}
use Rattle.hyper_matrix.specs.Matrix.{matrix}
use Rattle.hyper_matrix.proofs.PartLaws.{cut_range, cut_is, shard_rises, shard_within, shard_total, is_part, parts_more}
use Rattle.hyper_matrix.proofs.hyper.parts.cut.Goals as goal

pub part_of-requires-clause-range : goal.part_of-requires-clause-range
part_of-requires-clause-range c =
    let i = c.loop-end.end-index in
    cut_range (length c.args.ends.now) i c.loop-end.from (get_or c.args.ends.now i 0) c.args.cells.now c.args.line.now
    c.loop-end-test.true c.loop-end.invariant.from (c.requires.ends i c.loop-end-test.true) c.requires.all
    c.requires.line

pub part_of-requires-clause-rises : goal.part_of-requires-clause-rises
part_of-requires-clause-rises c =
    let i = c.loop-end.end-index in
    let k = length c.args.ends.now in
    subst Rise (sym (cut_is k i c.loop-end.from (get_or c.args.ends.now i 0) c.args.cells.now c.args.line.now
    c.loop-end-test.true c.loop-end.invariant.from (c.requires.ends i c.loop-end-test.true) c.requires.all
    c.requires.line)) (shard_rises i k c.args.cells.now c.requires.rises)

pub part_of-requires-clause-within : goal.part_of-requires-clause-within
part_of-requires-clause-within c =
    let i = c.loop-end.end-index in
    let k = length c.args.ends.now in
    subst (AreWithin c.args.whole.now.rows c.args.whole.now.cols)
    (sym (cut_is k i c.loop-end.from (get_or c.args.ends.now i 0) c.args.cells.now c.args.line.now
    c.loop-end-test.true c.loop-end.invariant.from (c.requires.ends i c.loop-end-test.true) c.requires.all
    c.requires.line)) (shard_within i k _ _ c.args.cells.now c.requires.within)

pub part_of-requires-clause-fits : goal.part_of-requires-clause-fits
part_of-requires-clause-fits c =
    let i = c.loop-end.end-index in
    let k = length c.args.ends.now in
    omega (
      arith,
      ap cell_total (cut_is k i c.loop-end.from (get_or c.args.ends.now i 0) c.args.cells.now c.args.line.now
          c.loop-end-test.true c.loop-end.invariant.from (c.requires.ends i c.loop-end-test.true) c.requires.all
          c.requires.line),
      shard_total i k c.args.cells.now,
      c.requires.fits,
    )

pub loop-end-preserved : goal.loop-end-preserved
loop-end-preserved c =
    let i = c.loop-end.end-index in
    let k = length c.args.ends.now in
    let rows = c.args.whole.now.rows in
    let cols = c.args.whole.now.cols in
    let is = cut_is k i c.loop-end.from (get_or c.args.ends.now i 0) c.args.cells.now c.args.line.now
    c.loop-end-test.true c.loop-end.invariant.from (c.requires.ends i c.loop-end-test.true) c.requires.all
    c.requires.line in
    record {
      from = c.requires.ends i c.loop-end-test.true;
      told = parts_more i k (matrix rows cols (built_of c.args.cells.now)) c.in_ok-part.part c.loop-end.parts.items
          c.push.new.self.items c.loop-end.invariant.told
          (is_part i k rows cols c.args.cells.now c.in_ok-part.part c.requires.rises
          (c.in_ok-part.ensures ∙ ap (λ (l : List Cell). matrix rows cols (built_of l)) is))
          c.in_ok-push.ensures.items;
    }
