use Rattle.std.proofs.Common.{◌+◌, refl, sym, ◌∙◌, ap, subst, length, map, arith}
use Rattle.std.specs.FinMap.{entries, len, len-entries}
use Rattle.hyper_matrix.specs.Counts.{Counts}
use Rattle.std.specs.List.{AllByRecursion}
use Rattle.hyper_matrix.specs.Shared.{LiesWithin}
use Rattle.merged_cells.specs.Within.{LieWithin}
use Rattle.mm_text.specs.Canonical.{entry_lines, numbers_line}
use Rattle.mm_laws.specs.MatrixText.{cell_of}
use Rattle.wire_proto.proofs.TextLemmas.{length_begins, length_more, length_ends}
use Rattle.wire_proto.proofs.exporting.text_size.Goals as goal

pub loop-cell-init : goal.loop-cell-init
loop-cell-init c =
    let same = c.into_iter-cell-iterator.ensures.into_iter_gives ∙ c.requires.of_sum in
    record {
      can = tt;
      finite = tt;
      rows = c.dims-rows.ensures.rows;
      cols = c.dims-rows.ensures.cols;
      within = subst (LieWithin c.args.sum.now.rows c.args.sum.now.cols)
          (sym c.into_iter-cell-iterator.ensures.into_iter_gives)
          c.requires.within;
      bound = omega arith;
      few = omega arith;
      counted = ap (λ (m : Counts). 49 + length (entry_lines (map cell_of (entries m)))) same;
      told = omega (arith, len-entries c.args.sum.now.counts, ap (λ (m : Counts). length (entries m)) same);
    }

pub loop-cell-preserved : goal.loop-cell-preserved
loop-cell-preserved c =
    let step = c.in-Some.ensures.steps in
    let old = c.loop-cell.invariant in
    let within = subst (AllByRecursion (LiesWithin c.args.sum.now.rows c.args.sum.now.cols)) step old.within in
    record {
      can = tt;
      finite = tt;
      rows = old.rows;
      cols = old.cols;
      within = within.1;
      bound = let few = c.line_length-len.ensures.few in omega (arith, few);
      few = let some = c.line_length-len.ensures.some in omega (arith, some, old.few);
      counted = length_more _ _ _ _ _ c.in-Some.cell step old.counted c.line_length-len.ensures.value;
      told = omega (arith, old.told, ap length step);
    }

pub returns-then-len : goal.returns-then-len
returns-then-len c =
    let m = c.args.sum.now in
    let whole = length_begins m m.rows m.cols (len m.counts) (length (numbers_line m.rows m.cols (len m.counts)))
    (entries m.counts) refl refl refl refl in
    omega (arith, whole, c.loop-cell.invariant.counted)

pub returns-then-len-2 : goal.returns-then-len-2
returns-then-len-2 c =
    let old = c.loop-cell.invariant in
    let ends = length_ends c.args.sum.now _ _ c.loop-cell.count c.line_length-size_line.result c.loop-cell.len
    (entries c.loop-cell.cell-iterator) c.dims-rows.ensures.value c.line_length-size_line.ensures.value
    c.in-None.ensures.steps.0 old.told old.counted in
    omega (arith, ends.0)

pub returns : goal.returns
returns c =
    let old = c.loop-cell.invariant in
    let ends = length_ends c.args.sum.now _ _ c.loop-cell.count c.line_length-size_line.result c.loop-cell.len
    (entries c.loop-cell.cell-iterator) c.dims-rows.ensures.value c.line_length-size_line.ensures.value
    c.in-None.ensures.steps.0 old.told old.counted in
    (omega (arith, ends.0), omega (arith, ends.0), ends.1)
