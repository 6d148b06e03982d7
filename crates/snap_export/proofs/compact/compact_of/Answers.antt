use Rattle.snap_export.proofs.LabelLemmas.{rise_back}
use Rattle.std.proofs.Common.{subst, sym}
use Rattle.cells.specs.Order.{Rise}
use Rattle.snap_export.proofs.CompactLemmas.{made_compact, list_built, list_rises, if_ok_four, few_of}
use Rattle.snap_export.proofs.compact.compact_of.Goals as goal

pub returns-clause-compact : goal.returns-clause-compact
returns-clause-compact c =
    if_ok_four c.compacted.result (λ x rows cols within same.
    made_compact c.args.sum.counts c.in_ok-cells.cells.items x.cells.items x.rows.items x.cols.items
    (list_built c.args.sum.counts c.in_ok-cells.cells.items c.in_ok-cells.ensures.order) rows cols within same)
    c.compacted.ensures.rows c.compacted.ensures.cols c.compacted.ensures.within c.compacted.ensures.back

pub returns-clause-rises : goal.returns-clause-rises
returns-clause-rises c =
    if_ok_four c.compacted.result (λ x rows cols within same.
    rise_back x.rows.items x.cols.items rows.rise cols.rise x.cells.items within
    (subst Rise (sym same) (list_rises c.args.sum.counts c.in_ok-cells.cells.items c.in_ok-cells.ensures.order)))
    c.compacted.ensures.rows c.compacted.ensures.cols c.compacted.ensures.within c.compacted.ensures.back

pub returns-clause-few : goal.returns-clause-few
returns-clause-few c =
    if_ok_four c.compacted.result (λ x rows cols within same.
    few_of c.in_ok-cells.cells.items c.args.sum.rows c.args.sum.cols x.rows.items x.cols.items
    c.dims-dims.ensures.rows c.dims-dims.ensures.cols c.in_ok-cells.ensures.within rows cols)
    c.compacted.ensures.rows c.compacted.ensures.cols c.compacted.ensures.within c.compacted.ensures.back
