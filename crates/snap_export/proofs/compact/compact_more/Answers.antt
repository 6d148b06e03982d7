use Rattle.std.proofs.Common.{refl, subst, sym}
use Rattle.cells.specs.Order.{Rise}
use Rattle.hyper_matrix.specs.Cells.{built_of}
use Rattle.snap_export.proofs.LabelLemmas.{rise_back}
use Rattle.snap_export.proofs.CompactLemmas.{made_compact, if_ok_four, few_of}
use Rattle.snap_export.proofs.compact.compact_more.Goals as goal

pub returns-clause-compact : goal.returns-clause-compact
returns-clause-compact c =
    if_ok_four c.compacted.result (λ x rows cols within same.
    made_compact (built_of c.args.more.cells.items) c.args.more.cells.items x.cells.items x.rows.items x.cols.items
    refl rows cols within same)
    c.compacted.ensures.rows c.compacted.ensures.cols c.compacted.ensures.within c.compacted.ensures.back

pub returns-clause-rises : goal.returns-clause-rises
returns-clause-rises c =
    if_ok_four c.compacted.result (λ x rows cols within same.
    rise_back x.rows.items x.cols.items rows.rise cols.rise x.cells.items within
    (subst Rise (sym same) c.requires.rises))
    c.compacted.ensures.rows c.compacted.ensures.cols c.compacted.ensures.within c.compacted.ensures.back

pub returns-clause-few : goal.returns-clause-few
returns-clause-few c =
    if_ok_four c.compacted.result (λ x rows cols within same.
    few_of c.args.more.cells.items c.args.more.rows c.args.more.cols x.rows.items x.cols.items
    c.requires.dims.0 c.requires.dims.1 c.requires.within rows cols)
    c.compacted.ensures.rows c.compacted.ensures.cols c.compacted.ensures.within c.compacted.ensures.back
