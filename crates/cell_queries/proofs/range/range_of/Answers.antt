use Rattle.std.proofs.Common.{List, ◌++◌, map, ap, ◌∙◌, arith}
use Rattle.cells.specs.declared.cell.Cell.{Cell}
use Rattle.hyper_matrix.specs.Cells.{entry_of}
use Rattle.cell_queries.specs.Ranges.{cells_in}
use Rattle.cell_queries.proofs.RangeLaws.{skipped_first}
use Rattle.cell_queries.proofs.range.range_of.Goals as goal

pub page-init : goal.page-init
page-init g c =
    let h = skipped_first c.args.range.now c.first_place.result (g.S.CellSource.left c.args.source.now)
    (g.S.CellSource.left c.skip_to_place.new.self) c.requires c.first_place.ensures c.skip_to_place.ensures in
    record {
      order = h.0;
      few = omega (arith, c.new-cells.ensures.len);
      same = ap (λ (l : List Cell). map entry_of l ++
          cells_in c.args.range.now (g.S.CellSource.left c.skip_to_place.new.self)) c.new-cells.ensures.items ∙ h.1;
    }
