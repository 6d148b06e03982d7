use Rattle.std.proofs.Common.{◌≡◌, ◌≤◌, ◌-◌, ◌++◌, T, map, vec_len}
use Rattle.std.specs.FinMap.{is_sorted}
use Rattle.hyper_matrix.specs.Counts.{place_cmp}
use Rattle.hyper_matrix.specs.Cells.{entry_of}
use Rattle.cell_queries.specs.Ranges.{cells_in}
use Rattle.cell_queries.proofs.range.range_of.Given as goal

abbrev pub invariant-page : goal.invariant-page
invariant-page g l = record {
  order : T (is_sorted place_cmp (g.S.CellSource.left l.source));
  few : vec_len l.cells ≤ l.most;
  same : map entry_of l.cells.items ++ cells_in l.range (g.S.CellSource.left l.source) ≡
      cells_in l.range (g.S.CellSource.left l.fn.source);
}

abbrev pub decreases-page : goal.decreases-page
decreases-page g l = l.most - vec_len l.cells
