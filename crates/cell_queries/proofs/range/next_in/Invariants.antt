use Rattle.std.proofs.Common.{◌≡◌, ◌<◌, T, length}
use Rattle.std.specs.FinMap.{is_sorted}
use Rattle.hyper_matrix.specs.Counts.{place_cmp}
use Rattle.cell_queries.specs.Ranges.{cells_in}
use Rattle.cell_queries.proofs.range.next_in.Given as goal

abbrev pub invariant-seek : goal.invariant-seek
invariant-seek g l = record {
  few : l.walked < 16;
  order : T (is_sorted place_cmp (g.S.CellSource.left l.source));
  same : cells_in l.range (g.S.CellSource.left l.source) ≡ cells_in l.range (g.S.CellSource.left l.fn.source);
}

abbrev pub decreases-seek : goal.decreases-seek
decreases-seek g l = length (g.S.CellSource.left l.source)
