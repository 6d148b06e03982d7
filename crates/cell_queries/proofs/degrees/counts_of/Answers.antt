use Rattle.std.proofs.Common.{refl, ◌∙◌, arith}
use Rattle.std.proofs.lemmas.List.{length-set}
use Rattle.cell_queries.specs.Tallies.{tallies, rows_left}
use Rattle.cell_queries.proofs.TallyLaws.{at_some, rows_begun}
use Rattle.cell_queries.proofs.DegreeLaws.{counted_begun, counted_next}
use Rattle.cell_queries.proofs.degrees.counts_of.Goals as goal

pub rows-init : goal.rows-init
rows-init g c = record {
  long = refl;
  counted = counted_begun _ _ (rows_begun c.next_cell-ahead.result _ _ c.next_cell-ahead.ensures);
}

pub rows-preserved : goal.rows-preserved
rows-preserved g c = record {
  long = length-set c.rows.counts c.ilog2-k.result _ ∙ c.rows.invariant.long;
  counted = counted_next (tallies (g.S.CellSource.left c.args.source.now))
      (rows_left c.rows.ahead (g.S.CellSource.left c.rows.source))
      (rows_left c.next_row.new.ahead (g.S.CellSource.left c.next_row.new.source)) c.in-Some.row c.rows.counts
      c.ilog2-k.result c.in-Some-checked_add.rows
      c.rows.invariant.counted (at_some c.in_ok-row.field-0 c.in-Some.row _ _ (cc) c.in_ok-row.ensures.row)
      (omega (arith, c.ilog2-k.ensures.bound, c.rows.invariant.long)) c.ilog2-k.ensures.power_le
      c.ilog2-k.ensures.next_power_gt c.in-Some-checked_add.ensures.1;
}
