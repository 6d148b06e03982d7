use Rattle.std.proofs.Common.{List, ◌+◌, arith, ap, refl, subst, sym}
use Rattle.cells.specs.Sums.{cell_total}
use Rattle.cells.specs.declared.cell.Cell.{Cell}
use Rattle.cells.proofs.SumLaws.{total-push}
use Rattle.snap_file.specs.Tallies.{IsRun}
use Rattle.snap_file.proofs.RunLemmas.{run_more}
use Rattle.snap_file.proofs.tally.take_ahead.Goals as goal

pub overflow_add-tally : goal.overflow_add-tally
overflow_add-tally c = let f = c.if-not-has_no_fault.ensures.fits refl in omega arith

pub returns-clause-run : goal.returns-clause-run
returns-clause-run c =
    let f = c.if-not-has_no_fault.ensures.judged refl in
    subst (λ (l : List Cell). IsRun c.args.head.now.setup.rows c.args.head.now.setup.cols l c.in-Some.cell.row
    (c.in-Some.cell.col + 1)) (sym c.in-Ok.ensures.items)
    (run_more _ _ c.args.tally.now.cells.items _ _ c.in-Some.cell c.requires.run f.in_order f.row_below f.col_below)

pub returns-clause-added : goal.returns-clause-added
returns-clause-added c =
    let more = total-push c.args.tally.now.cells.items c.in-Some.cell in
    omega (arith, more, ap cell_total c.in-Ok.ensures.items)
