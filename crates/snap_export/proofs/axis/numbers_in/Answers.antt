use Rattle.std.proofs.Common.{ap, arith, subst}
use Rattle.std.proofs.lemmas.List.{take_all}
use Rattle.snap_export.specs.Labels.{HaveSame, numbers_of}
use Rattle.snap_export.proofs.LabelLemmas.{same_more}
use Rattle.snap_export.proofs.axis.numbers_in.Goals as goal

pub cells-preserved : goal.cells-preserved
cells-preserved c =
    same_more c.args.axis c.args.cells.now c.cells.cell-index c.number.result _ c.cells.list.items
    c.push_other.new.list.items c.cells-test.true c.number.ensures c.cells.invariant c.in_ok-push_other.ensures

pub returns : goal.returns
returns c =
    subst (HaveSame c.cells.list.items)
    (ap (numbers_of c.args.axis) (take_all c.cells.cell-index c.args.cells.now (omega (arith, c.cells-test.false))))
    c.cells.invariant
