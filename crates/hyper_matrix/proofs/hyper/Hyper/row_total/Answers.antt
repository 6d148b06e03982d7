use Rattle.std.proofs.Common.{ℕ, List, map, sym, subst, ap, ◌∙◌, arith}
use Rattle.std.specs.FinMap.{len, len-empty}
use Rattle.cells.specs.Order.{Rise}
use Rattle.cells.specs.declared.cell.Cell.{Cell}
use Rattle.hyper_matrix.specs.Counts.{place_cmp, total}
use Rattle.hyper_matrix.specs.Cells.{entry_of, cell_total}
use Rattle.hyper_matrix.specs.Search.{IsRowSum}
use Rattle.hyper_matrix.proofs.CountLaws.{total-empty}
use Rattle.hyper_matrix.specs.Matrix.{Matrix}
use Rattle.hyper_matrix.proofs.MatrixLaws.{kept_total}
use Rattle.hyper_matrix.proofs.QueryLaws.{row_count_is, row_total_is, row_outside}
use Rattle.hyper_matrix.proofs.hyper.Hyper.row_total.Goals as goal

pub row_total-requires-clause-rises : goal.row_total-requires-clause-rises
row_total-requires-clause-rises c = subst Rise (sym c.cells.ensures) c.self.invariant.rises

pub row_total-requires-clause-fits : goal.row_total-requires-clause-fits
row_total-requires-clause-fits c = omega (
  arith,
  ap cell_total c.cells.ensures,
  c.self.invariant.kept,
  kept_total _ _ _ _ c.self.invariant,
  ap (λ (m : Matrix). total m.counts) c.self.view_is,
  c.total-total.ensures.fits,
)

pub returns-clause-entries : goal.returns-clause-entries
returns-clause-entries c = row_count_is c.self.inside.piece _ _ _ _ c.self.view_is c.self.invariant c.args.row _ _
    (subst (λ (l : List Cell). IsRowSum c.args.row (map entry_of l) c.row_total.result.entries c.row_total.result.total)
    c.cells.ensures c.row_total.ensures)

pub returns-clause-total : goal.returns-clause-total
returns-clause-total c = row_total_is c.self.inside.piece _ _ _ _ c.self.view_is c.self.invariant c.args.row _ _
    (subst (λ (l : List Cell). IsRowSum c.args.row (map entry_of l) c.row_total.result.entries c.row_total.result.total)
    c.cells.ensures c.row_total.ensures)

pub returns-clause-outside : goal.returns-clause-outside
returns-clause-outside c out =
    let none = row_outside c.self.inside.piece _ _ _ _ c.self.view_is c.self.invariant c.args.row out in (
      returns-clause-entries c ∙ ap len none ∙ len-empty place_cmp ℕ,
      returns-clause-total c ∙ ap total none ∙ total-empty,
    )
