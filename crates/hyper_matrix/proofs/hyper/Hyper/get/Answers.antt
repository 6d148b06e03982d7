use Rattle.std.proofs.Common.{List, sym, subst, ap, ◌∙◌}
use Rattle.std.specs.FinMap.{get}
use Rattle.cells.specs.Order.{Rise}
use Rattle.cells.specs.declared.cell.Cell.{Cell}
use Rattle.hyper_matrix.specs.Counts.{Counts}
use Rattle.hyper_matrix.specs.Cells.{built_of}
use Rattle.hyper_matrix.proofs.QueryLaws.{counts_are, none_outside}
use Rattle.hyper_matrix.proofs.hyper.Hyper.get.Goals as goal

pub get-requires : goal.get-requires
get-requires c = subst Rise (sym c.cells.ensures) c.self.invariant.rises

pub returns-clause-value : goal.returns-clause-value
returns-clause-value c = c.get.ensures
    ∙ ap (λ (l : List Cell). get (built_of l) (c.args.row, c.args.col)) c.cells.ensures
    ∙ ap (λ (m : Counts). get m (c.args.row, c.args.col))
    (counts_are c.self.inside.piece _ _ _ _ c.self.view_is c.self.invariant)

pub returns-clause-outside : goal.returns-clause-outside
returns-clause-outside c out = returns-clause-value c ∙
    none_outside c.self.inside.piece _ _ _ _ c.self.view_is c.self.invariant c.args.row c.args.col out
