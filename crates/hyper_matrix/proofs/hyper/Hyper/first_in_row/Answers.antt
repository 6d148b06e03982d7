use Rattle.std.proofs.Common.{sym, subst, ap, ◌∙◌}
use Rattle.std.specs.Prelude.{MatchOption}
use Rattle.cells.specs.Order.{Rise}
use Rattle.hyper_matrix.specs.Counts.{Counts}
use Rattle.hyper_matrix.specs.Cells.{built_of}
use Rattle.hyper_matrix.specs.RowOf.{IsFirst, HasNoneFrom}
use Rattle.hyper_matrix.proofs.QueryLaws.{counts_are, entry_within}
use Rattle.hyper_matrix.proofs.hyper.Hyper.first_in_row.Goals as goal

pub first_in_row-requires : goal.first_in_row-requires
first_in_row-requires c = subst Rise (sym c.cells.ensures) c.self.invariant.rises

pub returns-clause-value : goal.returns-clause-value
returns-clause-value c = subst (λ (m : Counts). MatchOption c.first_in_row.result
    (HasNoneFrom m c.args.row c.args.from) (IsFirst m c.args.row c.args.from))
    (ap built_of c.cells.ensures ∙ counts_are c.self.inside.piece _ _ _ _ c.self.view_is c.self.invariant)
    c.first_in_row.ensures

pub returns-clause-within : goal.returns-clause-within
returns-clause-within c = entry_within c.self.inside.piece _ _ _ _ c.self.view_is c.self.invariant
    c.first_in_row.result c.args.row c.args.from (returns-clause-value c)
