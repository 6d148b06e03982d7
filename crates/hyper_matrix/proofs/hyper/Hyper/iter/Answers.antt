use Rattle.std.proofs.Common.{sym, subst, ap, map, ◌∙◌}
use Rattle.std.specs.List.{AllByRecursion}
use Rattle.hyper_matrix.specs.Cells.{entry_of}
use Rattle.hyper_matrix.specs.Matrix.{Matrix}
use Rattle.hyper_matrix.specs.Shared.{LiesWithin}
use Rattle.hyper_matrix.proofs.MatrixLaws.{entries_within}
use Rattle.hyper_matrix.proofs.QueryLaws.{entries_are}
use Rattle.hyper_matrix.proofs.hyper.Hyper.iter.Goals as goal

pub returns-clause-order : goal.returns-clause-order
returns-clause-order c = c.new.ensures ∙ ap (map entry_of) c.cells.ensures ∙
    sym (entries_are c.self.inside.piece _ _ _ _ c.self.view_is c.self.invariant)

pub returns-clause-within : goal.returns-clause-within
returns-clause-within c =
    subst (λ (m : Matrix). AllByRecursion (LiesWithin m.rows m.cols) c.new.result) c.self.view_is
    (subst (AllByRecursion (LiesWithin c.self.inside.rows c.self.inside.cols))
    (sym (c.new.ensures ∙ ap (map entry_of) c.cells.ensures))
    (entries_within c.self.inside.rows c.self.inside.cols c.self.inside.piece c.self.invariant.within))
