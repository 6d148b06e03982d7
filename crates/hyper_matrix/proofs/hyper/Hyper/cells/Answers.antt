use Rattle.std.proofs.Common.{map, ap, sym, ◌∙◌}
use Rattle.hyper_matrix.specs.Cells.{entry_of}
use Rattle.hyper_matrix.proofs.QueryLaws.{entries_are}
use Rattle.hyper_matrix.proofs.hyper.Hyper.cells.Goals as goal

pub returns-clause-order : goal.returns-clause-order
returns-clause-order c = ap (map entry_of) (c.in_ok-cells.ensures.items ∙ c.cells.ensures) ∙
    sym (entries_are c.self.inside.piece _ _ _ _ c.self.view_is c.self.invariant)
