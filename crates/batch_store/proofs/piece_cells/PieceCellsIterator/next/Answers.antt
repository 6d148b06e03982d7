use Rattle.batch_store.proofs.MergedLaws.{memory_step, goes_on}
use Rattle.batch_store.proofs.piece_cells.PieceCellsIterator.next.Goals as goal

pub invariant_of-self : goal.invariant_of-self
invariant_of-self c = (memory_step c.self.inside.left c.next_cell.new.left _ c.self.inside.count c.next_cell.result
    c.args.self.now c.self.view_is c.self.invariant c.next_cell.ensures.length c.next_cell.ensures.none
    c.next_cell.ensures.some).0

pub returns-clause-steps : goal.returns-clause-steps
returns-clause-steps c = (memory_step c.self.inside.left c.next_cell.new.left _ c.self.inside.count c.next_cell.result
    c.args.self.now c.self.view_is c.self.invariant c.next_cell.ensures.length c.next_cell.ensures.none
    c.next_cell.ensures.some).1

pub returns-clause-goes : goal.returns-clause-goes
returns-clause-goes c = goes_on _ (λ _. tt) c.args.self.now _ c.next_cell.result
    (memory_step c.self.inside.left c.next_cell.new.left _ c.self.inside.count c.next_cell.result
    c.args.self.now c.self.view_is c.self.invariant c.next_cell.ensures.length c.next_cell.ensures.none
    c.next_cell.ensures.some).1
