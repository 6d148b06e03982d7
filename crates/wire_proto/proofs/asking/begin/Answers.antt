use Rattle.wire_proto.proofs.asking.begin.Goals as goal

pub returns-in-Put-clause-begins : goal.returns-in-Put-clause-begins
returns-in-Put-clause-begins g c = rw c.in-Put.is c.begin_text.ensures.begins

pub returns-in-Put-clause-none : goal.returns-in-Put-clause-none
returns-in-Put-clause-none g c = rw c.in-Put.is c.begin_text.ensures.none

pub returns-in-PutCells-clause-begins : goal.returns-in-PutCells-clause-begins
returns-in-PutCells-clause-begins g c = rw c.in-PutCells.is c.begin_cells.ensures.begins

pub returns-in-PutCells-clause-none : goal.returns-in-PutCells-clause-none
returns-in-PutCells-clause-none g c = rw c.in-PutCells.is c.begin_cells.ensures.none
