use Rattle.std.proofs.Common.{length}
use Rattle.batch_store.specs.Walks.{Leads, entries_left}
use Rattle.batch_store.proofs.piece_cells.first_piece.Given as goal

abbrev pub invariant-pieces : goal.invariant-pieces
invariant-pieces l = Leads (length l.left) l.piece (entries_left l.left) l.found l.first
