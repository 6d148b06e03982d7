use Rattle.std.proofs.Common.{◌≡◌}
use Rattle.hyper_matrix.specs.Counts.{ewise_add}
use Rattle.hyper_matrix.specs.Parts.{parts_below}
use Rattle.layer_compaction.specs.Shared.{values}
use Rattle.batch_store.proofs.pieces.Pieces.with_added.Given as goal

abbrev pub invariant-pieces : goal.invariant-pieces
invariant-pieces l = values l.list.items ≡ parts_below l.s l.self.count
    (record l.added { counts = ewise_add l.self.whole.counts l.added.counts })
