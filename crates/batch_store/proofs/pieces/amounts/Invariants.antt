use Rattle.std.proofs.Common.{◌≡◌, ◌<◌, ◌^◌, take}
use Rattle.hyper_matrix.specs.Counts.{total}
use Rattle.layer_compaction.specs.Shared.{all_counts, content, values}
use Rattle.batch_store.specs.Pieces.{AllLie, all_entries}
use Rattle.batch_store.proofs.pieces.amounts.Given as goal

abbrev pub invariant-pieces : goal.invariant-pieces
invariant-pieces l = record {
  counted : l.entries ≡ all_entries (values (take l.piece-index l.list));
  adds_up : l.total ≡ total (content (all_counts (values (take l.piece-index l.list))));
  fits : l.total < 2 ^ 64;
  lie : AllLie (values (take l.piece-index l.list));
}
