use Rattle.batch_store.specs.Parts.{concerned}
use Rattle.std.proofs.Common.{◌≡◌, ◌≤◌, length, take}
use Rattle.plain_engine.proofs.known.known_follows.Given as goal

abbrev pub invariant-batches : goal.invariant-batches
invariant-batches l = record {
  within : l.next ≤ length l.shard.record_list;
  few : l.next ≤ l.i;
  so_far : take l.next l.shard.record_list ≡ concerned l.s l.k (take l.i l.book.state.list);
}
