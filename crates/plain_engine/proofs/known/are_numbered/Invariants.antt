use Rattle.std.proofs.Common.{◌≡◌, ◌↔◌, drop}
use Rattle.plain_engine.specs.Known.{AreNumbered}
use Rattle.plain_engine.proofs.known.are_numbered.Given as goal

abbrev pub invariant-shards : goal.invariant-shards
invariant-shards l = record {
  at : l.place ≡ l.shard-index;
  rest : AreNumbered 0 l.shards ↔ AreNumbered l.shard-index (drop l.shard-index l.shards);
}
