use Rattle.std.proofs.Common.{◌↔◌, take, drop}
use Rattle.plain_engine.specs.Standing.{Stand, AreTogether}
use Rattle.plain_engine.proofs.known.known_together.Given as goal

abbrev pub invariant-shards : goal.invariant-shards
invariant-shards l = record {
  stand : Stand l.setup l.book.state 0 (take l.shard-index l.shards);
  rest : AreTogether l.setup.shards l.book.state 0 l.shards ↔ AreTogether l.setup.shards l.book.state l.shard-index
      (drop l.shard-index l.shards);
}
