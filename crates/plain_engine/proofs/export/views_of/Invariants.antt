use Rattle.std.proofs.Common.{take}
use Rattle.plain_engine.specs.Views.{Show}
use Rattle.plain_engine.proofs.export.views_of.Given as goal

abbrev pub invariant-shards : goal.invariant-shards
invariant-shards l = Show l.views.items (take l.shard-index l.shards)
