use Rattle.std.proofs.Common.{◌≡◌, take}
use Rattle.plain_engine.specs.Bases.{bases_of}
use Rattle.plain_engine.proofs.bases.start_each.Given as goal

abbrev pub invariant-shards : goal.invariant-shards
invariant-shards l = take l.place l.left ≡ bases_of (take l.place l.shards)
