use Rattle.std.proofs.Common.{◌≡◌, vec_len}
use Rattle.locked_engine.proofs.shown.first_versions.Given as goal

abbrev pub invariant-shards : goal.invariant-shards
invariant-shards g l = vec_len l.versions ≡ l.s
