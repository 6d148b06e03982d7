use Rattle.std.proofs.Common.{◌≡◌, vec_len}
use Rattle.locked_engine.specs.Folders.{Leaves}
use Rattle.locked_engine.proofs.folder.Folder.run.Given as goal

abbrev pub invariant-loop-fold : goal.invariant-loop-fold
invariant-loop-fold l = record {
  place : l.self-inside.place ≡ l.fn.self.place;
  leaves : Leaves l.self-inside.place (vec_len l.self-inside.shards) l.self-inside.book;
}

abbrev pub decreases-loop-fold : goal.decreases-loop-fold
decreases-loop-fold l = vec_len l.self-inside.shards
