-- What folding does to the shards.
--     HoldsPart v m x     the shard x was made with this setup, and its layers add up to its part of the matrix m
--     AllHoldParts v m xs each of these shards does
--     shard_folded x      a shard after all its batches were folded, but for its free places: the layers as they were,
--                         their sum for its base, and an empty record
use Rattle.std.specs.Prelude.{◌≡◌, List, [], ◌∷◌}
use Rattle.hyper_matrix.specs.Counts.{Counts, part}
use Rattle.layer_compaction.specs.Shared.{content}
use Rattle.batch_store.specs.Setups.{Setting}
use Rattle.batch_store.specs.Shards.{Holding, holding}

pub record HoldsPart (v : Setting) (m : Counts) (x : Holding) : Type 0 where
  pub setup : x.setup ≡ v
  pub part_is : content x.layers ≡ part m x.number v.shards

abbrev pub AllHoldParts : Setting → Counts → List Holding → Type 0
AllHoldParts v m [] = Unit {0}
AllHoldParts v m (x ∷ xs) = HoldsPart v m x × AllHoldParts v m xs

abbrev pub shard_folded : Holding → Holding
shard_folded x = holding x.setup x.number x.layers x.below (content x.layers) [] 0
