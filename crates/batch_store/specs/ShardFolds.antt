-- What folding the front of a shard's record does to it.
--     StaysAll old new        a shard is as before, but for its free places
--     Seals old new           and but for where its sum lies: layers may have been handed down
--     HandsDown old new       all layers were: empty ones lie over their sum
--     FoldsFront m old new    the first m batches of the record have gone into the base
--     IsSealed                what is known of the front that is sealed: where a base is due, what was handed down is the
--                             base and the parts of the sealed batches, and the base has its numbers
use Rattle.std.specs.Prelude.{◌≡◌, ℕ, ◌≤◌, List, [], ◌∷◌, ◌++◌, length, replicate, take, drop, Option, IfSome}
use Rattle.std.specs.Arc.{arc_value}
use Rattle.std.specs.declared.sync.Arc.{Arc}
use Rattle.std.specs.declared.alloc.Global.{Global}
use Rattle.std.specs.FinMap.{empty}
use Rattle.hyper_matrix.specs.Counts.{Counts}
use Rattle.hyper_matrix.specs.Matrix.{Matrix, matrix}
use Rattle.layer_compaction.specs.Due.{numbers_of}
use Rattle.layer_compaction.specs.Shared.{content}
use Rattle.batch_store.specs.Setups.{Setting}
use Rattle.batch_store.specs.Batches.{Submission}
use Rattle.batch_store.specs.Parts.{record_content}
use Rattle.batch_store.specs.Shards.{Holding}

pub record StaysAll (old new : Holding) : Type 0 where
  pub setup : new.setup ≡ old.setup
  pub number : new.number ≡ old.number
  pub layers : new.layers ≡ old.layers
  pub below : new.below ≡ old.below
  pub base : new.base ≡ old.base
  pub record_list : new.record_list ≡ old.record_list

pub record Seals (old new : Holding) : Type 0 where
  pub setup : new.setup ≡ old.setup
  pub number : new.number ≡ old.number
  pub sum : content new.layers ≡ content old.layers
  pub base : new.base ≡ old.base
  pub record_list : new.record_list ≡ old.record_list

pub record HandsDown (old new : Holding) : Type 0 where
  pub layers : new.layers ≡ replicate (length old.setup.cuts) empty ++ content old.layers ∷ []
  pub below : new.below ≡ record_content old.number old.setup.shards old.base old.record_list

pub record FoldsFront (m : ℕ) (old new : Holding) : Type 0 where
  pub setup : new.setup ≡ old.setup
  pub number : new.number ≡ old.number
  pub layers : new.layers ≡ old.layers
  pub below : new.below ≡ old.below
  pub free : new.free ≡ old.free
  pub within : m ≤ length old.record_list
  pub base : new.base ≡ record_content old.number old.setup.shards old.base (take m old.record_list)
  pub record_list : new.record_list ≡ drop m old.record_list

abbrev pub IsSealed : Setting → ℕ → Counts → Matrix → List Submission → Option (Arc (List ℕ) Global) → Type 0
IsSealed v s below base list due = IfSome due (λ (place : Arc (List ℕ) Global).
    (arc_value place ≡ numbers_of (matrix v.rows v.cols below)) × (below ≡ record_content s v.shards base.counts list))
