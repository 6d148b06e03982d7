-- What a put does to the shards.
--     IsFresh e b         the book of the engine e calls the batch fresh
--     shard_after b x     a shard after a batch, but for its free places: where the batch concerns it, with the batch's
--                         part added by the cascade and the batch at the end of its record, else as it was
--     AllTake v b xs      each of these shards was made with this setup and can take the batch: its pair is new there,
--                         and its part fits under the limit
--     AreAllHeld xs       each keeps what a shard keeps
use Rattle.std.specs.Prelude.{◌≡◌, ◌+◌, ◌≤◌, false, if◌then◌else◌, List, [], ◌∷◌, ◌++◌}
use Rattle.layer_cascade.specs.Cascade.{cascade}
use Rattle.batch_store.specs.Setups.{Setting}
use Rattle.batch_store.specs.Batches.{Submission}
use Rattle.batch_store.specs.Parts.{concerns}
use Rattle.batch_store.specs.Shards.{Holding, holding, shard_total, part_in, amount_in, AreHeld, stands}
use Rattle.batch_store.specs.declared.verdict.Verdict.TheVariants.{Fresh}
use Rattle.plain_engine.specs.Object.{verdict_in}
use Rattle.plain_engine.specs.Standing.{Standing, bare_shard}

abbrev pub IsFresh : Standing → Submission → Type 0
IsFresh e b = verdict_in e.setup e.book.state b ≡ Fresh

abbrev pub shard_after : Submission → Holding → Holding
shard_after b x =
    if concerns x.number x.setup.shards b.matrix.counts
    then holding x.setup x.number (cascade x.layers x.setup.cuts (part_in x b)) x.below x.base
    (x.record_list ++ b ∷ []) 0
    else bare_shard x

pub record Takes (v : Setting) (b : Submission) (x : Holding) : Type 0 where
  pub setup : x.setup ≡ v
  pub absent : stands b.client b.number x.record_list ≡ false
  pub fits : shard_total x + amount_in x b ≤ v.limit

abbrev pub AllTake : Setting → Submission → List Holding → Type 0
AllTake v b [] = Unit {0}
AllTake v b (x ∷ xs) = Takes v b x × AllTake v b xs

abbrev pub AreAllHeld : List Holding → Type 0
AreAllHeld [] = Unit {0}
AreAllHeld (x ∷ xs) = AreHeld x.setup x.number x.layers x.base x.record_list × AreAllHeld xs
