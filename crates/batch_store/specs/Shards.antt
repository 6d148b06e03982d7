-- What contracts see of a shard, what it keeps, and when it may take in what was prepared.
--     Holding         the setup, the shard's number, what each layer holds, what was handed down, which is a part of what
--                     the last layer holds, the base, the batches of the record in order, and for how many more the
--                     record has room without memory
--     AreHeld         the layers add up to the base and the parts of the record's batches, each layer but the last
--                     keeps its cut, no client and number stands twice in the record, each batch has the setup's
--                     dimensions, the base's rows are the shard's own, and the limit holds
--     Preparation     a batch, the total of its part, and the layers with the part
--     IsReady         this preparation is of the shard as it is now, and may be committed
--     Refuses         why a shard can't take a batch
--     Sight           the layers of a moment, and how many batches were in the record then
--     KeepsShard      what a shard's fields keep: all that, the setup's dimensions and cuts, and each batch under its
--                     client and number
use Rattle.std.specs.Prelude.{◌≡◌, ℕ, ◌+◌, ◌<◌, ◌≤◌, ◌^◌, Bool, true, false, ◌==◌, ◌&&◌, List, [], ◌∷◌, length, map, refl}
use Rattle.std.specs.List.{list_any}
use Rattle.batch_store.specs.declared.fault.ShardFault.{ShardFault}
use Rattle.batch_store.specs.declared.fault.ShardFault.TheVariants.{Memory, AlreadyThere, Over}
use Rattle.std.specs.Coded.{Coded, code_by, coded×, coded_ℕ, coded_list}
use Rattle.std.specs.Arc.{arc_value}
use Rattle.std.specs.declared.sync.Arc.{Arc}
use Rattle.std.specs.declared.alloc.Global.{Global}
use Rattle.hyper_matrix.specs.Counts.{Counts, coded_counts, total, part}
use Rattle.hyper_matrix.specs.Matrix.{Matrix, matrix}
use Rattle.layer_compaction.specs.Shared.{content}
use Rattle.layer_cascade.specs.Cascade.{cascade, KeepsCuts}
use Rattle.layer_cascade.specs.Layering.{Layering, layering, coded_layering}
use Rattle.batch_store.specs.declared.pair.Pair.{Pair}
use Rattle.batch_store.specs.Setups.{Setting, coded_setting, IsSetting}
use Rattle.batch_store.specs.Batches.{Submission, coded_submission}
use Rattle.batch_store.specs.Parts.{part_of, record_content}
use Rattle.batch_store.specs.Books.{AreDistinct, HaveDims}

pub record Holding : Type 0 where
  pub setup : Setting
  pub number : ℕ
  pub layers : List Counts
  pub below : Counts
  pub base : Counts
  pub record_list : List Submission
  pub free : ℕ

abbrev pub holding : Setting → ℕ → List Counts → Counts → Counts → List Submission → ℕ → Holding
holding s n l u b r f =
    record { setup = s; number = n; layers = l; below = u; base = b; record_list = r; free = f }

abbrev pub coded_holding : Coded Holding
coded_holding =
    code_by (Setting × (ℕ × (List Counts × (Counts × (Counts × (List Submission × ℕ))))))
    (coded× coded_setting (coded× coded_ℕ (coded× (coded_list coded_counts)
    (coded× coded_counts (coded× coded_counts (coded× (coded_list coded_submission) coded_ℕ))))))
    (λ v. (v.setup, (v.number, (v.layers, (v.below, (v.base, (v.record_list, v.free)))))))
    (λ p. holding p.0 p.1.0 p.1.1.0 p.1.1.1.0 p.1.1.1.1.0 p.1.1.1.1.1.0 p.1.1.1.1.1.1) (λ _. refl)

-- the total of what a shard's layers hold
abbrev pub shard_total : Holding → ℕ
shard_total v = total (content v.layers)

-- the part of a batch in the shard
abbrev pub part_in : Holding → Submission → Counts
part_in v b = part b.matrix.counts v.number v.setup.shards

-- the same as a matrix
abbrev pub matrix_in : Holding → Submission → Matrix
matrix_in v b = matrix b.matrix.rows b.matrix.cols (part_in v b)

-- its total
abbrev pub amount_in : Holding → Submission → ℕ
amount_in v b = part_of v.number v.setup.shards b.matrix.counts

-- a shard is as before, but for free places, which may be more
pub record Stays (old new : Holding) : Type 0 where
  pub setup : new.setup ≡ old.setup
  pub number : new.number ≡ old.number
  pub layers : new.layers ≡ old.layers
  pub below : new.below ≡ old.below
  pub base : new.base ≡ old.base
  pub record_list : new.record_list ≡ old.record_list
  pub room : old.free ≤ new.free

-- the batch has the setup's dimensions
abbrev pub HasDims : Setting → Submission → Type 0
HasDims v b = (b.matrix.rows ≡ v.rows) × (b.matrix.cols ≡ v.cols)

-- the layers as contracts of the crate below see them
abbrev pub layering_of : Holding → Layering
layering_of v = layering v.setup.rows v.setup.cols v.setup.cuts v.layers v.below

-- the same with the part of a batch added by the cascade
abbrev pub layering_with : Holding → Submission → Layering
layering_with v b =
    layering v.setup.rows v.setup.cols v.setup.cuts (cascade v.layers v.setup.cuts (part_in v b)) v.below

-- the layers, the base and the record of a shard
pub record AreHeld (setup : Setting) (number : ℕ) (layers : List Counts) (base : Counts)
    (list : List Submission) : Type 0 where
  pub sound : IsSetting setup
  pub here : number < setup.shards
  pub sums : content layers ≡ record_content number setup.shards base list
  pub own : part base number setup.shards ≡ base
  pub cuts_kept : KeepsCuts layers setup.cuts
  pub distinct : AreDistinct list
  pub dims : HaveDims setup.rows setup.cols list
  pub within : total (content layers) ≤ setup.limit

pub record Preparation : Type 0 where
  pub batch : Submission
  pub amount : ℕ
  pub planned : Layering

abbrev pub coded_preparation : Coded Preparation
coded_preparation =
    code_by (Submission × (ℕ × Layering)) (coded× coded_submission (coded× coded_ℕ coded_layering))
    (λ v. (v.batch, (v.amount, v.planned))) (λ p. record { batch = p.0; amount = p.1.0; planned = p.1.1 }) (λ _. refl)

-- whether a batch of the list has this client and number
abbrev pub stands : ℕ → ℕ → List Submission → Bool
stands client number list = list_any (λ (b : Submission). (client == b.client) && (number == b.number)) list

-- why a shard can't take a batch, in this order
abbrev pub Refuses : Holding → Submission → ShardFault → Type 0
Refuses v b AlreadyThere = stands b.client b.number v.record_list ≡ true
Refuses v b Over = (stands b.client b.number v.record_list ≡ false) × (v.setup.limit < shard_total v + amount_in v b)
Refuses v b Memory =
    (stands b.client b.number v.record_list ≡ false) × (shard_total v + amount_in v b ≤ v.setup.limit)

pub record IsReady (v : Holding) (p : Preparation) : Type 0 where
  pub planned : p.planned ≡ layering_with v p.batch
  pub amount : p.amount ≡ amount_in v p.batch
  pub absent : stands p.batch.client p.batch.number v.record_list ≡ false
  pub rows : p.batch.matrix.rows ≡ v.setup.rows
  pub cols : p.batch.matrix.cols ≡ v.setup.cols
  pub fits : shard_total v + p.amount ≤ v.setup.limit
  pub few : length v.record_list < 2 ^ 62
  pub room : 0 < v.free

-- what a reader sees of a shard at one moment
pub record Sight : Type 0 where
  pub layers : Layering
  pub record_len : ℕ

abbrev pub coded_sight : Coded Sight
coded_sight =
    code_by (Layering × ℕ) (coded× coded_layering coded_ℕ)
    (λ v. (v.layers, v.record_len)) (λ p. record { layers = p.0; record_len = p.1 }) (λ _. refl)

-- the batches of a record as it is stored
abbrev pub recorded : List (Pair × Arc Submission Global) → List Submission
recorded held = map (λ (e : Pair × Arc Submission Global). arc_value e.1) held

-- each batch stands under its pair
abbrev pub AreKeyed : List (Pair × Arc Submission Global) → Type 0
AreKeyed [] = Unit {0}
AreKeyed (e ∷ es) =
    (e.0.client ≡ (arc_value e.1).client) × (e.0.number ≡ (arc_value e.1).number) × AreKeyed es

pub record KeepsShard (setup : Setting) (number : ℕ) (layers : Layering) (base : Matrix)
    (held : List (Pair × Arc Submission Global)) : Type 0 where
  pub told : AreHeld setup number layers.layers base.counts (recorded held)
  pub base_rows : base.rows ≡ setup.rows
  pub base_cols : base.cols ≡ setup.cols
  pub rows : layers.rows ≡ setup.rows
  pub cols : layers.cols ≡ setup.cols
  pub cuts : layers.cuts ≡ setup.cuts
  pub count : length layers.layers ≡ length setup.cuts + 1
  pub keyed : AreKeyed held
  pub few : length held ≤ 2 ^ 62
