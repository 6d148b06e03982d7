-- What contracts see of a setup, and which setups there are.
--     Setting         rows, columns, the cuts of each shard's layers, the number of shards, the limit on the accepted
--                     total, and the most batches that may be accepted
--     IsSetting       each value lies in its range: dimensions 1 to 2^60, cuts as layers have them, 1 to 64 shards, a
--                     limit of 1 to 2^64 - 1, and 1 to 2^30 batches
--     FirstFails      the first of the values, in this order, that lies outside its range
use Rattle.std.specs.Prelude.{◌≡◌, ℕ, ◌-◌, ◌<◌, ◌≤◌, ◌^◌, List, ◌++◌, length, take, replicate, refl}
use Rattle.std.specs.Coded.{Coded, code_by, coded×, coded_ℕ, coded_list}
use Rattle.cells.specs.Bounds.{IsDimension}
use Rattle.layer_cascade.specs.Cuts.{AreCuts}
use Rattle.batch_store.specs.declared.fault.SetupFault.{SetupFault}
use Rattle.batch_store.specs.declared.fault.SetupFault.TheVariants.{BadDimension, BadCuts, BadShards, BadLimit}
use Rattle.batch_store.specs.declared.fault.SetupFault.TheVariants.{BadBatches}

pub record Setting : Type 0 where
  pub rows : ℕ
  pub cols : ℕ
  pub cuts : List ℕ
  pub shards : ℕ
  pub limit : ℕ
  pub max_batches : ℕ

abbrev pub setting : ℕ → ℕ → List ℕ → ℕ → ℕ → ℕ → Setting
setting r c k s l m = record { rows = r; cols = c; cuts = k; shards = s; limit = l; max_batches = m }

abbrev pub coded_setting : Coded Setting
coded_setting =
    code_by (ℕ × (ℕ × (List ℕ × (ℕ × (ℕ × ℕ)))))
    (coded× coded_ℕ (coded× coded_ℕ (coded× (coded_list coded_ℕ) (coded× coded_ℕ (coded× coded_ℕ coded_ℕ)))))
    (λ v. (v.rows, (v.cols, (v.cuts, (v.shards, (v.limit, v.max_batches))))))
    (λ p. setting p.0 p.1.0 p.1.1.0 p.1.1.1.0 p.1.1.1.1.0 p.1.1.1.1.1) (λ _. refl)

abbrev pub HasDimensions : Setting → Type 0
HasDimensions v = IsDimension v.rows × IsDimension v.cols

abbrev pub HasShards : Setting → Type 0
HasShards v = (1 ≤ v.shards) × (v.shards ≤ 64)

abbrev pub HasLimit : Setting → Type 0
HasLimit v = 1 ≤ v.limit

abbrev pub HasBatches : Setting → Type 0
HasBatches v = (1 ≤ v.max_batches) × (v.max_batches ≤ 2 ^ 30)

pub record IsSetting (v : Setting) : Type 0 where
  pub dims : HasDimensions v
  pub cuts : AreCuts v.cuts
  pub shards : HasShards v
  pub limit : HasLimit v
  pub fits : v.limit < 2 ^ 64
  pub batches : HasBatches v

abbrev pub FirstFails : Setting → SetupFault → Type 0
FirstFails v BadDimension = HasDimensions v → ⊥
FirstFails v BadCuts = HasDimensions v × (AreCuts v.cuts → ⊥)
FirstFails v BadShards = HasDimensions v × AreCuts v.cuts × (HasShards v → ⊥)
FirstFails v BadLimit = HasDimensions v × AreCuts v.cuts × HasShards v × (HasLimit v → ⊥)
FirstFails v BadBatches = HasDimensions v × AreCuts v.cuts × HasShards v × HasLimit v × (HasBatches v → ⊥)

-- cuts with zeros behind them, in seven places
abbrev pub padded : List ℕ → List ℕ
padded cuts = cuts ++ replicate (7 - length cuts) 0

-- the first n of seven places are cuts, and those behind are zeros
pub record ArePadded (places : List ℕ) (n : ℕ) : Type 0 where
  pub told : padded (take n places) ≡ places
  pub counted : length (take n places) ≡ n

pub record KeepsSetting (v : Setting) (places : List ℕ) (n : ℕ) : Type 0 where
  pub told : IsSetting v
  pub padded : ArePadded places n
