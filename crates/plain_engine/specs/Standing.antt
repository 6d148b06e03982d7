-- What contracts see of an engine, and what it keeps.
--     Standing        the setup, the book, and the shards in order
--     StandsAt        a shard stands at its place: its number, its setup, its base, which is the part of the book's, its
--                     record, which follows the batches that aren't folded, and its layers, which add up to the base
--                     and the parts of the record's batches
--     KeepsEngine     there is a shard at each place
--     IsWhole         what follows for callers: also the shards' totals and contents add up to those of the book
--     bare            an engine but for the free places, which no answer depends on
use Rattle.std.specs.Prelude.{◌≡◌, ℕ, ◌+◌, List, [], ◌∷◌, length, map, replicate, refl}
use Rattle.std.specs.Coded.{Coded, code_by, coded×, coded_list}
use Rattle.std.specs.FinMap.{empty}
use Rattle.hyper_matrix.specs.Counts.{Counts, ewise_add, part}
use Rattle.layer_compaction.specs.Shared.{content}
use Rattle.batch_store.specs.Setups.{Setting, coded_setting}
use Rattle.batch_store.specs.Accepted.{Accepted, total_in, summed}
use Rattle.batch_store.specs.Parts.{record_content}
use Rattle.batch_store.specs.Books.{Register, register, coded_register, AreAccepted}
use Rattle.batch_store.specs.Shards.{Holding, holding, coded_holding, shard_total}
use Rattle.plain_engine.specs.Records.{Follows}

pub record Standing : Type 0 where
  pub setup : Setting
  pub book : Register
  pub shards : List Holding

abbrev pub standing : Setting → Register → List Holding → Standing
standing v book shards = record { setup = v; book = book; shards = shards }

abbrev pub coded_standing : Coded Standing
coded_standing =
    code_by (Setting × (Register × List Holding))
    (coded× coded_setting (coded× coded_register (coded_list coded_holding)))
    (λ e. (e.setup, (e.book, e.shards))) (λ p. standing p.0 p.1.0 p.1.1) (λ _. refl)

pub record StandsAt (v : Setting) (a : Accepted) (i : ℕ) (x : Holding) : Type 0 where
  pub number : x.number ≡ i
  pub setup : x.setup ≡ v
  pub based : x.base ≡ part a.base i v.shards
  pub follows : Follows i v.shards x.record_list a.list
  pub sums : content x.layers ≡ record_content i v.shards x.base x.record_list

-- each of these shards, the first of which is that of place i
abbrev pub Stand : Setting → Accepted → ℕ → List Holding → Type 0
Stand v a i [] = Unit {0}
Stand v a i (x ∷ xs) = StandsAt v a i x × Stand v a (i + 1) xs

pub record KeepsEngine (v : Setting) (book : Register) (shards : List Holding) : Type 0 where
  pub of_setup : book.setup ≡ v
  pub accepted : AreAccepted v book.state
  pub count : length shards ≡ v.shards
  pub stand : Stand v book.state 0 shards

-- the totals of shards together
abbrev pub shards_total : List Holding → ℕ
shards_total [] = 0
shards_total (x ∷ xs) = shard_total x + shards_total xs

-- the sum of what shards hold
abbrev pub shards_content : List Holding → Counts
shards_content [] = empty
shards_content (x ∷ xs) = ewise_add (content x.layers) (shards_content xs)

pub record IsWhole (e : Standing) : Type 0 where
  pub keeps : KeepsEngine e.setup e.book e.shards
  pub totals : shards_total e.shards ≡ total_in e.book.state
  pub sums : shards_content e.shards ≡ summed e.book.state

-- the layers of each of these shards, as they are made
abbrev pub AreEmpty : Setting → List Holding → Type 0
AreEmpty v [] = Unit {0}
AreEmpty v (x ∷ xs) = (x.layers ≡ replicate (length v.cuts + 1) empty) × AreEmpty v xs

-- each shard was made with this setup
abbrev pub HaveSetup : Setting → List Holding → Type 0
HaveSetup v [] = Unit {0}
HaveSetup v (x ∷ xs) = (x.setup ≡ v) × HaveSetup v xs

-- each of these shards has its place for its number, from i on, its base is the part of the whole base, and its record
-- follows the batches
abbrev pub AreTogether : ℕ → Accepted → ℕ → List Holding → Type 0
AreTogether k a i [] = Unit {0}
AreTogether k a i (x ∷ xs) =
    (x.number ≡ i) × (x.base ≡ part a.base i k) × Follows i k x.record_list a.list × AreTogether k a (i + 1) xs

abbrev pub bare_shard : Holding → Holding
bare_shard x = holding x.setup x.number x.layers x.below x.base x.record_list 0

abbrev pub bare : Standing → Standing
bare e = standing e.setup (register e.book.setup e.book.state 0) (map bare_shard e.shards)
