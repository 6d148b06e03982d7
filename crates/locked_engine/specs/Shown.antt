-- What readers of a shard are shown without its lock.
--     Shown               a shard's number, and its layers and the length of its record at a moment
--     IsSightOf v opened s a x
--                         x is a shard of this setup with number s, as a shard keeps itself in an engine that was
--                         opened with this, and these are its layers and the length of its record
--     IsOf x a            this shows a shard as it is
--     IsNext x p a        this shows a shard as it will be once what was prepared is committed
use Rattle.std.specs.Prelude.{◌≡◌, ℕ, ◌+◌, length, refl}
use Rattle.std.specs.Coded.{Coded, code_by, coded×, coded_ℕ}
use Rattle.batch_store.specs.Setups.{Setting}
use Rattle.batch_store.specs.Accepted.{Accepted}
use Rattle.batch_store.specs.Shards.{Holding, Preparation, Sight, coded_sight, layering_of}
use Rattle.locked_engine.specs.Moments.{IsShardOf}

pub record Shown : Type 0 where
  pub number : ℕ
  pub sight : Sight

abbrev pub shown : ℕ → Sight → Shown
shown number sight = record { number = number; sight = sight }

abbrev pub coded_shown : Coded Shown
coded_shown =
    code_by (ℕ × Sight) (coded× coded_ℕ coded_sight) (λ a. (a.number, a.sight)) (λ p. shown p.0 p.1) (λ _. refl)

pub record IsSightOf (v : Setting) (opened : Accepted) (s : ℕ) (a : Sight) (x : Holding) : Type 0 where
  pub shard : IsShardOf v opened s x
  pub layers : a.layers ≡ layering_of x
  pub record_len : a.record_len ≡ length x.record_list

pub record IsOf (x : Holding) (a : Shown) : Type 0 where
  pub number : a.number ≡ x.number
  pub layers : a.sight.layers ≡ layering_of x
  pub record_len : a.sight.record_len ≡ length x.record_list

pub record IsNext (x : Holding) (p : Preparation) (a : Shown) : Type 0 where
  pub number : a.number ≡ x.number
  pub layers : a.sight.layers ≡ p.planned
  pub record_len : a.sight.record_len ≡ length x.record_list + 1
