-- The bases of shards beside the whole base that they are parts of.
--     AreNumbered i xs    each of these shards has its place for its number, from i on
--     bases_of xs         the entries of each shard's base
--     AreParts s k ls es  each of these lists has exactly the entries of its shard of k, from shard s on
--     AreSpent ls         each of these lists is empty
use Rattle.std.specs.Prelude.{◌≡◌, ℕ, ◌+◌, List, [], ◌∷◌, map}
use Rattle.std.specs.FinMap.{entries}
use Rattle.hyper_matrix.specs.Counts.{Place}
use Rattle.hyper_matrix.specs.Parts.{part_entries}
use Rattle.batch_store.specs.Shards.{Holding}

abbrev pub AreNumbered : ℕ → List Holding → Type 0
AreNumbered i [] = Unit {0}
AreNumbered i (x ∷ xs) = (x.number ≡ i) × AreNumbered (i + 1) xs

abbrev pub bases_of : List Holding → List (List (Place × ℕ))
bases_of xs = map (λ (x : Holding). entries x.base) xs

abbrev pub AreParts : ℕ → ℕ → List (List (Place × ℕ)) → List (Place × ℕ) → Type 0
AreParts s k [] es = Unit {0}
AreParts s k (l ∷ ls) es = (l ≡ part_entries s k es) × AreParts (s + 1) k ls es

abbrev pub AreSpent : List (List (Place × ℕ)) → Type 0
AreSpent [] = Unit {0}
AreSpent (l ∷ ls) = (l ≡ []) × AreSpent ls
