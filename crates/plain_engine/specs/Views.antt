-- What views of shards show together.
--     Show vs xs          each view shows the layers of the shard at its place
--     HaveSize r c vs     each view has these dimensions
--     sights_content vs   the sum of what the views show
use Rattle.std.specs.Prelude.{◌≡◌, ℕ, List, [], ◌∷◌}
use Rattle.std.specs.FinMap.{empty}
use Rattle.hyper_matrix.specs.Counts.{Counts, ewise_add}
use Rattle.layer_compaction.specs.Shared.{content}
use Rattle.batch_store.specs.Shards.{Holding, Sight, layering_of}

abbrev pub Show : List Sight → List Holding → Type 0
Show [] [] = Unit {0}
Show [] (x ∷ xs) = ⊥
Show (v ∷ vs) [] = ⊥
Show (v ∷ vs) (x ∷ xs) = (v.layers ≡ layering_of x) × Show vs xs

abbrev pub HaveSize : ℕ → ℕ → List Sight → Type 0
HaveSize r c [] = Unit {0}
HaveSize r c (v ∷ vs) = (v.layers.rows ≡ r) × (v.layers.cols ≡ c) × HaveSize r c vs

abbrev pub sights_content : List Sight → Counts
sights_content [] = empty
sights_content (v ∷ vs) = ewise_add (content v.layers.layers) (sights_content vs)
