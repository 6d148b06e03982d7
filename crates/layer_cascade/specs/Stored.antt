-- Layers as they are stored: each shared, and never changed, and after the last one what was handed down.
use Rattle.std.specs.Prelude.{◌≡◌, ℕ, ◌+◌, ◌<◌, ◌^◌, List, [], ◌∷◌, length}
use Rattle.std.specs.FinMap.{empty, len}
use Rattle.hyper_matrix.specs.Counts.{Counts, ewise_add}
use Rattle.hyper_matrix.specs.Matrix.{Matrix, matrix}
use Rattle.layer_cascade.specs.Layering.{layering, IsLayering}
use Rattle.layer_compaction.specs.Shared.{all_counts, HaveDims}

-- the layers as contracts see them: the last two of the stored ones are one
abbrev pub seen_layers : List Counts → List Counts
seen_layers [] = []
seen_layers (l ∷ []) = l ∷ []
seen_layers (l ∷ b ∷ []) = ewise_add l b ∷ []
seen_layers (l ∷ m ∷ b ∷ ls) = l ∷ seen_layers (m ∷ b ∷ ls)

-- the last of the stored ones
abbrev pub lowest : List Counts → Counts
lowest [] = empty
lowest (l ∷ []) = l
lowest (l ∷ m ∷ ls) = lowest (m ∷ ls)

-- the layers are as they are to be, all matrices have their dimensions, the entries of the last layer can be counted,
-- and the one that is kept beside them is empty
pub record KeepsLayers (rows cols : ℕ) (cuts : List ℕ) (layers : List Matrix) (spare : Matrix) : Type 0 where
  pub told : IsLayering (layering rows cols cuts (seen_layers (all_counts layers)) (lowest (all_counts layers)))
  pub count : length layers ≡ length cuts + 2
  pub dims : HaveDims rows cols layers
  pub few : len (lowest (seen_layers (all_counts layers))) < 2 ^ 64
  pub none : spare ≡ matrix rows cols empty
