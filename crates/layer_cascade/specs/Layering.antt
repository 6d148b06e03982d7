-- What contracts see of layers: their dimensions, their cuts, what each layer holds, the first layer first, and what was
-- handed down, which lies below the last layer and is a part of what that holds.
use Rattle.std.specs.Prelude.{◌≡◌, ℕ, zero, suc, ◌+◌, ◌<◌, ◌^◌, refl, List, [], ◌∷◌, ◌++◌, length, replicate}
use Rattle.std.specs.Prelude.{Option, Some, None}
use Rattle.std.specs.Coded.{Coded, code_by, coded×, coded_ℕ, coded_list}
use Rattle.std.specs.FinMap.{empty, len}
use Rattle.cells.specs.Bounds.{IsDimension}
use Rattle.hyper_matrix.specs.Counts.{Counts, coded_counts, ewise_add, total}
use Rattle.layer_compaction.specs.Shared.{content}
use Rattle.layer_cascade.specs.Cascade.{KeepsCuts}
use Rattle.layer_cascade.specs.Cuts.{AreCuts}

pub record Layering : Type 0 where
  pub rows : ℕ
  pub cols : ℕ
  pub cuts : List ℕ
  pub layers : List Counts
  pub below : Counts

abbrev pub layering : ℕ → ℕ → List ℕ → List Counts → Counts → Layering
layering r c k l b = record { rows = r; cols = c; cuts = k; layers = l; below = b }

abbrev pub coded_layering : Coded Layering
coded_layering =
    code_by (ℕ × (ℕ × (List ℕ × (List Counts × Counts))))
    (coded× coded_ℕ (coded× coded_ℕ (coded× (coded_list coded_ℕ) (coded× (coded_list coded_counts) coded_counts))))
    (λ v. (v.rows, (v.cols, (v.cuts, (v.layers, v.below)))))
    (λ p. layering p.0 p.1.0 p.1.1.0 p.1.1.1.0 p.1.1.1.1) (λ _. refl)

-- one layer more than cuts, and all of them empty
abbrev pub no_layers : ℕ → ℕ → List ℕ → Layering
no_layers r c cuts = layering r c cuts (replicate (length cuts + 1) empty) empty

-- empty layers, and this below the last
abbrev pub layers_on : ℕ → ℕ → List ℕ → Counts → Layering
layers_on r c cuts b = layering r c cuts (replicate (length cuts) empty ++ b ∷ []) b

-- the last layer holds this, and something of its own
abbrev pub IsUnder : Counts → List Counts → Type 0
IsUnder below layers =
    (before : List Counts) × (own : Counts) × (layers ≡ before ++ ewise_add own below ∷ [])

-- the entries of layer i, counted from 1, if there is such a layer
abbrev pub entries_of_layer : List Counts → ℕ → Option ℕ
entries_of_layer layers zero = None
entries_of_layer [] (suc i) = None
entries_of_layer (layer ∷ layers) (suc zero) = Some (len layer)
entries_of_layer (layer ∷ layers) (suc (suc i)) = entries_of_layer layers (suc i)

-- what all layers keep at any time
pub record IsLayering (v : Layering) : Type 0 where
  pub rows : IsDimension v.rows
  pub cols : IsDimension v.cols
  pub cuts : AreCuts v.cuts
  pub count : length v.layers ≡ length v.cuts + 1
  pub kept : KeepsCuts v.layers v.cuts
  pub fits : total (content v.layers) < 2 ^ 64
  pub under : IsUnder v.below v.layers
