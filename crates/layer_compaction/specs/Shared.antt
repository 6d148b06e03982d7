-- Matrices side by side, each shared, and never changed.
--     content      their sum
--     HaveDims     each has these dimensions
use Rattle.std.specs.Prelude.{◌≡◌, ℕ, List, [], ◌∷◌, map}
use Rattle.std.specs.declared.sync.Arc.{Arc}
use Rattle.std.specs.Arc.{arc_value}
use Rattle.std.specs.FinMap.{empty}
use Rattle.hyper_matrix.specs.Counts.{Counts, ewise_add}
use Rattle.hyper_matrix.specs.Matrix.{Matrix}

-- the matrices behind a list of shared ones
abbrev pub values : {Z : Type 0} → List (Arc Matrix Z) → List Matrix
values runs = map arc_value runs

abbrev pub all_counts : List Matrix → List Counts
all_counts ms = map (λ (m : Matrix). m.counts) ms

abbrev pub content : List Counts → Counts
content [] = empty
content (m ∷ ms) = ewise_add m (content ms)

abbrev pub HaveDims : ℕ → ℕ → List Matrix → Type 0
HaveDims r c [] = Unit {0}
HaveDims r c (m ∷ ms) = (m.rows ≡ r) × (m.cols ≡ c) × HaveDims r c ms
