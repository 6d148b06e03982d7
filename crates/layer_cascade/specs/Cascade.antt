-- The cascade: layers of matrices with cuts, the first cut for the first layer and none for the last.
-- A matrix is added to the first layer; a layer that then has more entries than its cut is added to the next, and is
-- empty from then on.
--     CascadesTo    what the layers are once a matrix was added, told by the place where the cascade ends
--     cascade       the same, as a function
--     cascades      a list of matrices added one after another
--     KeepsCuts     each layer but the last has at most its cut of entries
-- Places of layers count from 0 here.
use Rattle.std.specs.Prelude.{◌≡◌, ℕ, suc, ◌<◌, ◌≤◌, ◌⊎◌, List, [], ◌∷◌, ◌++◌, length, take, drop, replicate}
use Rattle.std.specs.Prelude.{slice_index, if◌then◌else◌, nat_le}
use Rattle.std.specs.FinMap.{empty, len}
use Rattle.hyper_matrix.specs.Counts.{Counts, ewise_add}
use Rattle.layer_compaction.specs.Shared.{content}

-- m and the layers at places 0 to j together
abbrev pub with_first : List Counts → Counts → ℕ → Counts
with_first layers m j = ewise_add m (content (take (suc j) layers))

-- place j can hold m and the layers up to it: it is the last, or all of them have at most its cut of entries
abbrev pub CanHold : List Counts → List ℕ → Counts → ℕ → Type 0
CanHold layers cuts m j = (suc j ≡ length layers) ⊎ (len (with_first layers m j) ≤ slice_index cuts j)

-- the cascade of m ends at place j, the least that can hold it
abbrev pub EndsAt : List Counts → List ℕ → Counts → ℕ → Type 0
EndsAt layers cuts m j = (j < length layers) × CanHold layers cuts m j × ((i : ℕ) → i < j → CanHold layers cuts m i → ⊥)

-- all below place j are empty, at j is m with the layers up to it, and above j they are as before
abbrev pub layers_after : List Counts → Counts → ℕ → List Counts
layers_after layers m j = replicate j empty ++ with_first layers m j ∷ drop (suc j) layers

-- the layers after m was added to them
abbrev pub CascadesTo : List Counts → List ℕ → Counts → List Counts → Type 0
CascadesTo layers cuts m after = (j : ℕ) × (EndsAt layers cuts m j × (after ≡ layers_after layers m j))

abbrev pub cascade : List Counts → List ℕ → Counts → List Counts
cascade [] cuts m = []
cascade (layer ∷ layers) [] m = ewise_add m layer ∷ layers
cascade (layer ∷ layers) (cut ∷ cuts) m =
    if nat_le (len (ewise_add m layer)) cut then ewise_add m layer ∷ layers
    else empty ∷ cascade layers cuts (ewise_add m layer)

abbrev pub cascades : List Counts → List ℕ → List Counts → List Counts
cascades layers cuts [] = layers
cascades layers cuts (m ∷ ms) = cascades (cascade layers cuts m) cuts ms

abbrev pub KeepsCuts : List Counts → List ℕ → Type 0
KeepsCuts [] cuts = Unit {0}
KeepsCuts (layer ∷ layers) [] = Unit {0}
KeepsCuts (layer ∷ layers) (cut ∷ cuts) = (len layer ≤ cut) × KeepsCuts layers cuts
