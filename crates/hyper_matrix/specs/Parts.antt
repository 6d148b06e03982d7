-- The parts of a matrix in the shards of k: shard s has the rows whose number leaves s when divided by k.
--     part_entries s k es     the entries of shard s: those whose row leaves s when divided by k
--     shard_part s k m         the part in shard s, a matrix of the same dimensions
--     parts_below n k m        the parts in the shards below n, in order
--     shard_cells s k cells    the cells of a list that lie in shard s
--     count_below n k cells    how many lie in the shards below n: where shard n begins, if the shards stand in line
--     InLine k all cells       `all` has the cells of each shard, one shard after the other
use Rattle.std.specs.Prelude.{◌≡◌, ℕ, ◌+◌, ◌<◌, zero, suc, List, [], ◌∷◌, ◌++◌, filter, length, slice_range}
use Rattle.cells.specs.declared.cell.Cell.{Cell}
use Rattle.hyper_matrix.specs.Counts.{Place, part, in_part}
use Rattle.hyper_matrix.specs.Cells.{place_of}
use Rattle.hyper_matrix.specs.Matrix.{Matrix, matrix}

abbrev pub part_entries : ℕ → ℕ → List (Place × ℕ) → List (Place × ℕ)
part_entries s k es = filter (λ (e : Place × ℕ). in_part s k e.0) es

abbrev pub shard_part : ℕ → ℕ → Matrix → Matrix
shard_part s k m = matrix m.rows m.cols (part m.counts s k)

abbrev pub parts_below : ℕ → ℕ → Matrix → List Matrix
parts_below zero k m = []
parts_below (suc n) k m = parts_below n k m ++ shard_part n k m ∷ []

abbrev pub shard_cells : ℕ → ℕ → List Cell → List Cell
shard_cells s k cells = filter (λ cell. in_part s k (place_of cell)) cells

abbrev pub count_below : ℕ → ℕ → List Cell → ℕ
count_below zero k cells = 0
count_below (suc n) k cells = count_below n k cells + length (shard_cells n k cells)

abbrev pub InLine : ℕ → List Cell → List Cell → Type 0
InLine k all cells = (s : ℕ) → s < k →
    slice_range all (count_below s k cells) (count_below (s + 1) k cells) ≡ shard_cells s k cells
