-- The parts of a batch, cut before any shard is asked.
--     part_matrix s k b        the part of a batch in shard s of k, as a matrix
--     part_if_any s k b      the same, and None where no cell of the batch lies there, a stored zero neither
--     parts_if_any n k b  these of the shards below n, in order
--     unless_empty m      a matrix, and None where it has no cell
use Rattle.std.specs.Prelude.{ℕ, zero, suc, List, [], ◌∷◌, ◌++◌, Option, Some, None, ◌==◌, if◌then◌else◌}
use Rattle.std.specs.FinMap.{len}
use Rattle.hyper_matrix.specs.Counts.{part}
use Rattle.hyper_matrix.specs.Matrix.{Matrix, matrix}
use Rattle.batch_store.specs.Batches.{Submission}
use Rattle.batch_store.specs.Parts.{concerns}

abbrev pub part_matrix : ℕ → ℕ → Submission → Matrix
part_matrix s k b = matrix b.matrix.rows b.matrix.cols (part b.matrix.counts s k)

abbrev pub part_if_any : ℕ → ℕ → Submission → Option Matrix
part_if_any s k b = if concerns s k b.matrix.counts then Some (part_matrix s k b) else None

abbrev pub parts_if_any : ℕ → ℕ → Submission → List (Option Matrix)
parts_if_any zero k b = []
parts_if_any (suc n) k b = parts_if_any n k b ++ part_if_any n k b ∷ []

abbrev pub unless_empty : Matrix → Option Matrix
unless_empty m = if len m.counts == 0 then None else Some m
