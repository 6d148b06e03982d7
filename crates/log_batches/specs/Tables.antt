-- The batches of a block as a table of fields, in the manner of a snapshot's: each field is judged as soon as it is
-- there. Each batch is judged by itself, so a pair of client and number may stand more than once.
use Rattle.std.specs.Prelude.{ℕ, zero, suc, ◌+◌, ◌-◌, ◌^◌, List, [], ◌∷◌, ◌++◌}
use Rattle.std.specs.Int.{w64}
use Rattle.hyper_matrix.specs.Matrix.{matrix}
use Rattle.hyper_matrix.specs.Cells.{built_of}
use Rattle.batch_store.specs.Batches.{Submission, submission}
use Rattle.snap_file.specs.Table.{Reading, Part, ◌>>=◌, give, number, field_in, no_cells, cells_behind}
use Rattle.snap_file.specs.declared.head.Head.{Head}
use Rattle.snap_file.specs.declared.fault.SnapFault.TheVariants.{BadBatch}

-- one batch more
unfoldable pub one_batch : Head → List Submission → Part (List Submission)
one_batch h list = do
  client ← number w64
  batch_number ← number w64
  entry_count ← number w64
  tally ← cells_behind h h.total entry_count (no_cells 0)
  give (list ++ submission client batch_number (matrix h.setup.rows h.setup.cols (built_of tally.cells)) ∷ [])

unfoldable pub more_batches : Head → ℕ → List Submission → Part (List Submission)
more_batches h zero list = give list
more_batches h (suc n) list = do
  next ← one_batch h list
  more_batches h n next

-- the number of the batches, and the batches
unfoldable pub counted_batches : Head → Part (List Submission)
counted_batches h = do
  n ← field_in w64 1 (2 ^ 64 - 1) BadBatch
  more_batches h n []
