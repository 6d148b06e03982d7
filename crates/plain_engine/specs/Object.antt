-- The object of one thread. Its state is what was accepted, in order, and nothing else: the base and the entries of
-- folded batches, and the batches behind them; a setup stays beside it. The engine answers as this object does.
--     verdict_in v a b        what the state says of a batch, under the setup's limits
--     answer_of v a b         what a put of the batch is answered
--     state_after v a b       the state that the put leaves: where the verdict is Fresh with the batch at its end, else
--                             as it was
--     cell_of, row_sum_of, export_of
--                             what is read off the sum of all that was accepted
--     status_of a             the number of batches and their total
--     Puts                    what a put may answer, and which state it may leave
use Rattle.std.specs.Prelude.{◌≡◌, ℕ, ◌+◌, Option, Result, Ok, Err}
use Rattle.std.specs.FinMap.{get, len}
use Rattle.hyper_matrix.specs.declared.row_sum.RowSum.{RowSum}
use Rattle.hyper_matrix.specs.Counts.{total}
use Rattle.hyper_matrix.specs.Matrix.{Matrix, matrix}
use Rattle.hyper_matrix.specs.RowOf.{row_of}
use Rattle.batch_store.specs.declared.verdict.Kept.{Kept}
use Rattle.batch_store.specs.declared.verdict.Verdict.{Verdict}
use Rattle.batch_store.specs.declared.verdict.Verdict.TheVariants.{Fresh, Known, NumberReused, OverTotal, BookFull}
use Rattle.batch_store.specs.Setups.{Setting}
use Rattle.batch_store.specs.Batches.{Submission, entry_of, batch_total}
use Rattle.batch_store.specs.Verdicts.{verdict_of, kept}
use Rattle.batch_store.specs.Accepted.{Accepted, entries_in, count_in, total_in, with_batch, summed}
use Rattle.plain_engine.specs.declared.status.Status.{Status}
use Rattle.plain_engine.specs.declared.fault.PutFault.{PutFault}
use Rattle.plain_engine.specs.declared.fault.PutFault.TheVariants as fault

abbrev pub verdict_in : Setting → Accepted → Submission → Verdict
verdict_in v a b = verdict_of v.limit v.max_batches (entries_in a) (entry_of b)

-- a fresh batch is answered its place and the new total, a known one the reply that is kept; the rest is refused
abbrev pub answer_to : Accepted → Submission → Verdict → Result Kept PutFault
answer_to a b Fresh = Ok (kept (count_in a) (total_in a + batch_total b))
answer_to a b (Known k) = Ok k
answer_to a b NumberReused = Err fault.NumberReused
answer_to a b (OverTotal accepted) = Err (fault.OverTotal accepted)
answer_to a b BookFull = Err fault.BookFull

abbrev pub state_by : Accepted → Submission → Verdict → Accepted
state_by a b Fresh = with_batch a b
state_by a b (Known k) = a
state_by a b NumberReused = a
state_by a b (OverTotal accepted) = a
state_by a b BookFull = a

abbrev pub answer_of : Setting → Accepted → Submission → Result Kept PutFault
answer_of v a b = answer_to a b (verdict_in v a b)

abbrev pub state_after : Setting → Accepted → Submission → Accepted
state_after v a b = state_by a b (verdict_in v a b)

abbrev pub cell_of : Accepted → ℕ → ℕ → Option ℕ
cell_of a row col = get (summed a) (row, col)

abbrev pub row_sum_of : Accepted → ℕ → RowSum
row_sum_of a row = record { entries = len (row_of (summed a) row); total = total (row_of (summed a) row) }

abbrev pub export_of : Setting → Accepted → Matrix
export_of v a = matrix v.rows v.cols (summed a)

abbrev pub status_of : Accepted → Status
status_of a = record { batches = count_in a; total = total_in a }

-- what the object answers and leaves; or, of a fresh batch alone, want of memory with the state as it was
abbrev pub Puts : Setting → Accepted → Submission → Result Kept PutFault → Accepted → Type 0
Puts v a b (Err fault.Memory) after = (verdict_in v a b ≡ Fresh) × (after ≡ a)
Puts v a b answer after = (answer ≡ answer_of v a b) × (after ≡ state_after v a b)
