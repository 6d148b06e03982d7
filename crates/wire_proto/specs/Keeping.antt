-- What a keeper is asked and what it answers.
--     Event           one call of a keeper, with what it was given and what it answered. A put is two calls, of which
--                     the event tells the last answer
--     settled         what an accepted put is answered, once this is known of its place
use Rattle.std.specs.Prelude.{ℕ, Option, Result, Ok, Err}
use Rattle.std.specs.declared.alloc.AllocError.{AllocError}
use Rattle.hyper_matrix.specs.declared.row_sum.RowSum.{RowSum}
use Rattle.hyper_matrix.specs.Matrix.{Matrix}
use Rattle.batch_store.specs.Batches.{Submission}
use Rattle.batch_store.specs.declared.verdict.Kept.{Kept}
use Rattle.plain_engine.specs.declared.fault.PutFault.TheVariants.{RecordsDiffer}
use Rattle.plain_engine.specs.declared.status.Status.{Status}
use Rattle.wire_proto.specs.declared.keeper.PutRefusal.{PutRefusal}
use Rattle.wire_proto.specs.declared.keeper.PutRefusal.TheVariants.{Put, LogFailed}
use Rattle.wire_proto.specs.declared.keeper.SaveRefusal.{SaveRefusal}
use Rattle.wire_proto.specs.declared.keeper.FoldRefusal.{FoldRefusal}
use Rattle.wire_proto.specs.declared.keeper.Settled.{Settled}
use Rattle.wire_proto.specs.declared.keeper.Settled.TheVariants as place_is
use Rattle.wire_proto.specs.Telling.{Telling}

pub data Event : Type 0 where
  put : Submission → Result Kept PutRefusal → Event
  cell : ℕ → ℕ → Option ℕ → Event
  row : ℕ → RowSum → Event
  status : Status → Event
  export : Result Matrix AllocError → Event
  save : Result ℕ SaveRefusal → Event
  stored : Status → Event
  stats : Result Telling AllocError → Event
  fold : Result ℕ FoldRefusal → Event

abbrev pub settled : Kept → Settled → Result Kept PutRefusal
settled kept place_is.Durable = Ok kept
settled kept place_is.LogFailed = Err LogFailed
settled kept place_is.RecordsDiffer = Err (Put RecordsDiffer)
