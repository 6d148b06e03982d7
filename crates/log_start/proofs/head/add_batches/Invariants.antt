use Rattle.std.proofs.Common.{◌≡◌, ◌+◌, ◌++◌, List, take}
use Rattle.batch_store.specs.declared.verdict.Entry.{Entry}
use Rattle.batch_store.specs.Batches.{entries_of, values}
use Rattle.batch_store.specs.Verdicts.{total_of_entries}
use Rattle.log_start.specs.Fronts.{HasSummed}
use Rattle.log_start.proofs.head.add_batches.Given as goal

abbrev pub invariant-batches : goal.invariant-batches
invariant-batches l = record {
  summed : (es : List Entry) → HasSummed l.fn.front es →
      HasSummed l.front (es ++ take l.batch-index (entries_of (values l.batches)));
  total : l.front.total ≡ l.fn.front.total + total_of_entries (take l.batch-index (entries_of (values l.batches)));
}
