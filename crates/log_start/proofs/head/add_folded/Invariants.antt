use Rattle.std.proofs.Common.{◌≡◌, ◌+◌, ◌++◌, List, take}
use Rattle.batch_store.specs.declared.verdict.Entry.{Entry}
use Rattle.batch_store.specs.Verdicts.{total_of_entries}
use Rattle.log_start.specs.Fronts.{HasSummed}
use Rattle.log_start.proofs.head.add_folded.Given as goal

abbrev pub invariant-entries : goal.invariant-entries
invariant-entries l = record {
  summed : (es : List Entry) → HasSummed l.fn.front es → HasSummed l.front (es ++ take l.entry-index l.folded);
  total : l.front.total ≡ l.fn.front.total + total_of_entries (take l.entry-index l.folded);
}
