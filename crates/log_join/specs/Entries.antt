-- The entries that a join has seen: how many, their total, and their pairs of client and number.
use Rattle.std.specs.Prelude.{◌≡◌, List, length}
use Rattle.batch_store.specs.declared.verdict.Entry.{Entry}
use Rattle.batch_store.specs.Verdicts.{total_of_entries}
use Rattle.snap_file.specs.Lists.{HasPairs}
use Rattle.log_join.specs.declared.seen.Seen.{Seen}

pub record HasSeen (seen : Seen) (es : List Entry) : Type 0 where
  pub pairs : HasPairs seen.pairs es
  pub count : seen.count ≡ length es
  pub total : seen.total ≡ total_of_entries es
