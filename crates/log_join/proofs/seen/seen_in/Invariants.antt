use Rattle.std.proofs.Common.{◌≡◌, take}
use Rattle.batch_store.specs.Verdicts.{total_of_entries}
use Rattle.snap_file.specs.Lists.{HasPairs}
use Rattle.log_join.specs.Joins.{known_entries}
use Rattle.log_join.proofs.seen.seen_in.Given as goal

abbrev pub invariant-entries : goal.invariant-entries
invariant-entries l = record {
  pairs : HasPairs l.pairs (take l.i (known_entries l.list));
  total : l.total ≡ total_of_entries (take l.i (known_entries l.list));
}
