use Rattle.std.proofs.Common.{◌≡◌, take}
use Rattle.batch_store.specs.Verdicts.{total_of_entries}
use Rattle.log_head.specs.Links.{HasAdded}
use Rattle.log_join.specs.Joins.{known_entries}
use Rattle.log_join.proofs.known.front_of.Given as goal

abbrev pub invariant-entries : goal.invariant-entries
invariant-entries l = record {
  total : l.total ≡ total_of_entries (take l.i (known_entries l.list));
  link : HasAdded l.link (take l.i (known_entries l.list));
}
