use Rattle.std.proofs.Common.{◌≡◌, ◌++◌, take}
use Rattle.batch_store.specs.Batches.{entries_of, values}
use Rattle.batch_store.specs.Books.{AreAccepted, accepted_in, listing}
use Rattle.log_join.specs.Entries.{HasSeen}
use Rattle.batch_store.specs.Growth.{all_widened}
use Rattle.batch_store.specs.Verdicts.{AllFresh}
use Rattle.log_join.specs.Joins.{known_entries}
use Rattle.log_join.proofs.join.append_new.Given as goal

abbrev pub invariant-batches : goal.invariant-batches
invariant-batches l = record {
  list : l.list ≡ listing l.fn.known.base l.fn.known.folded (l.fn.known.list
      ++ all_widened l.setup (take l.i (values l.batches)));
  seen : HasSeen l.seen (known_entries l.list);
  accepted : AreAccepted l.setup (accepted_in l.list);
  fresh : AllFresh l.setup.limit l.setup.max_batches (known_entries l.fn.known) (entries_of (take l.i
      (values l.batches)));
}
