use Rattle.batch_store.specs.Accepted.{entries_in}
use Rattle.batch_store.specs.Books.{accepted_in}
use Rattle.stored_log.proofs.entries.Told.all_of.Given as goal

abbrev pub ghost-of_list : goal.ghost-of_list
ghost-of_list a = entries_in (accepted_in a._list.now)
