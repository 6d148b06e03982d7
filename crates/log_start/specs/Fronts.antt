-- What a head names of the batches before its log.
use Rattle.std.specs.Prelude.{◌≡◌, List}
use Rattle.batch_store.specs.declared.verdict.Entry.{Entry}
use Rattle.batch_store.specs.Verdicts.{total_of_entries}
use Rattle.log_head.specs.Links.{HasAdded}
use Rattle.log_start.specs.declared.head.Front.{Front}

-- these entries were added, and no others
pub record HasSummed (front : Front) (es : List Entry) : Type 0 where
  pub total : front.total ≡ total_of_entries es
  pub link : HasAdded front.link es
