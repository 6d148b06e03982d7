use Rattle.std.proofs.Common.{◌∙◌}
use Rattle.indexmap.proofs.CallerLemmas.{insert_entry-new}
use Rattle.batch_store.specs.Books.{same_key}
use Rattle.segmented_map.proofs.MapLaws.{on_ok_at}
use Rattle.batch_store.proofs.folded.push_folded.Goals as goal

pub returns-clause-lines : goal.returns-clause-lines
returns-clause-lines c =
    on_ok_at c.insert.result _ (c.insert.ensures.succeeds c.requires.room) c.insert.ensures.entries
    ∙ insert_entry-new same_key c.args.lines.now c.args.pair c.args.line c.requires.absent
