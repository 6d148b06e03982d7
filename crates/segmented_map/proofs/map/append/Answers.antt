use Rattle.std.proofs.Common.{◌∙◌}
use Rattle.indexmap.proofs.CallerLemmas.{insert_entry-new}
use Rattle.segmented_map.proofs.MapLaws.{on_ok_at}
use Rattle.segmented_map.proofs.map.append.Goals as goal

pub returns-clause-entries : goal.returns-clause-entries
returns-clause-entries g c =
    on_ok_at c.insert.result _ (c.insert.ensures.succeeds c.requires.room) c.insert.ensures.entries
    ∙ insert_entry-new g.K.PartialEq.eq c.args.map.now c.args.key c.args.value c.requires.absent
