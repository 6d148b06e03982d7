use Rattle.std.proofs.Common.{refl}
use Rattle.mm_text.proofs.EntryLemmas.{begins_with_entry}
use Rattle.mm_text.proofs.plain.plain_entry.Goals as goal

pub returns : goal.returns
returns c =
    begins_with_entry c.args.rows c.args.cols c.args.bytes.now c.in_ok-row.rest.now c.in_ok-col.rest.now
    c.in_ok-count.rest.now
    c.in_ok-row.row c.in_ok-col.col c.in_ok-count.count _ c.in_ok-row.ensures c.in_ok-col.ensures c.in_ok-count.ensures
    refl
