use Rattle.std.proofs.Common.{◌∙◌, Some, sym, ap}
use Rattle.log_join.proofs.PlaceLemmas.{entry_item}
use Rattle.snap_roll.proofs.entries.batch_entry.Goals as goal

pub returns : goal.returns
returns c =
    ap (λ e. Some e) c.entry.ensures
    ∙ sym (entry_item c.args.batches.now c.args.at c.index-batches-at.result c.deref.result.now c.if-at-batches.false
    c.index-batches-at.is c.deref.ensures)
