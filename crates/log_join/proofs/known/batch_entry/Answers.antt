use Rattle.std.proofs.Common.{◌∙◌, Some, sym, ap}
use Rattle.log_join.proofs.PlaceLemmas.{entry_item}
use Rattle.log_join.proofs.known.batch_entry.Goals as goal

pub returns : goal.returns
returns c =
    ap (λ e. Some e) c.entry.ensures
    ∙ sym (entry_item c.args.batches.now c.args.i c.index-batches-i.result c.deref.result.now c.if-i-batches.false
    c.index-batches-i.is c.deref.ensures)
