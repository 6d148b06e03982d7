use Rattle.std.proofs.Common.{◌∙◌, ◌-◌, slice_get, sym, ap, arith}
use Rattle.batch_store.specs.Batches.{entries_of, values}
use Rattle.batch_store.specs.Books.{Listing, accepted_in}
use Rattle.log_join.proofs.PlaceLemmas.{get_behind}
use Rattle.snap_roll.specs.Has.{entry_at}
use Rattle.snap_roll.proofs.entries.entry_at.Goals as goal

pub returns : goal.returns
returns c =
    let folded = c.list.inside.folded.items in
    let batches = c.list.inside.batches.items in
    let j = c.args.at - c.len-folded.result in
    c.batch_entry.ensures
    ∙ ap (λ l. slice_get (entries_of (values l)) j) c.deref.ensures.value
    ∙ sym (get_behind folded (entries_of (values batches)) c.args.at j
    (omega (arith, c.len-folded.ensures, c.if-at-folded.false)))
    ∙ ap (λ (w : Listing). entry_at (accepted_in w) c.args.at) c.list.view_is
