use Rattle.std.proofs.Common.{◌∙◌, ◌-◌, List, slice_get, sym, ap, arith}
use Rattle.batch_store.specs.Batches.{entries_of, values}
use Rattle.batch_store.specs.Books.{Listing}
use Rattle.log_join.specs.Joins.{known_entries}
use Rattle.log_join.proofs.PlaceLemmas.{get_behind}
use Rattle.log_join.proofs.known.entry_at.Goals as goal

pub returns : goal.returns
returns c =
    let folded = c.list.inside.folded.items in
    let batches = c.list.inside.batches.items in
    let j = c.args.i - c.len-folded.result in
    c.batch_entry.ensures
    ∙ ap (λ l. slice_get (entries_of (values l)) j) c.deref.ensures.value
    ∙ sym (get_behind folded (entries_of (values batches)) c.args.i j
    (omega (arith, c.len-folded.ensures, c.if-i-folded.false)))
    ∙ ap (λ (w : Listing). slice_get (known_entries w) c.args.i) c.list.view_is
