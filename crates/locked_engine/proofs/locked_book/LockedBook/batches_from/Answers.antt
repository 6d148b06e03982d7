use Rattle.std.proofs.Common.{◌≤◌, length, vec_len, sym, ◌∙◌, ap, arith}
use Rattle.batch_store.specs.Accepted.{entries_in}
use Rattle.batch_store.specs.Batches.{values}
use Rattle.batch_store.specs.Books.{Register}
use Rattle.locked_engine.proofs.FollowLaws.{shared_follow}
use Rattle.locked_engine.proofs.locked_book.LockedBook.batches_from.Goals as goal

-- the book's entries were shown, and these are its batches from there on
pub returns-clause-next : goal.returns-clause-next
returns-clause-next g c =
    let a = c.self.inside.book.state in
    let out = c.share_from-is_all.new.out in
    let seen = c.show.new.seen in
    let shown = c.if-not-show.ensures.shown ∙ sym (ap (λ (w : Register). entries_in w.state) c.self.view_is) in
    let unfolded : length a.folded ≤ c.args.from = omega (arith, c.folded.ensures, c.if-from-folded.false) in
    let within : c.args.from ≤ length (entries_in a) = omega (arith, c.len.ensures.value, c.if-from-len.false) in
    shared_follow a c.args.from (vec_len out) (values out.items) seen shown unfolded within
    c.share_from-is_all.ensures.list
