use Rattle.batch_store.specs.Books.{accepted_in}
use Rattle.snap_roll.proofs.HasLemmas.{passed_on}
use Rattle.snap_roll.proofs.StepLemmas.{takes_of, untakes_of}
use Rattle.snap_roll.proofs.rolling.take_in.Goals as goal

pub returns-in_err-next-clause-err : goal.returns-in_err-next-clause-err
returns-in_err-next-clause-err c =
    let x = c.window.inside in
    let r = c.args.rolling in
    passed_on c.from_residual-in_err-next.result _ c.in_err-next.field-0.0 c.from_residual-in_err-next.ensures.1
    (untakes_of c.args.client r.setup c.args.given x.origin x.setup x.list c.args.window r.book (accepted_in r.list)
    c.in_ok-number.number c.entry_of-entry.result c.in_ok-sum.sum c.in_err-next.field-0.0 c.window.view_is
    c.in_ok-number.ensures.ok c.in_ok-sum.ensures c.entry_of-entry.ensures c.in_err-next.ensures.err)

pub returns-clause-ok : goal.returns-clause-ok
returns-clause-ok c =
    let x = c.window.inside in
    let r = c.args.rolling in (
      c.in_ok-number.number,
      takes_of c.args.client r.setup c.args.given x.origin x.setup x.list c.args.window r.book c.or_else.result
          c.book_in-found.result (accepted_in r.list) (accepted_in c.in_ok-next.next) c.in_ok-number.number
          c.entry_of-entry.result c.in_ok-sum.sum c.window.view_is c.in_ok-number.ensures.ok c.book_in-found.ensures
          c.or_else.ensures c.in_ok-sum.ensures c.entry_of-entry.ensures c.in_ok-next.ensures.added,
    )
