use Rattle.std.proofs.Common.{◌∙◌, arith}
use Rattle.std.proofs.lemmas.Result.{err_from_is_err_and}
use Rattle.snap_file.specs.Table.{named}
use Rattle.snap_file.specs.Outcomes.{IsOfBytes}
use Rattle.snap_file.specs.declared.fault.SnapFault.TheVariants.{BadHead}
use Rattle.snap_file.proofs.head.read_named.Goals as goal

judged : IsOfBytes BadHead
judged = (λ e. absurd cc, λ e. absurd cc)

pub next_u8_in-requires-clause-judged : goal.next_u8_in-requires-clause-judged
next_u8_in-requires-clause-judged g c = judged

pub next_u8_in-requires-clause-failures : goal.next_u8_in-requires-clause-failures
next_u8_in-requires-clause-failures g c =
    omega (arith, c.requires.failures, c.in_ok-book_high.ensures.no_failure, c.in_ok-window.ensures.no_failure)

pub returns-in_err-book_high-clause-err : goal.returns-in_err-book_high-clause-err
unfolding named
returns-in_err-book_high-clause-err g c =
    let p = err_from_is_err_and c.from_residual.result c.from_residual.ensures.1 in
    rw (p.1, p.2) (λ s m k h. c.in_err-book_high.ensures.err s m _ h)

pub returns-in_err-window-clause-err : goal.returns-in_err-window-clause-err
unfolding named
returns-in_err-window-clause-err g c =
    let p = err_from_is_err_and c.from_residual-in_err-window.result c.from_residual-in_err-window.ensures.1 in
    rw (p.1, p.2) (λ s m k h. c.in_err-window.ensures.err s m _ (c.in_ok-book_high.ensures.ok s m _ h))

pub returns-in_err-flag-clause-err : goal.returns-in_err-flag-clause-err
unfolding named
returns-in_err-flag-clause-err g c =
    let p = err_from_is_err_and c.from_residual-in_err-flag.result c.from_residual-in_err-flag.ensures.1 in
    rw (p.1, p.2) (λ s m k h.
    c.in_err-flag.ensures.err s m _ (c.in_ok-window.ensures.ok s m _ (c.in_ok-book_high.ensures.ok s m _ h)))

pub returns-clause-ok : goal.returns-clause-ok
unfolding named
returns-clause-ok g c = λ s m k h.
    c.in_ok-flag.ensures.ok s m _ (c.in_ok-window.ensures.ok s m _ (c.in_ok-book_high.ensures.ok s m _ h))

pub returns-clause-no_failure : goal.returns-clause-no_failure
returns-clause-no_failure g c =
    c.in_ok-flag.ensures.no_failure ∙ c.in_ok-window.ensures.no_failure ∙ c.in_ok-book_high.ensures.no_failure
