use Rattle.std.proofs.Common.{◌≡◌, [], arith, take}
use Rattle.std.proofs.lemmas.Result.{err_from_is_err_and, IfOk-weaker, IfErr-weaker, on_err_weaker}
use Rattle.mm_text.proofs.PiecesLemmas.{advances_append, shows_later, stops_later, stops_at_once}
use Rattle.mm_text.proofs.line_reader.LineReader.take_next.Goals as goal

pub returns-in_err-taken-clause-err : goal.returns-in_err-taken-clause-err
returns-in_err-taken-clause-err c =
    let p = err_from_is_err_and c.from_residual.result c.from_residual.ensures.1 in
    let s = c.in_err-taken.ensures.err in
    rw (p.1, p.2) (s c.args.limits)

pub returns-in_err-taken-clause-kept : goal.returns-in_err-taken-clause-kept
returns-in_err-taken-clause-kept c =
    let p = err_from_is_err_and c.from_residual.result c.from_residual.ensures.1 in
    let s = c.in_err-taken.ensures.kept in
    rw p.1 (s c.args.limits)

pub returns-clause-kept : goal.returns-clause-kept
returns-clause-kept c =
    let none : c.in_ok-taken.taken ≡ 0 = omega arith in
    let s = rw none at c.in_ok-taken.ensures.ok in
    on_err_weaker c.take_line.result (λ e. stops_later c.args.limits c.args.bytes.now 0 c.args.self.now.carry.items _ _
    _ _ _ _ _ _ (omega arith) (s c.args.limits)
    (stops_at_once c.args.limits c.args.bytes.now _ _ _ _ _ e)) c.take_line.ensures.kept

pub returns-clause-ok : goal.returns-clause-ok
returns-clause-ok c =
    let none : c.in_ok-taken.taken ≡ 0 = omega arith in
    let s = rw none at c.in_ok-taken.ensures.ok in
    IfOk-weaker c.take_line.result _ _ (λ n a. advances_append c.args.limits [] (take n c.args.bytes.now)
    c.args.self.now.carry.items _ _ _ _ _ _ _ _ _ _ _ (s c.args.limits) a) c.take_line.ensures.ok

pub returns-clause-err : goal.returns-clause-err
returns-clause-err c =
    let none : c.in_ok-taken.taken ≡ 0 = omega arith in
    let s = rw none at c.in_ok-taken.ensures.ok in
    IfErr-weaker c.take_line.result _ _ (λ f h. shows_later c.args.limits [] c.args.bytes.now
    c.args.self.now.carry.items _ _ _ _ _ _ _ f.kind f.line (s c.args.limits) h) c.take_line.ensures.err
