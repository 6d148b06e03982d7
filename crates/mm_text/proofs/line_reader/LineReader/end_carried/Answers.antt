use Rattle.std.proofs.Common.{refl, ap, sym, ◌∙◌, ◌++◌, ◌≡◌}
use Rattle.std.proofs.lemmas.Result.{err_from_is_err_and}
use Rattle.mm_text.proofs.CarryingLemmas.{adds_comment, adds_carried, carried_all}
use Rattle.mm_text.proofs.line_reader.LineReader.end_carried.Goals as goal

pub returns-then-is_comment_here-clause-ok : goal.returns-then-is_comment_here-clause-ok
returns-then-is_comment_here-clause-ok c =
    let test = sym c.is_comment_here.ensures ∙ c.if-is_comment_here.true in
    adds_comment c.args.limits c.args.self.now.progress.lines c.args.self.now.carry.items c.args.bytes.now _ _ _ _ test
    c.skip_line.ensures.stage c.skip_line.ensures.lines

pub returns-in_err-end_line-clause-err : goal.returns-in_err-end_line-clause-err
returns-in_err-end_line-clause-err c =
    let p = err_from_is_err_and c.from_residual.result c.from_residual.ensures.1 in
    rw (p.1, p.2) (λ rest done given is kept.
    let test = sym c.is_comment_here.ensures ∙ c.if-is_comment_here.false in
    let whole : c.as_slice.result.now ≡ rest ++ c.args.bytes.now =
    c.as_slice.ensures.value ∙ c.if-not-carry_bytes.ensures.carried refl
    ∙ ap (λ f. f ++ c.args.bytes.now) (carried_all c.args.self.now.progress.lines rest c.args.self.now.carry.items
    c.args.bytes.now is test) in
    let fault = c.in_err-end_line.ensures.err done given kept in
    rw whole at fault)

pub returns-clause-ok : goal.returns-clause-ok
returns-clause-ok c =
    let test = sym c.is_comment_here.ensures ∙ c.if-is_comment_here.false in
    adds_carried c.args.limits c.args.self.now.progress.lines c.args.self.now.carry.items c.args.bytes.now
    c.as_slice.result.now _ _ _ _ _
    (λ rest is. c.as_slice.ensures.value ∙ c.if-not-carry_bytes.ensures.carried refl
    ∙ ap (λ f. f ++ c.args.bytes.now) (carried_all c.args.self.now.progress.lines rest c.args.self.now.carry.items
    c.args.bytes.now is test))
    c.in_ok-end_line.ensures.ok
