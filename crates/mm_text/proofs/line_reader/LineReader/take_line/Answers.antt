use Rattle.std.proofs.Common.{◌≡◌, ◌++◌, ◌∷◌, [], ◌+◌, take, drop, get_or, eq-eqb, ◌∙◌, ap}
use Rattle.std.proofs.lemmas.Result.{err_from_is_err_and}
use Rattle.std.proofs.lemmas.List.{take_more}
use Rattle.mm_text.proofs.FeedLemmas.{piece_cut}
use Rattle.mm_text.proofs.PiecesLemmas.{advances_none, advances_line, shows_line}
use Rattle.mm_text.proofs.line_reader.LineReader.take_line.Goals as goal

pub returns-in_err-end_in_place-in-Some-clause-err : goal.returns-in_err-end_in_place-in-Some-clause-err
returns-in_err-end_in_place-in-Some-clause-err c =
    let p = err_from_is_err_and c.from_residual.result c.from_residual.ensures.1 in
    let s = c.in-Some.ensures.some in
    rw (p.1, p.2) (shows_line c.args.limits c.args.bytes.now (take c.in-Some.len c.args.bytes.now)
    (drop (c.in-Some.len + 1) c.args.bytes.now) c.args.self.now.carry.items _ _ _ _
    (piece_cut c.args.bytes.now c.in-Some.len s.0 (eq-eqb (get_or c.args.bytes.now c.in-Some.len 0) 10 s.2)) s.1
    c.in_err-end_in_place-in-Some.ensures.line c.in_err-end_in_place-in-Some.ensures.err)

pub returns-in-None-clause-ok : goal.returns-in-None-clause-ok
returns-in-None-clause-ok c = advances_none c.args.limits _ _ _ _

pub returns-in_ok-end_in_place-in-Some-clause-ok : goal.returns-in_ok-end_in_place-in-Some-clause-ok
returns-in_ok-end_in_place-in-Some-clause-ok c =
    let s = c.in-Some.ensures.some in
    let cut : take (c.in-Some.len + 1) c.args.bytes.now ≡ take c.in-Some.len c.args.bytes.now ++ 10 ∷ [] =
    take_more c.args.bytes.now c.in-Some.len 0 s.0 ∙ ap (λ b. take c.in-Some.len c.args.bytes.now ++ b ∷ []) s.2 in
    rw cut (advances_line c.args.limits (take c.in-Some.len c.args.bytes.now) c.args.self.now.carry.items _ _ _ _ _ _ _
    c.in_ok-end_in_place-in-Some.ensures.ok s.1 c.in_ok-end_in_place-in-Some.ensures.carry)
