use Rattle.std.proofs.Common.{refl}
use Rattle.std.proofs.lemmas.Result.{err_from_is_err_and}
use Rattle.mm_text.proofs.EndingLemmas.{ends_text, explains_lack, stops_before_last, stops_behind_last}
use Rattle.mm_text.proofs.FaultLemmas.{plain_lack, not_memory}
use Rattle.mm_text.proofs.line_reader.LineReader.end_text.Goals as goal

pub returns-in-Ok-clause-ok : goal.returns-in-Ok-clause-ok
returns-in-Ok-clause-ok c =
    let o = c.in-Ok.ensures.ok in
    ends_text c.args.limits c.args.self.now.carry.items _ _ _ _ _ _ o.0 c.in-Ok.field-0 o.1 c.in_ok-end_last.ensures.ok
    o.2 o.3

pub returns-in-Err-clause-err : goal.returns-in-Err-clause-err
returns-in-Err-clause-err c =
    explains_lack c.args.limits c.args.self.now.carry.items _ _ _ _ _ _ c.in-Err.kind _ c.in_ok-end_last.ensures.ok
    c.in-Err.ensures.err refl

pub returns-in_err-end_last-clause-kept : goal.returns-in_err-end_last-clause-kept
returns-in_err-end_last-clause-kept c =
    let p = err_from_is_err_and c.from_residual.result c.from_residual.ensures.1 in
    rw p.1 (stops_before_last c.args.limits c.args.self.now.carry.items _ _ _ _ c.in_err-end_last.ensures.kept)

pub returns-in-Err-clause-kept : goal.returns-in-Err-clause-kept
returns-in-Err-clause-kept c = stops_behind_last c.args.limits c.args.self.now.carry.items _ _ _ _ _ _
    c.in_ok-end_last.ensures.ok

pub returns-in-Err-clause-lacks : goal.returns-in-Err-clause-lacks
returns-in-Err-clause-lacks c = λ memory. absurd
    (not_memory c.in-Err.kind (plain_lack c.end_last.new.self.progress.stage c.in-Err.kind c.in-Err.ensures.err) memory)
