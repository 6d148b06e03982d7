use Rattle.std.proofs.Common.{◌≡◌, ◌++◌, ◌<◌, [], length, take, drop, arith, sym, ap, ◌∙◌, length-take}
use Rattle.std.proofs.Common.{length-drop}
use Rattle.std.proofs.lemmas.List.{take-append-drop, take_all, take_rest}
use Rattle.std.proofs.lemmas.Result.{err_from_is_err_and, on_ok_weaker, IfErr-weaker}
use Rattle.mm_text.specs.Lines.{IsLine}
use Rattle.mm_text.specs.Stages.{state_of, Holds}
use Rattle.mm_text.proofs.PiecesLemmas.{shows_overrun}
use Rattle.mm_text.proofs.WholeTextLemmas.{held_at_start, held_from_start, held_whole, shown_within, shown_too_long}
use Rattle.mm_text.proofs.WholeTextLemmas.{spelled_to_end}
use Rattle.mm_text.proofs.whole_text.judge_text.Goals as goal

pub returns-in_err-taken-clause-err : goal.returns-in_err-taken-clause-err
returns-in_err-taken-clause-err c =
    let p = err_from_is_err_and c.from_residual.result c.from_residual.ensures.1 in
    let m = c.bytes_allowed.result in
    let allowed = c.bytes_allowed.ensures.allowed in
    rw (p.1, p.2) (shown_within c.args.limits c.args.text.now [] (take m c.args.text.now) (drop m c.args.text.now)
    (state_of c.args.lines.now) [] _ _ (sym (take-append-drop m c.args.text.now))
    (omega (arith, length-take m c.args.text.now))
    (held_at_start c.args.limits _ _ _ c.requires.carry c.requires.stage c.requires.count) c.in_err-taken.ensures.err)

pub returns-in_err-carry_on-clause-err : goal.returns-in_err-carry_on-clause-err
returns-in_err-carry_on-clause-err c =
    let p = err_from_is_err_and c.from_residual-in_err-carry_on.result c.from_residual-in_err-carry_on.ensures.1 in
    let m = c.bytes_allowed.result in
    let allowed = c.bytes_allowed.ensures.allowed in
    let bytes = take m c.args.text.now in
    let n = c.in_ok-taken.taken in
    let within = c.in_ok-taken.ensures.within in
    let line : IsLine (drop n bytes) = c.in_ok-taken.ensures.rest (omega arith) in
    let held : Holds c.args.limits (take n bytes) (state_of c.take_lines.new.self) c.take_lines.new.block.items =
    held_from_start c.args.limits (take n bytes) _ _ _ c.args.cells.now.items (state_of c.take_lines.new.self) _
    c.requires.carry c.requires.stage c.requires.count c.requires.empty
    (omega (arith, length-take n bytes, length-take m c.args.text.now)) c.in_ok-taken.ensures.ok in
    let long = rw (take_rest bytes n) at c.in_err-carry_on.ensures.err in
    let whole : c.args.text.now ≡ (take n bytes ++ drop n bytes) ++ drop m c.args.text.now =
    sym (take-append-drop m c.args.text.now)
    ∙ ap (λ t. t ++ drop m c.args.text.now) (sym (take-append-drop n bytes)) in
    rw (p.1, p.2) (shown_within c.args.limits c.args.text.now (take n bytes) (drop n bytes) (drop m c.args.text.now)
    (state_of c.take_lines.new.self) c.take_lines.new.block.items _ _ whole
    (omega (arith, length-take n bytes, length-drop n bytes, length-take m c.args.text.now)) held
    (shows_overrun c.args.limits (drop n bytes) c.take_lines.new.self.carry.items
    c.take_lines.new.self.progress.stage c.take_lines.new.self.progress.lines _ _ line
    c.in_err-carry_on.ensures.kind c.in_err-carry_on.ensures.line long))

pub returns-then-allowed-text-clause-err : goal.returns-then-allowed-text-clause-err
returns-then-allowed-text-clause-err c =
    let m = c.bytes_allowed.result in
    let allowed = c.bytes_allowed.ensures.allowed in
    let bytes = take m c.args.text.now in
    let n = c.in_ok-taken.taken in
    let line : IsLine (drop n bytes) = c.in_ok-taken.ensures.rest (omega arith) in
    let goes = rw (take_rest bytes n) at c.in_ok-carry_on.ensures.ok in
    let held : Holds c.args.limits bytes (state_of c.carry_on.new.self) c.take_lines.new.block.items =
    held_whole c.args.limits bytes n c.args.lines.now c.take_lines.new.self c.carry_on.new.self _ _
    c.requires.carry c.requires.stage c.requires.count c.requires.empty
    (omega (arith, length-take m c.args.text.now)) c.in_ok-taken.ensures.ok line c.in_ok-carry_on.ensures.progress
    goes in
    let less : m < length c.args.text.now = let t = c.if-allowed-text.true in
    omega (arith, length-take m c.args.text.now) in
    rw c.fault_here.ensures.kind (shown_too_long c.args.limits c.args.text.now m _ _ _ _ _ less
    (c.bytes_allowed.ensures.cut less) held c.fault_here.ensures.line)

pub returns-clause-ok : goal.returns-clause-ok
returns-clause-ok c =
    let m = c.bytes_allowed.result in
    let allowed = c.bytes_allowed.ensures.allowed in
    let bytes = take m c.args.text.now in
    let n = c.in_ok-taken.taken in
    let line : IsLine (drop n bytes) = c.in_ok-taken.ensures.rest (omega arith) in
    let goes = rw (take_rest bytes n) at c.in_ok-carry_on.ensures.ok in
    let held : Holds c.args.limits bytes (state_of c.carry_on.new.self) c.take_lines.new.block.items =
    held_whole c.args.limits bytes n c.args.lines.now c.take_lines.new.self c.carry_on.new.self _ _
    c.requires.carry c.requires.stage c.requires.count c.requires.empty
    (omega (arith, length-take m c.args.text.now)) c.in_ok-taken.ensures.ok line c.in_ok-carry_on.ensures.progress
    goes in
    let all : bytes ≡ c.args.text.now = take_all m c.args.text.now
    (let t = c.if-allowed-text.false in omega (arith, length-take m c.args.text.now)) in
    on_ok_weaker c.end_text.result (λ t. spelled_to_end c.args.limits c.args.text.now (state_of c.carry_on.new.self)
    c.take_lines.new.block.items _ _ (rw all at held) t) c.end_text.ensures.ok

pub returns-clause-err : goal.returns-clause-err
returns-clause-err c =
    let m = c.bytes_allowed.result in
    let allowed = c.bytes_allowed.ensures.allowed in
    let bytes = take m c.args.text.now in
    let n = c.in_ok-taken.taken in
    let line : IsLine (drop n bytes) = c.in_ok-taken.ensures.rest (omega arith) in
    let goes = rw (take_rest bytes n) at c.in_ok-carry_on.ensures.ok in
    let held : Holds c.args.limits bytes (state_of c.carry_on.new.self) c.take_lines.new.block.items =
    held_whole c.args.limits bytes n c.args.lines.now c.take_lines.new.self c.carry_on.new.self _ _
    c.requires.carry c.requires.stage c.requires.count c.requires.empty
    (omega (arith, length-take m c.args.text.now)) c.in_ok-taken.ensures.ok line c.in_ok-carry_on.ensures.progress
    goes in
    let all : bytes ≡ c.args.text.now = take_all m c.args.text.now
    (let t = c.if-allowed-text.false in omega (arith, length-take m c.args.text.now)) in
    IfErr-weaker c.end_text.result _ _ (λ f e. e c.args.text.now c.take_lines.new.block.items (rw all at held))
    c.end_text.ensures.err
