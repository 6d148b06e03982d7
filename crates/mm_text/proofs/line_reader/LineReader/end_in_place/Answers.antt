use Rattle.std.proofs.Common.{arith, refl, length, ◌≡◌}
use Rattle.std.proofs.lemmas.Bool.Decides.{nat_tests}
use Rattle.std.proofs.lemmas.Result.{on_ok_weaker, IfErr-weaker}
use Rattle.mm_text.proofs.CarryingLemmas.{adds_carried, carried_none}
use Rattle.mm_text.proofs.line_reader.LineReader.end_in_place.Goals as goal

pub returns-then-is_empty-clause-ok : goal.returns-then-is_empty-clause-ok
returns-then-is_empty-clause-ok c =
    let none : length c.args.self.now.carry.items ≡ 0 =
    grind (arith, nat_tests, c.is_empty.ensures, c.if-is_empty.true) in
    on_ok_weaker c.end_line.result (λ a. adds_carried c.args.limits c.args.self.now.progress.lines
    c.args.self.now.carry.items c.args.bytes.now c.args.bytes.now _ _ _ _ _
    (λ rest is. let e = carried_none c.args.self.now.progress.lines rest c.args.self.now.carry.items none is in
    rw e refl) a) c.end_line.ensures.ok

pub returns-then-is_empty-clause-err : goal.returns-then-is_empty-clause-err
returns-then-is_empty-clause-err c =
    let none : length c.args.self.now.carry.items ≡ 0 =
    grind (arith, nat_tests, c.is_empty.ensures, c.if-is_empty.true) in
    IfErr-weaker c.end_line.result _ _ (λ f h rest done given is kept. let e = carried_none
    c.args.self.now.progress.lines rest c.args.self.now.carry.items none is in
    rw e (h done given kept)) c.end_line.ensures.err
