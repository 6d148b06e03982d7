use Rattle.std.proofs.Common.{arith, ◌≡◌, ◌<◌, length}
use Rattle.std.specs.Prelude.{Result, Ok, Err, IfErr}
use Rattle.std.proofs.lemmas.Bool.Decides.{nat_tests}
use Rattle.std.proofs.lemmas.Result.{on_ok_weaker}
use Rattle.mm_text.proofs.EndingLemmas.{ends_none, ends_line, explains_last}
use Rattle.mm_text.proofs.line_reader.LineReader.end_last.Goals as goal

pub returns-then-is_empty-clause-ok : goal.returns-then-is_empty-clause-ok
returns-then-is_empty-clause-ok c =
    let none : length c.args.self.now.carry.items ≡ 0 =
    grind (arith, nat_tests, c.is_empty.ensures, c.if-is_empty.true) in
    ends_none c.args.limits c.args.self.now.carry.items _ _ _ none

pub returns-clause-ok : goal.returns-clause-ok
returns-clause-ok c =
    let some : 0 < length c.args.self.now.carry.items =
    grind (arith, nat_tests, c.is_empty.ensures, c.if-is_empty.false) in
    on_ok_weaker c.end_carried.result (λ a. ends_line c.args.limits c.args.self.now.carry.items _ _ _ _ _ _ some a)
    c.end_carried.ensures.ok

both : {T E : Type 0} {P Q R : E → Type 0} (r : Result T E) → ((e : E) → P e → Q e → R e) → IfErr r P → IfErr r Q →
    IfErr r R
both (Ok x) f p q = tt
both (Err e) f p q = f e p q

pub returns-clause-err : goal.returns-clause-err
returns-clause-err c =
    let some : 0 < length c.args.self.now.carry.items =
    grind (arith, nat_tests, c.is_empty.ensures, c.if-is_empty.false) in
    both c.end_carried.result (λ f line err. explains_last c.args.limits c.args.self.now.carry.items _ _ f.kind f.line
    some line err) c.end_carried.ensures.line c.end_carried.ensures.err
