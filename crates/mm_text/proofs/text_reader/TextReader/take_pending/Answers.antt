use Rattle.std.proofs.Common.{arith}
use Rattle.std.proofs.lemmas.Result.{err_from_is_err_and}
use Rattle.mm_text.specs.Lines.{IsLine}
use Rattle.mm_text.specs.declared.fault.MmKind.TheVariants.{TooLong}
use Rattle.mm_text.specs.Readings.{pending}
use Rattle.mm_text.proofs.TextReaderLemmas.{takes_twice, shows_through, shows_too_long, first_taken}
use Rattle.mm_text.proofs.text_reader.TextReader.take_pending.Goals as goal

pub returns-in_err-take_front-clause-err : goal.returns-in_err-take_front-clause-err
returns-in_err-take_front-clause-err c =
    let p = err_from_is_err_and c.from_residual-in_err-take_front.result c.from_residual-in_err-take_front.ensures.1 in
    let line : IsLine (pending c.take_whole.new.self) = c.in_ok-take_whole.ensures.rest (omega arith) in
    rw (p.1, p.2) (shows_through c.args.self.now c.take_whole.new.self c.args.block.now.items
    c.take_whole.new.block.items ⊥ ⊥ _ _ c.in_ok-take_whole.ensures.ok (c.in_err-take_front.ensures.err line))

pub returns-in_err-take_front-clause-kept : goal.returns-in_err-take_front-clause-kept
returns-in_err-take_front-clause-kept c =
    let p = err_from_is_err_and c.from_residual-in_err-take_front.result c.from_residual-in_err-take_front.ensures.1 in
    rw p.1 (first_taken c.args.self.now c.take_whole.new.self c.args.block.now.items c.take_whole.new.block.items
    c.in_ok-take_whole.ensures.ok)

pub returns-then-self-eq0-clause-kept : goal.returns-then-self-eq0-clause-kept
returns-then-self-eq0-clause-kept c =
    first_taken c.args.self.now c.take_whole.new.self c.args.block.now.items c.take_whole.new.block.items
    c.in_ok-take_whole.ensures.ok

pub returns-then-self-eq0-clause-err : goal.returns-then-self-eq0-clause-err
returns-then-self-eq0-clause-err c =
    let line : IsLine (pending c.take_whole.new.self) = c.in_ok-take_whole.ensures.rest (omega arith) in
    let twice = takes_twice c.args.self.now c.take_whole.new.self c.take_front.new.self c.args.block.now.items
    c.take_whole.new.block.items c.take_whole.new.block.items
    c.in_ok-take_whole.ensures.ok (c.in_ok-take_front.ensures.ok line c.take_whole.new.block.items) in
    let f = c.fault_here.ensures in
    rw f.kind (shows_through c.args.self.now c.take_front.new.self c.args.block.now.items c.take_whole.new.block.items
    ⊥ ⊥ TooLong c.fault_here.result.line twice
    (shows_too_long c.take_front.new.self _ c.take_front.ensures.empty (omega arith) f.line))

pub returns-clause-ok : goal.returns-clause-ok
returns-clause-ok c =
    let line : IsLine (pending c.take_whole.new.self) = c.in_ok-take_whole.ensures.rest (omega arith) in
    takes_twice c.args.self.now c.take_whole.new.self c.take_front.new.self c.args.block.now.items
    c.take_whole.new.block.items c.take_whole.new.block.items
    c.in_ok-take_whole.ensures.ok (c.in_ok-take_front.ensures.ok line c.take_whole.new.block.items)
