use Rattle.std.proofs.Common.{ap, arith, refl, length}
use Rattle.std.specs.Prelude.{Result, Ok, Err, IfErr}
use Rattle.std.proofs.lemmas.Result.{on_ok_weaker}
use Rattle.std.proofs.lemmas.List.{take_all}
use Rattle.mm_text.specs.Readings.{pending}
use Rattle.mm_text.proofs.PiecesLemmas.{advances_front, shows_overrun}
use Rattle.mm_text.proofs.TextReaderLemmas.{takes_pending, shows_pending}
use Rattle.mm_text.proofs.text_reader.TextReader.take_front.Goals as goal

both : {T E : Type 0} {P Q R S : E → Type 0} (r : Result T E) → ((e : E) → P e → Q e → R e → S e) → IfErr r P →
    IfErr r Q → IfErr r R → IfErr r S
both (Ok x) f p q s = tt
both (Err e) f p q s = f e p q s

pub returns-clause-ok : goal.returns-clause-ok
returns-clause-ok c =
    on_ok_weaker c.carry_on-carried.result (λ goes line block.
    takes_pending c.args.self.now _ (length (pending c.args.self.now)) block block refl refl
    (rw c.pending-pending.ensures.value at c.consume.ensures) (omega arith)
    (rw (take_all (length (pending c.args.self.now)) (pending c.args.self.now) (omega arith))
    (advances_front c.args.self.now.limits (pending c.args.self.now) c.args.self.now.lines.carry.items _ _ block _ _ _
    (ap (λ p. p.stage) c.carry_on-carried.ensures.progress) (ap (λ p. p.lines) c.carry_on-carried.ensures.progress) line
    (rw c.pending-pending.ensures.value at goes)))) c.carry_on-carried.ensures.ok

pub returns-clause-err : goal.returns-clause-err
returns-clause-err c =
    both c.carry_on-carried.result (λ f kind line err is. shows_pending c.args.self.now f.kind f.line
    (shows_overrun c.args.self.now.limits (pending c.args.self.now) c.args.self.now.lines.carry.items _ _ f.kind f.line
    is kind line (rw c.pending-pending.ensures.value at err)))
    c.carry_on-carried.ensures.kind c.carry_on-carried.ensures.line c.carry_on-carried.ensures.err
