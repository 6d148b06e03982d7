use Rattle.std.proofs.Common.{refl}
use Rattle.mm_text.proofs.TextReaderLemmas.{takes_pending, shows_pending, first_pending}
use Rattle.mm_text.proofs.text_reader.TextReader.take_whole.Goals as goal

pub returns-in-Ok-clause-ok : goal.returns-in-Ok-clause-ok
returns-in-Ok-clause-ok c =
    takes_pending c.args.self.now _ c.in-Ok.taken c.args.block.now.items c.take_lines.new.block.items refl refl
    c.consume.ensures (rw c.pending-pending.ensures.value at c.in-Ok.ensures.within)
    (rw c.pending-pending.ensures.value at c.in-Ok.ensures.ok)

pub returns-in-Err-clause-err : goal.returns-in-Err-clause-err
returns-in-Err-clause-err c =
    shows_pending c.args.self.now _ _ (rw c.pending-pending.ensures.value at c.in-Err.ensures.err)

pub returns-in-Err-clause-kept : goal.returns-in-Err-clause-kept
returns-in-Err-clause-kept c =
    first_pending c.args.self.now _ _ (rw c.pending-pending.ensures.value at c.in-Err.ensures.kept)
