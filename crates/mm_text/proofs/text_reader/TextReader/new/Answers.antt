use Rattle.std.proofs.Common.{refl}
use Rattle.mm_text.proofs.TextReaderLemmas.{has_read_none}
use Rattle.mm_text.proofs.text_reader.TextReader.new.Goals as goal

pub returns : goal.returns
returns c = has_read_none c.args.limits _ refl c.in_ok-buffer.ensures c.in_ok-lines.ensures.carry
    c.in_ok-lines.ensures.stage c.in_ok-lines.ensures.lines refl
