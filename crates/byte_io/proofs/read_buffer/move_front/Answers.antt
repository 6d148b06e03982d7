use Rattle.std.proofs.Common.{arith}
use Rattle.byte_io.proofs.BufferLemmas.{moved_front}
use Rattle.byte_io.proofs.read_buffer.move_front.Goals as goal

pub returns-clause-front : goal.returns-clause-front
returns-clause-front c = moved_front c.args.piece.now c.copy_within.new.self c.args.start c.args.count _
    c.requires c.copy_within.ensures.len (omega arith) c.copy_within.ensures.by_index.0
