use Rattle.std.proofs.Common.{sym}
use Rattle.byte_io.proofs.BufferLemmas.{bytes_left}
use Rattle.byte_io.proofs.read_buffer.ReadBuffer.consume.Goals as goal

pub returns : goal.returns
returns c = bytes_left c.self.inside.piece.items c.args.self.now c.self.inside.start c.self.inside.end c.args.count
    (sym c.self.view_is) c.requires
