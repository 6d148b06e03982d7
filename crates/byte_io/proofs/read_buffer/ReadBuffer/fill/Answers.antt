use Rattle.std.proofs.Common.{sym, ◌∙◌, ◌-◌, arith}
use Rattle.byte_io.proofs.BufferLemmas.{filled}
use Rattle.byte_io.proofs.read_buffer.ReadBuffer.fill.Goals as goal

pub returns-in-Ok-clause-ok : goal.returns-in-Ok-clause-ok
returns-in-Ok-clause-ok g c =
    filled {S = g.row.R.Denot} g.R.Source.read_gives c.args.r.now c.refill.new.r c.refill.new.piece.items
    c.args.self.now (c.self.inside.end - c.self.inside.start) c.in-Ok.came (sym c.self.view_is ∙ sym c.in-Ok.ensures.front)
    (omega (arith, c.in-Ok.ensures.bound, c.in-Ok.ensures.len, c.bytes_wanted-wanted.ensures.room))
    c.in-Ok.ensures.gives c.in-Ok.ensures.bytes
