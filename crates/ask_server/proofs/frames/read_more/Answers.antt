use Rattle.ask_server.proofs.AskLemmas.{given_one}
use Rattle.ask_server.proofs.frames.read_more.Goals as goal

pub returns-in_ok-extend_from_slice-in-Ok-clause-read : goal.returns-in_ok-extend_from_slice-in-Ok-clause-read
returns-in_ok-extend_from_slice-in-Ok-clause-read g c =
    given_one g.L.Source.read_gives c.args.link.now c.read.new.self c.args.frame.now.items
    c.extend_from_slice.new.self.items _ c.in-Ok.ensures.gives c.in_ok-extend_from_slice-in-Ok.ensures.items
