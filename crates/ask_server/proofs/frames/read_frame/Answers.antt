use Rattle.std.proofs.Common.{List, ℕ, [], subst}
use Rattle.ask_server.specs.Asks.{HasGiven}
use Rattle.ask_server.proofs.AskLemmas.{given_more}
use Rattle.ask_server.proofs.frames.read_frame.Goals as goal

pub returns-clause-read : goal.returns-clause-read
returns-clause-read g c =
    given_more g.L.Source.read_gives c.args.link.now c.read_up_to.new.link c.read_up_to-2.new.link []
    c.read_up_to.new.frame.items c.read_up_to-2.new.frame.items
    (subst (λ (l : List ℕ). HasGiven g.L.Source.read_gives c.args.link.now c.read_up_to.new.link l
    c.read_up_to.new.frame.items) c.new-frame.ensures.items c.in_ok-read_up_to.ensures.read)
    c.in_ok-read_up_to-2.ensures.read
