use Rattle.std.proofs.Common.{arith, ◌∙◌}
use Rattle.ask_server.proofs.AskLemmas.{given_more}
use Rattle.ask_server.proofs.frames.read_up_to.Goals as goal

pub loop-frame-preserved : goal.loop-frame-preserved
loop-frame-preserved g c = record {
  within = omega (arith, c.in_ok-read_more.ensures.bound, c.loop-frame-test.true, c.len.ensures, c.len-in-loop-frame.ensures);
  given = given_more g.L.Source.read_gives c.args.link.now c.loop-frame.link c.read_more.new.link c.args.frame.now.items
      c.loop-frame.frame.items c.read_more.new.frame.items c.loop-frame.invariant.given c.in_ok-read_more.ensures.read;
  failures = c.in_ok-read_more.ensures.ok ∙ c.loop-frame.invariant.failures;
}
