use Rattle.std.proofs.Common.{◌≡◌, ◌≤◌, ◌-◌, length}
use Rattle.ask_server.specs.Asks.{HasGiven}
use Rattle.ask_server.proofs.frames.read_up_to.Given as goal

abbrev pub invariant-loop-frame : goal.invariant-loop-frame
invariant-loop-frame g l = record {
  within : length l.frame.items ≤ l.count;
  given : HasGiven g.L.Source.read_gives l.initial.link l.link l.initial.frame.items l.frame.items;
  failures : g.L.Source.failure_count l.link ≡ g.L.Source.failure_count l.initial.link;
}

abbrev pub decreases-loop-frame : goal.decreases-loop-frame
decreases-loop-frame g l = l.count - length l.frame.items
