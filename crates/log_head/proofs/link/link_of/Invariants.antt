use Rattle.std.proofs.Common.{take}
use Rattle.log_head.specs.Links.{HasAdded}
use Rattle.log_head.proofs.link.link_of.Given as goal

abbrev pub invariant-entries : goal.invariant-entries
invariant-entries l = HasAdded l.link (take l.entry-index l.entries)
