use Rattle.layer_cascade.proofs.CutLemmas.{CutsUpTo}
use Rattle.layer_cascade.proofs.cuts.are_cuts.Given as goal

abbrev pub invariant-loop-cut : goal.invariant-loop-cut
invariant-loop-cut l = CutsUpTo l.cuts l.cut-index l.least
