use Rattle.layer_cascade.proofs.CutLemmas.{cuts_none}
use Rattle.layer_cascade.proofs.cuts.are_cuts.Goals as goal

pub loop-cut-init : goal.loop-cut-init
loop-cut-init c = cuts_none c.args.cuts.now
