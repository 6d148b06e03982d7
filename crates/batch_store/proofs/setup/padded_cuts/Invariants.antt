use Rattle.std.proofs.Common.{◌≡◌, ◌-◌, ◌++◌, take, replicate}
use Rattle.batch_store.proofs.setup.padded_cuts.Given as goal

abbrev pub invariant-fill : goal.invariant-fill
invariant-fill l = l.places ≡ take l.i l.cuts ++ replicate (7 - l.i) 0
