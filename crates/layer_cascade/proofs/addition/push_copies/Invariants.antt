use Rattle.std.proofs.Common.{◌≡◌, ◌++◌, replicate}
use Rattle.layer_compaction.specs.Shared.{values}
use Rattle.std.specs.Arc.{arc_value}
use Rattle.layer_cascade.proofs.addition.push_copies.Given as goal

abbrev pub invariant-copies : goal.invariant-copies
invariant-copies l = values l.out.items ≡ values l.fn.out.items ++ replicate l._i (arc_value l.layer)
