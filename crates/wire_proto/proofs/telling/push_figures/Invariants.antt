use Rattle.std.proofs.Common.{◌≡◌, ◌++◌, take}
use Rattle.std.specs.Prelude.{flat_map}
use Rattle.wire_proto.specs.Telling.{figure_text}
use Rattle.wire_proto.proofs.telling.push_figures.Given as goal

abbrev pub invariant-figures : goal.invariant-figures
invariant-figures l = l.out.items ≡ l.initial.out.items ++ flat_map figure_text (take l.figure-index l.figures)
