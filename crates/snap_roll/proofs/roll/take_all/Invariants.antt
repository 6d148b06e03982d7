use Rattle.snap_roll.specs.Held.{IsRolling}
use Rattle.snap_roll.specs.Steps.{GoesOn}
use Rattle.snap_roll.proofs.roll.take_all.Given as goal

abbrev pub invariant-windows : goal.invariant-windows
invariant-windows g l = record {
  whole : IsRolling l.rolling;
  goes : GoesOn g.S.SnapshotFiles.load_gives l.client l.given l.fn.found l.fn.files l.files l.origin l.had l.rolling l.at;
}
