use Rattle.std.proofs.Common.{◌<◌}
use Rattle.batch_store.specs.Books.{accepted_in}
use Rattle.snap_roll.specs.Has.{IsAt}
use Rattle.snap_roll.specs.declared.has.Found.{Found}
use Rattle.snap_roll.proofs.has.find.Given as goal

abbrev pub invariant-entries : goal.invariant-entries
invariant-entries l = (found : Found) → found.index < l.at → IsAt (accepted_in l.list) l.client l.number found → ⊥
