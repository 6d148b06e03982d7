use Rattle.std.proofs.Common.{◌≡◌, ◌<◌, ℕ}
use Rattle.batch_store.specs.Books.{accepted_in}
use Rattle.snap_export.specs.Minus.{entry_at}
use Rattle.snap_export.proofs.begun.first_other.Given as goal

abbrev pub invariant-entries : goal.invariant-entries
invariant-entries l = (i : ℕ) → i < l.at → entry_at (accepted_in l.new) i ≡ entry_at (accepted_in l.old) i
