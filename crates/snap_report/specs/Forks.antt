-- What `fork` makes and says.
--     IsForked makes s t i v a
--                     the new file, which went from s to t, has answered that it was made of this book, without a log, of
--                     this setup and of what was accepted
--     fork_line batches total
--                     the line of so many batches with this total
use Rattle.std.specs.Prelude.{ℕ, List, codes, false, Result}
use Rattle.batch_store.specs.Accepted.{Accepted}
use Rattle.batch_store.specs.Setups.{Setting}
use Rattle.snap_file.specs.Origins.{origin}
use Rattle.snap_file.specs.declared.fault.SaveFault.{SaveFault}
use Rattle.snap_file.specs.declared.origin.Identity.{Identity}
use Rattle.snap_file.specs.declared.origin.Origin.{Origin}
use Rattle.snap_report.specs.Made.{IsMade, made_line}

abbrev pub IsForked : {N : Type 0} → (N → Origin → Setting → Accepted → Result (Unit {0}) SaveFault → N → Type 0) → N →
    N → Identity → Setting → Accepted → Type 0
IsForked makes s t i v a = IsMade makes s t (origin i false) v a

abbrev pub fork_line : ℕ → ℕ → List ℕ
fork_line batches total = made_line (codes "forked ") batches total
