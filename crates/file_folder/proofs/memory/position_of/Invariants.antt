use Rattle.std.proofs.Common.{◌≡◌, drop}
use Rattle.std.specs.Ordering.{nat_cmp}
use Rattle.std.specs.Cmp.Lexicographic.{slice_cmp}
use Rattle.std.specs.FinMap.{find}
use Rattle.file_folder.specs.Memory.{listed}
use Rattle.file_folder.proofs.memory.position_of.Given as goal

-- no file before has the name
abbrev pub invariant-loop-i : goal.invariant-loop-i
invariant-loop-i l = find (slice_cmp nat_cmp) l.name (listed l.files) ≡
    find (slice_cmp nat_cmp) l.name (listed (drop l.i l.files))
