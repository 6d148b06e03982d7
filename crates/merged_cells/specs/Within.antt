-- The places of a sum that is merged.
use Rattle.std.specs.Prelude.{ℕ}
use Rattle.std.specs.List.{AllByRecursion}
use Rattle.std.specs.FinMap.{entries}
use Rattle.hyper_matrix.specs.Counts.{Counts}
use Rattle.hyper_matrix.specs.Shared.{LiesWithin}

-- each entry lies within these dimensions
abbrev pub LieWithin : ℕ → ℕ → Counts → Type 0
LieWithin rows cols counts = AllByRecursion (LiesWithin rows cols) (entries counts)
